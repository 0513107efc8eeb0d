-- Files in memory are a list of changes.
use Rattle.std.specs.Prelude.{List, None, map, string_bytes}
use Rattle.std.specs.Option.{option_map}
use Rattle.hack_files.specs.Files.{Change, Contents, after}
use Rattle.hack_files.specs.declared.memory.FileChange.{FileChange}

-- a step as plain data
abbrev pub change_of : FileChange → Change
change_of s = record { path = string_bytes s.path; bytes = option_map (λ bytes. bytes.items) s.bytes }

-- no path holds anything
abbrev pub no_contents : Contents
no_contents q = None

-- what the paths hold after these steps
abbrev pub held_after : List FileChange → Contents
held_after steps = after (map change_of steps) no_contents
