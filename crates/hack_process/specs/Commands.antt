-- The commands of builders, and the texts of lines.
use Rattle.std.specs.Prelude.{ℕ, Bool, false, List, [], ◌∷◌, Option, None, codes, string_bytes, map}
use Rattle.std.specs.Option.{option_map_or}
use Rattle.hack_base.specs.Names.{Name, optional_text}
use Rattle.hack_process.specs.declared.process.ProcessBuilder.{ProcessBuilder}
use Rattle.hack_process.specs.declared.process.Line.{Line}
use Rattle.hack_process.specs.CommandTexts.{Command, words_behind, words_of}
use Rattle.hack_process.specs.Calls.{Asked}

-- the command that a builder has collected
abbrev pub command_of : ProcessBuilder → Command
command_of b = record { program = string_bytes b.program; strip_program_path = b.strip_program_path; leading = map string_bytes b.leading.items; passed = map string_bytes b.passed.now; own = map string_bytes b.own.items; features = optional_text b.features; trailing = map string_bytes b.trailing.now }

-- what a line shows
abbrev pub line_text : Line → List ℕ
line_text line = words_of line.program.now line.full line.dir.now (command_of line.builder.now)

-- what a caller is asked when a command runs
abbrev pub asked_of : Bool → Command → Asked
asked_of capture c = record { program = c.program; words = words_behind c; capture = capture }

-- a program with these arguments before and at the place of its own, and none of a user
abbrev pub plain_command : Name → List Name → List Name → Command
plain_command program leading own = record { program = program; strip_program_path = false; leading = leading; passed = []; own = own; features = None; trailing = [] }

-- a manifest's path after its option, where it is given
abbrev pub manifest_words : Option Name → List Name
manifest_words given = option_map_or (λ path. codes "--manifest-path" ∷ path ∷ []) given []
