use Rattle.std.proofs.Common.{◌≡◌, take, string_bytes}
use Rattle.std.specs.List.{join_with_byte}
use Rattle.hack_base.specs.Names.{names_of}
use Rattle.hack_planner.proofs.notes.join_names.Given as goal

abbrev pub invariant-loop-place : goal.invariant-loop-place
invariant-loop-place l = string_bytes l.text ≡ join_with_byte 44 (take l.place (names_of l.names))
