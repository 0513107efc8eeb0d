use Rattle.std.proofs.Common.{◌≡◌, ◌++◌, drop, map}
use Rattle.hack_places.specs.JournalPlaces.{percent_for_slash}
use Rattle.hack_places.proofs.journal.workspace_name.Given as goal

abbrev pub invariant-loop-byte : goal.invariant-loop-byte
invariant-loop-byte l = l.bytes.items ++ map percent_for_slash (drop l.byte-index l.path) ≡ map percent_for_slash l.path
