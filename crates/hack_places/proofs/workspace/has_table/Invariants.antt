use Rattle.std.proofs.Common.{◌≡◌, codes, length}
use Rattle.hack_places.specs.Folders.{has_part}
use Rattle.hack_places.proofs.workspace.has_table.Given as goal

abbrev pub invariant-loop-rest : goal.invariant-loop-rest
invariant-loop-rest l = has_part (codes "[workspace") l.bytes ≡ has_part (codes "[workspace") l.rest

abbrev pub decreases-loop-rest : goal.decreases-loop-rest
decreases-loop-rest l = length l.rest
