use Rattle.std.proofs.Common.{take}
use Rattle.hack_conflicts.specs.Sets.{rows_of}
use Rattle.hack_conflicts.specs.Internal.{KeepsOthers}
use Rattle.hack_conflicts.proofs.greatest.without_inner.Given as goal

abbrev pub invariant-loop-place : goal.invariant-loop-place
invariant-loop-place l = KeepsOthers l.set (take l.place (rows_of l.sets)) (rows_of l.left.items)
