use Rattle.std.proofs.Common.{take}
use Rattle.hack_conflicts.specs.Sets.{rows_of}
use Rattle.hack_conflicts.specs.Runs.{runs_in}
use Rattle.hack_conflicts.specs.Internal.{AreOthers}
use Rattle.hack_conflicts.proofs.greatest.other_sets.Given as goal

abbrev pub invariant-loop-place : goal.invariant-loop-place
invariant-loop-place l = AreOthers (rows_of l.first) (take l.place (runs_in l.runs)) (rows_of l.others.items)
