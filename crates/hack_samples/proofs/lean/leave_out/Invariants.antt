use Rattle.std.proofs.Common.{◌-◌, length}
use Rattle.hack_samples.specs.Sets.{rows_of, tables_of}
use Rattle.hack_samples.proofs.LeanLemmas.{AreLeft}
use Rattle.hack_samples.proofs.lean.leave_out.Given as goal

abbrev pub invariant-loop-place : goal.invariant-loop-place
invariant-loop-place l = AreLeft (tables_of l.providers) l.strength (rows_of l.fn.sets.items) (rows_of l.sets.items) l.place

abbrev pub decreases-loop-place : goal.decreases-loop-place
decreases-loop-place l = length l.sets.items - l.place
