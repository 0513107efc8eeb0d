use Rattle.std.proofs.Common.{◌≤◌, length}
use Rattle.hack_closures.proofs.StepLemmas.{Left}
use Rattle.hack_closures.proofs.greatest.greatest.Given as goal

abbrev pub invariant-loop-place : goal.invariant-loop-place
invariant-loop-place l = record {
  small : l.place ≤ length l.left.items;
  left : Left l.rules l.set l.left.items l.place;
}

abbrev pub decreases-loop-place : goal.decreases-loop-place
decreases-loop-place l = l.place
