use Rattle.std.proofs.Common.{◌≡◌, ◌≤◌, ℕ, length}
use Rattle.hack_samples.specs.Sets.{has}
use Rattle.hack_samples.proofs.order.compare.Given as goal

abbrev pub invariant-loop-left : goal.invariant-loop-left
invariant-loop-left l = record {
  below : l.left ≤ length l.one;
  same : (p : ℕ) → l.left ≤ p → has l.one p ≡ has l.other p;
}

abbrev pub decreases-loop-left : goal.decreases-loop-left
decreases-loop-left l = l.left
