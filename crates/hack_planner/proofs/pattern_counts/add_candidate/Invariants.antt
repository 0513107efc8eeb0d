use Rattle.std.proofs.Common.{◌≡◌, ◌<◌, ◌≤◌, ◌-◌, ◌^◌, min, ℕ, suc, length, get_or}
use Rattle.hack_planner.specs.PatternCounts.{CountsPatterns, patterns}
use Rattle.hack_planner.proofs.pattern_counts.add_candidate.Given as goal

abbrev pub invariant-loop-place : goal.invariant-loop-place
invariant-loop-place l = record {
  size : length l.counts.items ≡ length l.fn.counts.items;
  later : (k d : ℕ) → l.place ≤ k → get_or l.counts.items k d ≡ get_or l.fn.counts.items k d;
  fewer : (n : ℕ) → CountsPatterns n l.fn.counts.items → l.place ≤ length l.fn.counts.items → l.fewer ≡ min (patterns n l.place) (2 ^ 128 - 1);
  done : (n : ℕ) → CountsPatterns n l.fn.counts.items → (k d : ℕ) → k < l.place → get_or l.counts.items k d ≡ min (patterns (suc n) (suc k)) (2 ^ 128 - 1);
}
