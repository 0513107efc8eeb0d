use Rattle.std.proofs.Common.{◌≡◌, length}
use Rattle.hack_planner.specs.PatternCounts.{CountsPatterns}
use Rattle.hack_planner.proofs.pattern_counts.count_patterns.Given as goal

abbrev pub invariant-loop-candidate : goal.invariant-loop-candidate
invariant-loop-candidate l = record {
  size : length l.counts.items ≡ l.strength;
  counts : CountsPatterns l._candidate l.counts.items;
}
