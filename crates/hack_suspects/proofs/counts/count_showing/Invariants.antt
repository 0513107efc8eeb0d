use Rattle.std.proofs.Common.{◌≤◌, take}
use Rattle.hack_samples.specs.Sets.{rows_of}
use Rattle.hack_suspects.specs.Suspects.{outcomes_of}
use Rattle.hack_suspects.specs.Counts.{FailsWith, IsNumberOf}
use Rattle.hack_suspects.proofs.counts.count_showing.Given as goal

abbrev pub invariant-loop-run : goal.invariant-loop-run
invariant-loop-run l = record {
  few : l.count ≤ l.run-index;
  is : IsNumberOf (FailsWith (rows_of l.patterns)) (outcomes_of (take l.run-index l.outcomes)) l.count;
}
