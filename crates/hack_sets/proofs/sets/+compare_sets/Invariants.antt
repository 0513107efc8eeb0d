use Rattle.std.proofs.Common.{length}
use Rattle.hack_sets.proofs.sets.+compare_sets.Given as goal

abbrev pub decreases-compare_sets : goal.decreases-compare_sets
decreases-compare_sets l = length l.first.now
