use Rattle.std.proofs.Common.{length}
use Rattle.hack_feature_tests.proofs.tests.calls.+is_selection.Given as goal

abbrev pub decreases-is_selection : goal.decreases-is_selection
decreases-is_selection l = length l.positions.now
