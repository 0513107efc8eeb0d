use Rattle.std.proofs.Common.{length}
use Rattle.hack_planner.proofs.tables.+add_names.Given as goal

abbrev pub decreases-add_names : goal.decreases-add_names
decreases-add_names l = length l.more.now
