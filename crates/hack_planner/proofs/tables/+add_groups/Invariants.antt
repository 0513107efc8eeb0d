use Rattle.std.proofs.Common.{length}
use Rattle.hack_planner.proofs.tables.+add_groups.Given as goal

abbrev pub decreases-add_groups : goal.decreases-add_groups
decreases-add_groups l = length l.groups.now
