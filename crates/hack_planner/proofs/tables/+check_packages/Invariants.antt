use Rattle.std.proofs.Common.{length}
use Rattle.hack_planner.proofs.tables.+check_packages.Given as goal

abbrev pub decreases-check_packages : goal.decreases-check_packages
decreases-check_packages l = length l.ids.now
