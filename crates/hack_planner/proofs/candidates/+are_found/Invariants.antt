use Rattle.std.proofs.Common.{length}
use Rattle.hack_planner.proofs.candidates.+are_found.Given as goal

abbrev pub decreases-are_found : goal.decreases-are_found
decreases-are_found l = length l.names.now
