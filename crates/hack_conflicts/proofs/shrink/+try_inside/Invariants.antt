use Rattle.hack_conflicts.specs.Rules.{size_of}
use Rattle.hack_conflicts.specs.Internal.{members}
use Rattle.hack_conflicts.proofs.shrink.+try_inside.Given as goal

abbrev pub decreases-try_inside : goal.decreases-try_inside
decreases-try_inside g l = members (size_of l.rules.now) l.set.now
