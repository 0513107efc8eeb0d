use Rattle.std.proofs.Common.{◌-◌, List}
use Rattle.hack_bisect.specs.Searches.{Trial}
use Rattle.hack_bisect.proofs.SearchLemmas.{IsGoing}
use Rattle.hack_bisect.proofs.find.find_least.Given as goal

abbrev pub invariant-loop-low : goal.invariant-loop-low
invariant-loop-low g l = (trials : List Trial) × g.T.Tries.tried trials l.fn.tries l.tries × IsGoing l.greatest trials l.low l.high

abbrev pub decreases-loop-low : goal.decreases-loop-low
decreases-loop-low g l = l.high - l.low
