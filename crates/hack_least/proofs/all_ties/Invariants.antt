use Rattle.hack_features.specs.Samples.{IsSame}
use Rattle.hack_least.proofs.all_ties.Given as goal

abbrev pub invariant-loop-position : goal.invariant-loop-position
invariant-loop-position l = IsSame l.fn.rules l.rules
