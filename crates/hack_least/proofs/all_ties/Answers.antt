use Rattle.hack_least.proofs.SetLemmas.{same-permitted}
use Rattle.hack_least.proofs.all_ties.Goals as goal

pub ties_of-requires-clause-permitted : goal.ties_of-requires-clause-permitted
ties_of-requires-clause-permitted c = same-permitted c.args.rules.now c.loop-position.rules c.args.none.now c.loop-position.invariant c.requires.permitted
