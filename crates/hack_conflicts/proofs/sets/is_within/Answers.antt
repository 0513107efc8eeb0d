use Rattle.std.proofs.Common.{arith, refl}
use Rattle.hack_conflicts.proofs.SetLemmas.{within_all}
use Rattle.hack_conflicts.proofs.sets.is_within.Goals as goal

pub returns : goal.returns
returns c = (λ e. within_all c.args.small.now c.args.large.now c.loop-p.p (omega arith) c.loop-p.invariant, λ w. refl)
