use Rattle.std.proofs.Common.{arith}
use Rattle.hack_samples.proofs.OrderLemmas.{same-sets}
use Rattle.hack_samples.proofs.order.compare.Goals as goal

pub returns : goal.returns
returns c =
    same-sets c.args.one.now c.args.other.now c.requires
    (λ p. c.loop-left.invariant.same p (omega (arith, c.loop-left-test.false)))
