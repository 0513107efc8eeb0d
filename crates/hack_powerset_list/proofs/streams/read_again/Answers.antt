use Rattle.std.proofs.Common.{arith}
use Rattle.std.proofs.KnownBytes.{Keeps-refl, Keeps-trans}
use Rattle.hack_base.proofs.WriteLemmas.{stayed, one-failed}
use Rattle.hack_base.specs.WriteLaws.{NoFewer-refl, NoFewer-trans, failed-later}
use Rattle.hack_powerset_list.proofs.StreamLemmas.{Consumes-after}
use Rattle.hack_powerset_list.proofs.streams.read_again.Goals as goal

pub loop-init : goal.loop-init
loop-init g c = (Keeps-refl _, NoFewer-refl _, λ lt. absurd (omega (arith, lt)))

pub returns-in-Ok-clause-bytes : goal.returns-in-Ok-clause-bytes
returns-in-Ok-clause-bytes g c = (Consumes-after _ _ _ _ c.loop.invariant.0 c.in-Ok.ensures.bytes.0, c.in-Ok.ensures.bytes.1)

pub returns-in-Ok-clause-counted : goal.returns-in-Ok-clause-counted
returns-in-Ok-clause-counted g c = NoFewer-trans _ _ _ c.loop.invariant.1 (stayed _ _ c.in-Ok.ensures.counted)

pub returns-then-ne-clause-bytes : goal.returns-then-ne-clause-bytes
returns-then-ne-clause-bytes g c = Keeps-trans _ _ _ c.loop.invariant.0 c.in-Err.ensures.bytes

pub returns-then-ne-clause-counted : goal.returns-then-ne-clause-counted
returns-then-ne-clause-counted g c = failed-later _ _ _ c.loop.invariant.1 (one-failed _ _ c.in-Err.ensures.counted)
