use Rattle.std.proofs.Common.{Ok, Err, arith, refl}
use Rattle.std.specs.declared.io.Error.{Error}
use Rattle.std.proofs.KnownBytes.{Keeps-refl, Keeps-trans}
use Rattle.hack_base.proofs.WriteLemmas.{write-grows, took-none, Appends-after}
use Rattle.hack_base.specs.WriteLaws.{NoFewer-refl, NoFewer-trans, failed-later}
use Rattle.hack_base.proofs.writes.put_again.Goals as goal

pub loop-init : goal.loop-init
loop-init g c = (Keeps-refl _, NoFewer-refl _, λ lt some. absurd (omega (arith, lt)))

pub returns-in-Ok-clause-bytes : goal.returns-in-Ok-clause-bytes
returns-in-Ok-clause-bytes g c = Appends-after _ _ _ _ c.loop.invariant.0 c.in-Ok.ensures.bytes

pub returns-in-Ok-clause-grows : goal.returns-in-Ok-clause-grows
returns-in-Ok-clause-grows g c = NoFewer-trans _ _ _ c.loop.invariant.1 (write-grows _ _ _ c.put_some.ensures.counted)

pub returns-in-Ok-clause-missed : goal.returns-in-Ok-clause-missed
returns-in-Ok-clause-missed g c = λ some none. failed-later _ _ _ c.loop.invariant.1 (took-none Error _ _ _ (Ok c.in-Ok.n) c.in-Ok.ensures.counted some none)

pub returns-then-ne-clause-bytes : goal.returns-then-ne-clause-bytes
returns-then-ne-clause-bytes g c = Keeps-trans _ _ _ c.loop.invariant.0 c.in-Err.ensures.bytes

pub returns-then-ne-clause-grows : goal.returns-then-ne-clause-grows
returns-then-ne-clause-grows g c = NoFewer-trans _ _ _ c.loop.invariant.1 (write-grows _ _ _ c.put_some.ensures.counted)

pub returns-then-ne-clause-missed : goal.returns-then-ne-clause-missed
returns-then-ne-clause-missed g c = λ some none. failed-later _ _ _ c.loop.invariant.1 (took-none Error _ _ _ (Err c.in-Err.fault) c.in-Err.ensures.counted some refl)

pub loop-preserved : goal.loop-preserved
loop-preserved g c = (
  Keeps-trans _ _ _ c.loop.invariant.0 c.in-Err.ensures.bytes,
  NoFewer-trans _ _ _ c.loop.invariant.1 (write-grows _ _ _ c.put_some.ensures.counted),
  λ lt some. failed-later _ _ _ c.loop.invariant.1 (took-none Error _ _ _ (Err c.in-Err.fault) c.in-Err.ensures.counted some refl),
)
