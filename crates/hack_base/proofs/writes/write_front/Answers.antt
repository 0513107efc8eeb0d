use Rattle.std.proofs.Common.{◌++◌, take}
use Rattle.std.proofs.KnownBytes.{Appends-trans}
use Rattle.hack_base.proofs.WriteLemmas.{front-more}
use Rattle.hack_base.specs.WriteLaws.{NoFewer-trans}
use Rattle.hack_base.proofs.writes.write_front.Goals as goal

pub loop-rest-preserved : goal.loop-rest-preserved
loop-rest-preserved g c =
    let done = c.loop-rest.invariant.0 in
    (done ++ take c.in-Ok.n c.loop-rest.rest.now, front-more _ done c.loop-rest.rest.now c.in-Ok.n c.loop-rest.invariant.1, Appends-trans _ _ _ _ _ c.loop-rest.invariant.2 c.in-Ok.ensures.bytes, NoFewer-trans _ _ _ c.loop-rest.invariant.3 c.put_again.ensures.grows)
