use Rattle.hack_base.proofs.StreamLemmas.{wrote}
use Rattle.hack_run.proofs.ShownCalls.{infos_more}
use Rattle.hack_run.proofs.stages.tell_infos.Goals as goal

pub loop-text-preserved : goal.loop-text-preserved
loop-text-preserved g c = λ end more. c.loop-text.invariant end (infos_more c.args.term.now.coloring c.args.texts.now c.loop-text.text-index _ _ _ _ end c.loop-text-test.true c.text-item.is
    (rw c.as_str.ensures.value at (wrote g.E.Sink _ _ _ c.info.result c.info.ensures.line c.info.ensures.front c.info.ensures.counted)) more)
