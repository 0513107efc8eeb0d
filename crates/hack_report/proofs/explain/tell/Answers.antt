use Rattle.hack_base.proofs.StreamLemmas.{wrote}
use Rattle.hack_report.proofs.StrengthLemmas.{notes_more}
use Rattle.hack_report.proofs.explain.tell.Goals as goal

pub loop-notice-preserved : goal.loop-notice-preserved
loop-notice-preserved g c = λ end more. c.loop-notice.invariant end (notes_more c.args.term.now.coloring c.args.notices.now c.loop-notice.notice-index _ _ _ _ end c.loop-notice-test.true c.notice-item.is
    (rw c.as_str.ensures.value at (wrote g.E.Sink _ _ _ c.info.result c.info.ensures.line c.info.ensures.front c.info.ensures.counted)) more)
