use Rattle.std.proofs.Common.{ap, ◌∙◌}
use Rattle.hack_base.proofs.StreamLemmas.{wrote}
use Rattle.hack_drive.proofs.NoteLemmas.{colored_same, noted_more, shown_more}
use Rattle.hack_drive.proofs.notices.tell_all.Goals as goal

pub loop-notice-preserved : goal.loop-notice-preserved
loop-notice-preserved g c = record {
  noted = noted_more _ _ _ c.args.notices.now c.loop-notice.notice-index _ _ c.loop-notice-test.true c.notice-item.is c.notice.ensures.noted c.loop-notice.invariant.noted;
  coloring = ap (λ t. t.coloring) c.notice.ensures.noted ∙ colored_same _ _ ∙ c.loop-notice.invariant.coloring;
  shown = λ end more. c.loop-notice.invariant.shown end (shown_more c.args.term.now.coloring c.args.notices.now c.loop-notice.notice-index _ _ _ _ end c.loop-notice-test.true c.notice-item.is
      (rw c.loop-notice.invariant.coloring at (wrote g.E.Sink _ _ _ c.notice.result c.notice.ensures.line c.notice.ensures.front c.notice.ensures.counted)) more);
}
