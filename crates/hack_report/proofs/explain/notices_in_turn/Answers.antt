use Rattle.std.proofs.Common.{◌∙◌, ap, map, refl}
use Rattle.std.proofs.lemmas.List.{map-append}
use Rattle.hack_base.specs.Notes.{note_of}
use Rattle.hack_load.specs.ContextView.{context_view}
use Rattle.hack_report.proofs.ExplainLemmas.{turns_more}
use Rattle.hack_report.proofs.explain.notices_in_turn.Goals as goal

pub loop-strength-preserved : goal.loop-strength-preserved
loop-strength-preserved c = turns_more (context_view c.args.cx.now) c.args.session.now c.args.strengths.now c.args.each.now c.loop-strength.strength-index _ _ _ _ _ c.loop-strength-test.true refl c.in_ok-more.ensures (ap (map note_of) c.in_ok-append.ensures.items ∙ map-append note_of _ _) c.loop-strength.invariant
