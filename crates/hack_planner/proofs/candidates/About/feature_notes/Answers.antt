use Rattle.std.proofs.Common.{◌∙◌, ap, not, string_bytes}
use Rattle.hack_base.specs.declared.notice.NoticeKind.TheVariants.{Warn}
use Rattle.hack_planner.specs.Texts.{feature_text}
use Rattle.hack_planner.specs.Candidates.{is_found}
use Rattle.hack_planner.proofs.Growth.{notes-next}
use Rattle.hack_planner.proofs.candidates.About.feature_notes.Goals as goal

pub loop-name-preserved : goal.loop-name-preserved
loop-name-preserved c =
    let f = c.args.self.now.features.now in
    notes-next (λ x. not (is_found f x)) Warn (feature_text (string_bytes c.args.self.now.pkg.now.name)) string_bytes c.deref-name-items.result.now c.loop-name.name-index c.name-item.result _ _ _ _
    c.loop-name-test.true c.name-item.is
    (ap not (c.is_found-told.ensures ∙ ap (is_found f) c.as_str-in-loop-name-2.ensures.value))
    (c.in_ok-text.ensures ∙ ap (λ pkg. feature_text pkg c.as_str.result.now) c.as_str-in-loop-name.ensures.value ∙ ap (feature_text (string_bytes c.args.self.now.pkg.now.name)) c.as_str.ensures.value)
    c.in_ok-tell.ensures.told c.loop-name.invariant
