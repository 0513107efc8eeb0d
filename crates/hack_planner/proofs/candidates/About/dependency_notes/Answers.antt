use Rattle.std.proofs.Common.{◌∙◌, ap, not, string_bytes}
use Rattle.hack_base.specs.declared.notice.NoticeKind.TheVariants.{Warn}
use Rattle.hack_features.specs.Feature.{groups_of}
use Rattle.hack_planner.specs.Texts.{dependency_text}
use Rattle.hack_planner.specs.Candidates.{one_has}
use Rattle.hack_planner.proofs.Growth.{notes-next}
use Rattle.hack_planner.proofs.candidates.About.dependency_notes.Goals as goal

pub loop-name-preserved : goal.loop-name-preserved
loop-name-preserved c =
    let f = c.args.self.now.features.now in
    notes-next (λ x. not (one_has (groups_of f.optional_deps.items) x)) Warn (dependency_text (string_bytes c.args.self.now.pkg.now.name)) string_bytes c.names_asked-name-items.result.now c.loop-name.name-index c.name-item.result _ _ _ _
    c.loop-name-test.true c.name-item.is
    (ap not (c.one_has-told.ensures ∙ ap (λ l. one_has (groups_of l) c.as_str-in-loop-name-2.result.now) c.optional_deps.ensures ∙ ap (one_has (groups_of f.optional_deps.items)) c.as_str-in-loop-name-2.ensures.value))
    (c.in_ok-text.ensures ∙ ap (λ pkg. dependency_text pkg c.as_str.result.now) c.as_str-in-loop-name.ensures.value ∙ ap (dependency_text (string_bytes c.args.self.now.pkg.now.name)) c.as_str.ensures.value)
    c.in_ok-tell.ensures.told c.loop-name.invariant
