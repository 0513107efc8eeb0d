use Rattle.std.proofs.Common.{◌∙◌, ap, not, string_bytes}
use Rattle.hack_base.specs.declared.notice.NoticeKind.TheVariants.{Info}
use Rattle.hack_features.specs.Feature.{group_of}
use Rattle.hack_base.specs.Names.{names_of}
use Rattle.hack_planner.specs.Texts.{group_text}
use Rattle.hack_planner.specs.Candidates.{applies}
use Rattle.hack_planner.specs.PackageRules.{rules_in}
use Rattle.hack_planner.proofs.Growth.{notes-next}
use Rattle.hack_planner.proofs.candidates.About.group_notes.Goals as goal

pub loop-group-preserved : goal.loop-group-preserved
loop-group-preserved c =
    let w = rules_in c.args.self.now.asked.now in
    let f = c.args.self.now.features.now in
    notes-next (λ names. not (applies w f names)) Info (group_text (string_bytes c.args.self.now.pkg.now.name)) group_of c.deref-group-items.result.now c.loop-group.group-index c.group-item.result _ _ _ _
    c.loop-group-test.true c.group-item.is
    (ap not c.applies-told.ensures)
    (c.in_ok-text.ensures ∙ ap (λ pkg. group_text pkg (names_of c.as_group.result.now)) c.as_str.ensures.value ∙ ap (group_text (string_bytes c.args.self.now.pkg.now.name)) c.as_group.ensures)
    c.in_ok-tell.ensures.told c.loop-group.invariant
