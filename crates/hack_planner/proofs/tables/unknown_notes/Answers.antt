use Rattle.std.proofs.Common.{◌∙◌, ap, not, string_bytes}
use Rattle.hack_base.specs.declared.notice.NoticeKind.TheVariants.{Warn}
use Rattle.hack_planner.specs.RulesFor.{may_have}
use Rattle.hack_planner.specs.Texts.{table_text}
use Rattle.hack_planner.proofs.Growth.{notes-next}
use Rattle.hack_planner.proofs.tables.unknown_notes.Goals as goal

pub loop-name-preserved : goal.loop-name-preserved
loop-name-preserved c =
    let f = c.args.features.now in
    notes-next (λ x. not (may_have c.args.loaded f x)) Warn (table_text c.args.pkg.now) string_bytes c.args.names.now c.loop-name.name-index c.name-item.result _ _ _ _
    c.loop-name-test.true c.name-item.is
    (ap not (c.is_had-told.ensures ∙ ap (may_have c.args.loaded f) c.as_str-in-loop-name.ensures.value))
    (c.in_ok-text.ensures ∙ ap (table_text c.args.pkg.now) c.as_str.ensures.value)
    c.in_ok-tell.ensures.told c.loop-name.invariant
