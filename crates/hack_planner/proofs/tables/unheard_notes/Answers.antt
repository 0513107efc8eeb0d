use Rattle.std.proofs.Common.{◌∙◌, List, ℕ, ap, false, not, string_bytes}
use Rattle.std.specs.List.{list_any}
use Rattle.std.specs.Option.{option_map_or}
use Rattle.hack_base.specs.declared.notice.NoticeKind.TheVariants.{Warn}
use Rattle.hack_load.specs.ContextView.{context_view}
use Rattle.hack_load.specs.Contexts.{features_at}
use Rattle.hack_planner.specs.Calls.{member_may_have}
use Rattle.hack_planner.specs.RulesFor.{may_have}
use Rattle.hack_planner.specs.Texts.{workspace_text}
use Rattle.hack_planner.proofs.Growth.{notes-next}
use Rattle.hack_planner.proofs.tables.unheard_notes.Goals as goal

pub loop-name-preserved : goal.loop-name-preserved
loop-name-preserved c =
    let cx = context_view c.args.cx.now in
    notes-next (λ x. not (member_may_have cx x)) Warn workspace_text string_bytes c.args.names.now c.loop-name.name-index c.name-item.result _ _ _ _
    c.loop-name-test.true c.name-item.is
    (ap not (c.one_may_have-told.ensures ∙ ap (λ (ids : List ℕ). list_any (λ id. option_map_or (λ f. may_have cx.args.include_deps_features f c.as_str-in-loop-name.result.now) (features_at cx id) false) ids) c.workspace_members.ensures.members ∙ ap (member_may_have cx) c.as_str-in-loop-name.ensures.value))
    (c.in_ok-text.ensures ∙ ap workspace_text c.as_str.ensures.value)
    c.in_ok-tell.ensures.told c.loop-name.invariant
