use Rattle.std.proofs.Common.{◌∙◌, All, Contains, ap, map, subst, sym}
use Rattle.hack_load.specs.ContextView.{context_view}
use Rattle.hack_metadata.specs.RecordViews.{place_at}
use Rattle.hack_metadata.specs.declared.metadata.resolve.PackageId.{PackageId}
use Rattle.hack_planner.specs.Calls.{table_fault}
use Rattle.hack_planner.specs.declared.packages.PackageList.{PackageList}
use Rattle.hack_planner.proofs.ChosenLemmas.{ids-in}
use Rattle.hack_planner.proofs.plan.chosen_list.Goals as goal

pub returns-in_ok-with_workspace_notes-in-Ok-check_tables-clause-members : goal.returns-in_ok-with_workspace_notes-in-Ok-check_tables-clause-members
returns-in_ok-with_workspace_notes-in-Ok-check_tables-clause-members c =
    let cx = context_view c.args.cx.now in
    subst (λ (l : PackageList). All (λ (id : PackageId). Contains cx.metadata.workspace_members id.index) l.ids.items) (sym c.in_ok-with_workspace_notes-in-Ok-check_tables.ensures.list)
    (ids-in cx c.in-Ok.answer.0.ids.items c.in-Ok.ensures.ok)

pub returns-in_ok-with_workspace_notes-in-Ok-check_tables-clause-tables : goal.returns-in_ok-with_workspace_notes-in-Ok-check_tables-clause-tables
returns-in_ok-with_workspace_notes-in-Ok-check_tables-clause-tables c =
    let cx = context_view c.args.cx.now in
    ap (λ (l : PackageList). table_fault cx (map place_at l.ids.items)) c.in_ok-with_workspace_notes-in-Ok-check_tables.ensures.list
    ∙ ap (λ ids. table_fault cx (map place_at ids)) (sym c.as_slice.ensures.value) ∙ c.in-Ok-check_tables.ensures.ok
