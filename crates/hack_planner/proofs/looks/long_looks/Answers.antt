use Rattle.std.proofs.Common.{◌∙◌, All, Contains, List, String, Global, ap, map, sym, subst, string_bytes}
use Rattle.std.specs.List.{filter_map}
use Rattle.std.proofs.lemmas.Result.{IfOk-weaker}
use Rattle.hack_load.specs.ContextView.{context_view}
use Rattle.hack_metadata.specs.RecordViews.{place_at}
use Rattle.hack_metadata.specs.declared.metadata.resolve.PackageId.{PackageId}
use Rattle.hack_planner.specs.Looks.{AreLongLooks, look_at, of_chosen, of_unknown}
use Rattle.hack_planner.proofs.ChosenLemmas.{ids-in}
use Rattle.hack_planner.proofs.LookLemmas.{unknown-by}
use Rattle.hack_planner.proofs.looks.long_looks.Goals as goal

pub looks_at-requires : goal.looks_at-requires
looks_at-requires c =
    let cx = context_view c.args.cx.now in
    subst (All (λ (id : PackageId). Contains cx.metadata.workspace_members id.index)) (sym c.as_slice.ensures.value) (ids-in cx c.in-Ok.answer.0.ids.items c.in-Ok.ensures.ok)

pub returns-in-Ok : goal.returns-in-Ok
returns-in-Ok c =
    let cx = context_view c.args.cx.now in
    IfOk-weaker c.looks_at.result _ _
    (λ texts e. subst (AreLongLooks cx) (sym (e ∙ ap (λ (ids : List PackageId). filter_map (look_at cx) (map place_at ids)) c.as_slice.ensures.value)) (of_chosen (map place_at c.in-Ok.answer.0.ids.items) c.in-Ok.ensures.never c.in-Ok.ensures.ok))
    c.looks_at.ensures

pub returns : goal.returns
returns c =
    let cx = context_view c.args.cx.now in
    subst (λ (texts : List (String Global)). AreLongLooks cx (map string_bytes texts)) (sym c.new.ensures.items)
    (of_unknown c.in-Err-Unmatched.field-0 (unknown-by cx c.in-Err-Unmatched.field-0 c.in-Err-Unmatched.field-0-0 c.in-Err-Unmatched.field-0-is c.in-Err-Unmatched.ensures.err))
