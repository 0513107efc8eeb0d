use Rattle.std.proofs.Common.{◌≡◌, ◌∙◌, All, ap, arith, length, map, subst, sym}
use Rattle.std.specs.Prelude.{Contains}
use Rattle.std.proofs.lemmas.List.{length-map}
use Rattle.hack_load.specs.ContextView.{context_view}
use Rattle.hack_metadata.specs.RecordViews.{place_at}
use Rattle.hack_plan.specs.Prepared.{span_of}
use Rattle.hack_plan.specs.View.{CallView, plan_package_view}
use Rattle.hack_hunt.specs.Searched.{IsSearchedPackage}
use Rattle.hack_hunt.proofs.SetLemmas.{zip_length}
use Rattle.hack_hunt.proofs.plan.search_plan_by.Goals as goal

pub left_out-requires : goal.left_out-requires
left_out-requires c = subst (All (λ id. Contains (context_view c.args.cx.now).metadata.workspace_members id.index)) (sym c.as_slice-2.ensures.value) c.in_ok-list.ensures.members

pub returns-clause-grows : goal.returns-clause-grows
returns-clause-grows c =
    let plan = c.in_ok-plan.plan in
    let ids = c.as_slice.result.now in
    let versions : length plan.versions ≡ 1 = sym (length-map plan.versions span_of) ∙ ap length c.in_ok-plan.ensures.spans in
    record {
      grows = ap (λ (call : CallView). call.grows) c.in_ok-plan.ensures.call ∙ c.requires;
      version = omega (arith, versions);
      members =
          ap length (sym c.as_slice.ensures.value) ∙ sym (length-map ids place_at)
          ∙ zip_length (IsSearchedPackage (context_view c.args.cx.now)) (map place_at ids) (map plan_package_view c.in_ok-packages.packages.items) c.in_ok-packages.ensures.ok
          ∙ ap length (sym c.in_ok-plan.ensures.packages);
    }
