use Rattle.std.proofs.Common.{◌≡◌, ◌++◌, ◌∷◌, [], subst, sym}
use Rattle.hack_plan.specs.declared.parts.PlanPackage.{PlanPackage}
use Rattle.hack_plan.specs.AddedRuns.{added_run}
use Rattle.hack_plan.specs.RunsView.{runs_in}
use Rattle.hack_plan.specs.View.{plan_package_view}
use Rattle.hack_plan.specs.Growth.{with_one_run}
use Rattle.hack_plan.specs.InternalRuns.{HasRoom}
use Rattle.hack_plan.proofs.GrowingPlans.{changed-set, get-at, get-within, package-with, value-ok}
use Rattle.hack_plan.proofs.additions.add_run.Goals as goal

pub returns : goal.returns
returns c =
    let packages = c.args.packages.now.items in
    let at = c.args.at in
    let k = c.index_mut.result.now in
    let room : HasRoom k.runs = subst (λ (m : PlanPackage). HasRoom m.runs) (sym c.index_mut.ensures.value) (get-at packages at k (λ m. HasRoom m.runs) c.requires) in
    let added : runs_in c.add.new.self ≡ runs_in k.runs ++ added_run c.args.run ∷ [] = value-ok _ c.add.result (c.add.ensures.succeeds room) c.add.ensures.ok in
    changed-set plan_package_view (with_one_run (added_run c.args.run)) packages at _ k (get-within packages at _ c.requires) (package-with k _ c.add.new.self (added_run c.args.run ∷ []) c.index_mut.ensures.value added)
