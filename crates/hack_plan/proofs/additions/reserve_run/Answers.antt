use Rattle.std.proofs.Common.{◌∙◌, ap, length}
use Rattle.std.proofs.Math.Seq.{map-set_same}
use Rattle.hack_plan.specs.declared.parts.PlanPackage.{PlanPackage}
use Rattle.hack_plan.specs.InternalRuns.{HasRoom}
use Rattle.hack_plan.specs.RunsView.{runs_in}
use Rattle.hack_plan.specs.View.{plan_package_view}
use Rattle.hack_plan.proofs.GrowingPlans.{count-is, get-set, package-same}
use Rattle.hack_plan.proofs.additions.reserve_run.Goals as goal

pub returns-in_err-reserve-clause-same : goal.returns-in_err-reserve-clause-same
returns-in_err-reserve-clause-same c =
    let k = c.index_mut-member.result.now in
    map-set_same plan_package_view c.args.packages.now.items c.args.at _ k (package-same k _ c.reserve.new.self c.index_mut-member.ensures.value c.reserve.ensures.same)

pub returns-clause-same : goal.returns-clause-same
returns-clause-same c =
    let k = c.index_mut-member.result.now in
    map-set_same plan_package_view c.args.packages.now.items c.args.at _ k (package-same k _ c.reserve.new.self c.index_mut-member.ensures.value c.reserve.ensures.same)

pub returns-clause-room : goal.returns-clause-room
returns-clause-room c = get-set c.args.packages.now.items c.args.at _ (λ k. HasRoom k.runs) c.requires c.in_ok-reserve.ensures.room

pub returns-clause-rank : goal.returns-clause-rank
returns-clause-rank c =
    let k = c.index_mut-member.result.now in
    c.len.ensures ∙ ap length c.reserve.ensures.same ∙ ap (λ (m : PlanPackage). length (runs_in m.runs)) c.index_mut-member.ensures.value ∙ count-is c.args.packages.now.items c.args.at k c.requires
