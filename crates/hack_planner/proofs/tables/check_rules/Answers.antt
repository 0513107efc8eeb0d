use Rattle.std.proofs.Common.{◌≡◌, ◌⊎◌, None, Some, IfErr, subst, sym}
use Rattle.hack_load.specs.ContextView.{context_view}
use Rattle.hack_metadata.specs.RecordViews.{package_view}
use Rattle.hack_planner.specs.Internal.{SaysFault}
use Rattle.hack_planner.specs.declared.fault.PlanFault.TheVariants.{Memory}
use Rattle.hack_planner.proofs.TableLemmas.{package-found, rules-fault}
use Rattle.hack_planner.proofs.tables.check_rules.Goals as goal

pub returns-in-Some-features_of-clause-err : goal.returns-in-Some-features_of-clause-err
returns-in-Some-features_of-clause-err c =
    let cx = context_view c.args.cx.now in
    let known = package-found cx c.metadata.result.now c.args.id.index c.in-Some.pkg.now c.metadata.ensures c.in-Some.ensures in
    let same = rules-fault cx c.args.id.index (package_view c.in-Some.pkg.now) (Some c.in-Some-features_of.features.now) known c.in_ok-check_own.ensures.ok (sym c.in-Some-features_of.ensures) in
    subst (λ o. IfErr c.check_groups.result (λ e. (e ≡ Memory) ⊎ SaysFault o e)) (sym same) c.check_groups.ensures.err

pub returns-in-None-clause-ok : goal.returns-in-None-clause-ok
returns-in-None-clause-ok c =
    let cx = context_view c.args.cx.now in
    let known = package-found cx c.metadata.result.now c.args.id.index c.in-Some.pkg.now c.metadata.ensures c.in-Some.ensures in
    rules-fault cx c.args.id.index (package_view c.in-Some.pkg.now) None known c.in_ok-check_own.ensures.ok (sym c.in-None.ensures)
