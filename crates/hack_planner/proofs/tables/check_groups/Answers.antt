use Rattle.std.proofs.Common.{◌∙◌, None, Some, ap, inr, option_map, sym}
use Rattle.hack_base.specs.Names.{names_of}
use Rattle.hack_load.specs.ContextView.{context_view}
use Rattle.hack_metadata.specs.RecordViews.{package_view}
use Rattle.hack_planner.specs.Calls.{rules_at}
use Rattle.hack_planner.specs.RulesFor.{Grouped}
use Rattle.hack_planner.proofs.TableLemmas.{found-in, grouped-named}
use Rattle.hack_planner.proofs.tables.check_groups.Goals as goal

pub returns-in-Some-clause-err : goal.returns-in-Some-clause-err
returns-in-Some-clause-err c =
    let cx = context_view c.args.cx.now in
    let p = package_view c.args.pkg.now in
    let r = rules_at cx p c.args.features.now in
    let found = found-in (Some c.in-Some.feature.now) c.deref.result.now c.args-2.result.now cx.args _ r c.in-Some.ensures c.deref.ensures.value c.args-2.ensures c.in_ok-rules.ensures.rules in
    inr (grouped-named (names_of cx.args.features.items) p.name _ _ _ r found (c.in_ok-from_str-in-Some-2.ensures.ok ∙ c.as_str.ensures.value) c.in_ok-from_str-in-Some.ensures.ok)

pub returns-clause-ok : goal.returns-clause-ok
returns-clause-ok c =
    let cx = context_view c.args.cx.now in
    let p = package_view c.args.pkg.now in
    let r = rules_at cx p c.args.features.now in
    let found = found-in None c.deref.result.now c.args-2.result.now cx.args _ r c.in-None.ensures c.deref.ensures.value c.args-2.ensures c.in_ok-rules.ensures.rules in
    ap (option_map (Grouped p.name)) (sym found)
