use Rattle.std.proofs.Common.{◌≡◌, ◌∙◌, List, [], Bool, Result, Global, String, ap, map, not, sym, if◌then◌else◌}
use Rattle.std.proofs.lemmas.Result.{IfOk-weaker}
use Rattle.std.specs.Prelude.{filter}
use Rattle.hack_base.specs.Names.{Name, names_of}
use Rattle.hack_base.specs.Notes.{Note, warning_note}
use Rattle.hack_metadata.specs.RecordViews.{package_view, rules_reading}
use Rattle.hack_metadata.specs.declared.metadata.rules.RulesTable.{RulesTable}
use Rattle.hack_planner.specs.RulesFor.{may_have, table_notes, unknown_names}
use Rattle.hack_planner.specs.Texts.{table_text}
use Rattle.hack_planner.proofs.tables.table_notes.Goals as goal

pub returns-in_ok-names-in-Ok : goal.returns-in_ok-names-in-Ok
returns-in_ok-names-in-Ok c =
    let args = c.args.args.now in
    let p = package_view c.args.pkg.now in
    let f = c.args.features.now in
    let notes : Name → List Name → List Note = λ pkg names. map (λ x. warning_note (table_text pkg x)) (filter (λ x. not (may_have args.include_deps_features f x)) names) in
    let told : notes c.as_str.result.now (names_of c.deref.result.now) ≡ table_notes args p f =
    ap (λ (pkg : Name). notes pkg (names_of c.deref.result.now)) c.as_str.ensures.value
    ∙ ap (λ l. notes p.name (names_of l)) c.deref.ensures.value
    ∙ ap (notes p.name) c.in_ok-names-in-Ok.ensures
    ∙ ap (λ (r : Result RulesTable (String Global)). map (λ x. warning_note (table_text p.name x)) (unknown_names (may_have args.include_deps_features f) (rules_reading r))) (sym c.in-Ok.is)
    ∙ ap (λ (b : Bool). if b then map (λ x. warning_note (table_text p.name x)) (unknown_names (may_have args.include_deps_features f) p.rules) else []) (sym c.if-args.true) in
    IfOk-weaker c.unknown_notes.result _ _ (λ notices is. is ∙ told) c.unknown_notes.ensures
