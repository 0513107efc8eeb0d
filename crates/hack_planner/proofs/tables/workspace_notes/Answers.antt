use Rattle.std.proofs.Common.{◌≡◌, ◌∙◌, List, [], ◌∷◌, Bool, true, Result, Global, String, ap, map, not, sym, if◌then◌else◌}
use Rattle.std.proofs.lemmas.Result.{IfOk-weaker}
use Rattle.std.specs.Prelude.{filter}
use Rattle.hack_base.specs.FieldReadings.{FieldReading}
use Rattle.hack_base.specs.Names.{Name, names_of}
use Rattle.hack_base.specs.Notes.{Note, warning_note}
use Rattle.hack_load.specs.ContextView.{context_view}
use Rattle.hack_metadata.specs.RecordViews.{rules_reading}
use Rattle.hack_metadata.specs.Records.{MetadataRecord, RulesRecord}
use Rattle.hack_metadata.specs.declared.metadata.rules.RulesTable.{RulesTable}
use Rattle.hack_words.specs.declared.cli.args.Args.{Args}
use Rattle.hack_planner.specs.Calls.{have_no_rule, member_may_have, workspace_notes}
use Rattle.hack_planner.specs.RulesFor.{unknown_names}
use Rattle.hack_planner.specs.Texts.{no_rules_text, workspace_text}
use Rattle.hack_planner.proofs.tables.workspace_notes.Goals as goal

pub returns-in_ok-names-in-Ok : goal.returns-in_ok-names-in-Ok
returns-in_ok-names-in-Ok c =
    let cx = context_view c.args.cx.now in
    let notes : List Name → List Note = λ names. map (λ x. warning_note (workspace_text x)) (filter (λ x. not (member_may_have cx x)) names) in
    let unknown : FieldReading RulesRecord → List Note = λ rules. map (λ x. warning_note (workspace_text x)) (unknown_names (member_may_have cx) rules) in
    let asked : cx.args.package_rules ≡ true = ap (λ (a : Args). a.package_rules) (sym c.args-2.ensures) ∙ c.if-not-args.false in
    let told : notes (names_of c.deref.result.now) ≡ workspace_notes cx =
    ap (λ l. notes (names_of l)) c.deref.ensures.value
    ∙ ap notes c.in_ok-names-in-Ok.ensures
    ∙ ap (λ (r : Result RulesTable (String Global)). unknown (rules_reading r)) (sym c.in-Ok.is)
    ∙ ap (λ (m : MetadataRecord). unknown m.rules) c.metadata.ensures
    ∙ ap (λ (b : Bool). if b then warning_note no_rules_text ∷ [] else unknown cx.metadata.rules) (sym (sym c.have_no_rule.ensures ∙ c.if-have_no_rule.false))
    ∙ ap (λ (b : Bool). if b then (if have_no_rule cx then warning_note no_rules_text ∷ [] else unknown cx.metadata.rules) else []) (sym asked) in
    IfOk-weaker c.unheard_notes.result _ _ (λ notices is. is ∙ told) c.unheard_notes.ensures
