use Rattle.std.proofs.Common.{◌≡◌, ◌↔◌, ◌==◌, ◌||◌, ℕ, List, Bool, [], IsTrue, length, sym, ◌∙◌, subst, eqb-true}
use Rattle.hack_routes.specs.FeatureMap.{Chain}
use Rattle.hack_samples.specs.Sets.{rows_of}
use Rattle.hack_routes.specs.Rows.{bit}
use Rattle.hack_routes.specs.InternalPlaces.{Leads}
use Rattle.hack_routes.proofs.MarkLemmas.{led_nowhere, led_on, nil_from}
use Rattle.hack_routes.proofs.marks.marks_from.Goals as goal

pub returns-then-is_empty : goal.returns-then-is_empty
returns-then-is_empty c =
    let rows : List (List ℕ) = rows_of c.args.rows.now in
    let none : c.row_at.result.now ≡ [] = nil_from c.row_at.result.now (eqb-true (length c.row_at.result.now) 0 (sym c.is_empty.ensures ∙ c.if-is_empty.true)) in
    subst (λ (l : List Bool). (j : ℕ) → IsTrue (c.args.place == j || bit l j) ↔ Chain (Leads rows) c.args.place j) (sym c.new.ensures.items)
    (led_nowhere rows c.args.place (sym c.row_at.ensures ∙ none))

pub returns : goal.returns
returns c = led_on (rows_of c.args.rows.now) c.args.place c.in_ok-mark_reached.field-0.items c.in_ok-mark_reached.ensures
