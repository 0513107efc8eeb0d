use Rattle.std.proofs.Common.{◌↔◌, ◌==◌, ◌||◌, ℕ, List, Bool, [], IsTrue, ◌∙◌, arith}
use Rattle.std.proofs.lemmas.List.{length-map, map-append}
use Rattle.hack_routes.specs.FeatureMap.{Chain}
use Rattle.hack_samples.specs.Sets.{rows_of}
use Rattle.hack_routes.specs.Rows.{bit}
use Rattle.hack_routes.specs.InternalPlaces.{Leads}
use Rattle.hack_base.proofs.Steps.{row-pushed, row_items}
use Rattle.hack_routes.proofs.marks.all_marks.Goals as goal

pub loop-place-preserved : goal.loop-place-preserved
loop-place-preserved c =
    let rows : List (List ℕ) = rows_of c.args.rows.now in
    let says : ℕ → List Bool → Type 0 = λ i marks. (j : ℕ) → IsTrue (i == j || bit marks j) ↔ Chain (Leads rows) i j in
    record {
      len = omega (arith, c.in_ok-push.ensures.len, c.loop-place.invariant.len);
      says = λ i lt. rw (c.in_ok-push.ensures.items, map-append)
          (row-pushed says (rows_of c.loop-place.marks.items) c.loop-place.place c.in_ok-marks_from.field-0.items []
          (length-map c.loop-place.marks.items row_items ∙ c.loop-place.invariant.len) c.loop-place.invariant.says c.in_ok-marks_from.ensures i lt);
    }
