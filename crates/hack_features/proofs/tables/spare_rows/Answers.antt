use Rattle.std.proofs.Common.{◌≡◌, ◌<◌, [], sym, ap, ◌∙◌, arith, Bool, List, ℕ, length, get_or}
use Rattle.std.proofs.lemmas.List.{map-append, length-map}
use Rattle.hack_samples.specs.Sets.{rows_of}
use Rattle.hack_routes.specs.Rows.{bit}
use Rattle.hack_features.specs.InternalTables.{spares_test}
use Rattle.hack_base.proofs.Steps.{row-pushed, row_items}
use Rattle.hack_routes.proofs.MarkLemmas.{row_at}
use Rattle.hack_features.proofs.tables.spare_rows.Goals as goal

pub loop-names-preserved : goal.loop-names-preserved
loop-names-preserved c =
    let placed = c.args.placed.now in
    let all : List (List ℕ) = rows_of placed.candidates.items in
    let keys : List Bool = placed.routes.keys.items in
    let marks : List (List Bool) = rows_of placed.routes.marks.items in
    let k : ℕ = c.loop-names.names-index in
    let says : ℕ → List Bool → Type 0 = λ p row. (q : ℕ) → q < length placed.candidates.items → bit row q ≡ spares_test keys marks (get_or all p []) (get_or all q []) in
    let here : get_or all k [] ≡ c.names-item.result.items =
    ap (λ l. get_or (rows_of l) k []) (sym c.as_slice-candidates.ensures.value) ∙ row_at c.as_slice-candidates.result.now k c.names-item.result c.loop-names-test.true c.names-item.is in
    record {
      len = omega (arith, c.in_ok-push.ensures.len, c.loop-names.invariant.len);
      says = λ p lp. rw (c.in_ok-push.ensures.items, map-append)
          (row-pushed says (rows_of c.loop-names.rows.items) k c.in_ok-row.row.items []
          (length-map c.loop-names.rows.items row_items ∙ c.loop-names.invariant.len) c.loop-names.invariant.says
          (λ q lq. c.in_ok-row.ensures q (rw c.as_slice-candidates.ensures.value lq)
          ∙ ap (λ names. spares_test keys marks names (get_or (rows_of c.as_slice-candidates.result.now) q [])) (c.as_slice.ensures.value ∙ sym here)
          ∙ ap (λ l. spares_test keys marks (get_or all k []) (get_or (rows_of l) q [])) c.as_slice-candidates.ensures.value) p lp);
    }
