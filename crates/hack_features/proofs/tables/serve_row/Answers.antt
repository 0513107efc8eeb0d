use Rattle.std.proofs.Common.{◌≡◌, [], sym, ap, ◌∙◌, arith, Bool, ℕ, List, false, get_or}
use Rattle.std.specs.List.{list_any}
use Rattle.hack_samples.specs.Sets.{rows_of}
use Rattle.hack_features.specs.InternalTables.{serves_test}
use Rattle.hack_base.proofs.Steps.{row-pushed}
use Rattle.hack_routes.proofs.MarkLemmas.{row_at}
use Rattle.hack_features.proofs.tables.serve_row.Goals as goal

pub loop-names-preserved : goal.loop-names-preserved
loop-names-preserved c =
    let test : ℕ → Bool = serves_test c.args.placed.now.routes.keys.items (rows_of c.args.placed.now.routes.marks.items) c.args.group.now in
    let all : List (List ℕ) = rows_of c.args.placed.now.candidates.items in
    let k : ℕ = c.loop-names.names-index in
    let says : ℕ → Bool → Type 0 = λ q b. b ≡ list_any test (get_or all q []) in
    let here : get_or all k [] ≡ c.names-item.result.items =
    ap (λ l. get_or (rows_of l) k []) (sym c.as_slice-names-items.ensures.value) ∙ row_at c.as_slice-names-items.result.now k c.names-item.result c.loop-names-test.true c.names-item.is in
    record {
      len = omega (arith, c.in_ok-push.ensures.len, c.loop-names.invariant.len);
      says = λ q lt. rw c.in_ok-push.ensures.items
          (row-pushed says c.loop-names.row.items k c.some_serves.result false c.loop-names.invariant.len c.loop-names.invariant.says
          (c.some_serves.ensures ∙ ap (list_any test) (c.as_slice.ensures.value ∙ sym here)) q lt);
    }
