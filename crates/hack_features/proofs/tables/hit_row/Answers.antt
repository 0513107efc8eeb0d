use Rattle.std.proofs.Common.{◌≡◌, [], sym, arith, ℕ, get_or, subst, List, Bool, IsTrue, ap, ◌∙◌}
use Rattle.std.specs.Prelude.{count_by}
use Rattle.std.specs.List.{list_any}
use Rattle.hack_samples.specs.Sets.{rows_of}
use Rattle.hack_routes.specs.Rows.{leads}
use Rattle.hack_features.specs.InternalTables.{Counts}
use Rattle.hack_base.proofs.Steps.{row-pushed}
use Rattle.hack_routes.proofs.MarkLemmas.{row_at}
use Rattle.hack_features.proofs.TableLemmas.{counts_by}
use Rattle.hack_features.proofs.tables.hit_row.Goals as goal

pub loop-names-preserved : goal.loop-names-preserved
loop-names-preserved c =
    let test : ℕ → Bool = λ x. list_any (leads (rows_of c.args.placed.now.routes.marks.items) x) c.args.group.now in
    let all : List (List ℕ) = rows_of c.args.placed.now.candidates.items in
    let k : ℕ = c.loop-names.names-index in
    let counts : ℕ → ℕ → Type 0 = λ q. Counts (λ x. IsTrue (test x)) (get_or all q []) in
    let here : get_or all k [] ≡ c.names-item.result.items =
    ap (λ l. get_or (rows_of l) k []) (sym c.as_slice-names-items.ensures.value) ∙ row_at c.as_slice-names-items.result.now k c.names-item.result c.loop-names-test.true c.names-item.is in
    record {
      len = omega (arith, c.in_ok-push.ensures.len, c.loop-names.invariant.len);
      counts = λ q lt. rw c.in_ok-push.ensures.items
          (row-pushed counts c.loop-names.row.items k c.count_reaching.result 0 c.loop-names.invariant.len c.loop-names.invariant.counts
          (subst (counts k) (sym (c.count_reaching.ensures ∙ ap (count_by test) (c.as_slice.ensures.value ∙ sym here))) (counts_by test (get_or all k []))) q lt);
    }
