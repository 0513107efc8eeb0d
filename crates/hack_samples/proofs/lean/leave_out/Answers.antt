use Rattle.std.proofs.Common.{◌≡◌, ◌∙◌, ◌<◌, sym, ap, subst, arith, List, Bool, ℕ, length}
use Rattle.std.proofs.lemmas.List.{length-map}
use Rattle.std.specs.List.{remove}
use Rattle.hack_samples.specs.Sets.{rows_of, tables_of}
use Rattle.hack_samples.proofs.LeanLemmas.{AreLeft, match-false, match-true, left-kept, left-without, rows-removed}
use Rattle.hack_samples.proofs.lean.leave_out.Goals as goal

pub loop-place-preserved : goal.loop-place-preserved
loop-place-preserved c =
    let providers : List (List (List ℕ)) = tables_of c.args.providers.now in
    let first : List (List Bool) = rows_of c.args.sets.now.items in
    let sets : List (List Bool) = rows_of c.loop-place.sets.items in
    let place : ℕ = c.loop-place.place in
    let same : rows_of c.as_slice.result.now ≡ sets = ap rows_of c.as_slice.ensures.value in
    let lt : place < length c.loop-place.sets.items = omega (arith, c.loop-place-test.true) in
    let below : place < length sets = subst (λ n. place < n) (sym (length-map c.loop-place.sets.items (λ v. v.items))) lt in
    let is : rows_of c.remove.new.self.items ≡ remove sets place = ap rows_of c.remove.ensures.items ∙ rows-removed c.loop-place.sets.items place in
    subst (λ l. AreLeft providers c.args.strength first l place) (sym is)
    (left-without providers c.args.strength first sets place below c.loop-place.invariant (rw same at (match-false _ _ _ c.if-branch.false c.in_ok-is_needed.ensures)))

pub loop-place-preserved-then-branch : goal.loop-place-preserved-then-branch
loop-place-preserved-then-branch c =
    let providers : List (List (List ℕ)) = tables_of c.args.providers.now in
    let first : List (List Bool) = rows_of c.args.sets.now.items in
    let sets : List (List Bool) = rows_of c.loop-place.sets.items in
    let place : ℕ = c.loop-place.place in
    let same : rows_of c.as_slice.result.now ≡ sets = ap rows_of c.as_slice.ensures.value in
    let lt : place < length c.loop-place.sets.items = omega (arith, c.loop-place-test.true) in
    let below : place < length sets = subst (λ n. place < n) (sym (length-map c.loop-place.sets.items (λ v. v.items))) lt in
    left-kept providers c.args.strength first sets place below c.loop-place.invariant (rw same at (match-true _ _ _ c.if-branch.true c.in_ok-is_needed.ensures))
