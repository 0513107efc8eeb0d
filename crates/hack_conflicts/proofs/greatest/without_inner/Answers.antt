use Rattle.std.proofs.Common.{◌≡◌, ◌<◌, ◌+◌, ◌++◌, ◌∷◌, [], ℕ, List, Bool, length, get_or, take, arith, sym, subst, ap, ◌∙◌, refl}
use Rattle.std.proofs.lemmas.Bool.{false≢true}
use Rattle.hack_conflicts.specs.Sets.{rows_of, IsWithin}
use Rattle.hack_conflicts.specs.Internal.{KeepsOthers}
use Rattle.hack_conflicts.proofs.SetLemmas.{length-rows}
use Rattle.hack_conflicts.proofs.QueueLemmas.{rows-push}
use Rattle.hack_conflicts.proofs.GreatestLemmas.{others_skip, others_add}
use Rattle.hack_conflicts.proofs.greatest.without_inner.Goals as goal
use Rattle.hack_conflicts.proofs.greatest.without_inner.Goals.{then-not-is_within+in_ok-from_slice+in_ok-push, else-not-is_within}

pub loop-place-preserved : goal.loop-place-preserved
loop-place-preserved c =
    let set : List Bool = c.args.set.now in
    let all : List (List Bool) = rows_of c.args.sets.now in
    let place : ℕ = c.loop-place.place in
    let old : List (List Bool) = rows_of c.loop-place.left.items in
    let here : List Bool = get_or all place [] in
    let lt : place < length all = omega (arith, length-rows c.args.sets.now) in
    elim c.if-not-is_within.branch [
      | then-not-is_within+in_ok-from_slice+in_ok-push w ↦
          let e : rows_of w.push.new.self.items ≡ old ++ here ∷ [] =
          ap rows_of w.in_ok-push.ensures.items ∙ rows-push c.loop-place.left.items w.in_ok-from_slice.field-0
          ∙ ap (λ s. old ++ s ∷ []) (w.in_ok-from_slice.ensures.items ∙ c.set_at-other.ensures) in
          subst (λ v. KeepsOthers set (take (place + 1) all) (rows_of v.items)) (sym w.left-is)
          (subst (KeepsOthers set (take (place + 1) all)) (sym e)
          (others_add set all old place lt c.loop-place.invariant c.requires (λ inside. false≢true (w.if-not-is_within.ensures.1 (subst (λ s. IsWithin s set) (sym c.set_at-other.ensures) inside)))))
      | else-not-is_within w ↦
          subst (λ v. KeepsOthers set (take (place + 1) all) (rows_of v.items)) (sym w.left-is)
          (others_skip set all old place lt c.loop-place.invariant (subst (λ s. IsWithin s set) c.set_at-other.ensures (w.if-not-is_within.ensures.0 refl)))
    ]
