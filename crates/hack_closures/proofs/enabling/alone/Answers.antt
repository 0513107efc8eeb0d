use Rattle.std.proofs.Common.{◌≡◌, ℕ, ◌<◌, ◌+◌, ◌∷◌, ◌++◌, [], List, length, arith, subst, sym, ap, ◌∙◌, inl, inr, ◌↔◌, Contains, add-one}
use Rattle.std.proofs.lemmas.Bool.{false≢true}
use Rattle.std.proofs.lemmas.List.Elements.{Contains-push, Contains-push_cases, Contains-append_left, All-contains}
use Rattle.hack_base.proofs.Members.{lt_or_same}
use Rattle.hack_sets.specs.Sets.{IsSelection}
use Rattle.hack_features.specs.Rules.{IsExclusive}
use Rattle.hack_features.specs.View.{choice_of}
use Rattle.hack_features.proofs.CandidateLemmas.{length-candidates_of}
use Rattle.hack_sets.proofs.Listing.{selection_push, selection_up}
use Rattle.hack_closures.proofs.enabling.alone.Goals as goal
use Rattle.hack_closures.proofs.enabling.alone.Goals.{then-is_exclusive_alone+in_ok-push, else-is_exclusive_alone}

-- the list has just the numbers below n of which P holds
record Sifted (P : ℕ → Type 0) (n : ℕ) (items : List ℕ) : Type 0 where
  selection : IsSelection n items
  exact : (p : ℕ) → p < n → Contains items p ↔ P p

sifted_more : (P : ℕ → Type 0) (n : ℕ) (items : List ℕ) → Sifted P n items → P n → Sifted P (n + 1) (items ++ n ∷ [])
sifted_more P n items h holds = record {
  selection = subst (λ k. IsSelection k (items ++ n ∷ [])) (sym (add-one n)) (selection_push n items h.selection);
  exact = λ p lt. elim (lt_or_same p n lt) [
    | inl l ↦ (
      λ there. elim (Contains-push_cases items n p there) [ inl w ↦ (h.exact p l).0 w | inr e ↦ subst P e holds ],
      λ w. Contains-append_left items (n ∷ []) p ((h.exact p l).1 w),
    )
    | inr e ↦ (λ there. subst P (sym e) holds, λ w. subst (Contains (items ++ n ∷ [])) (sym e) (Contains-push items n))
  ];
}

sifted_same : (P : ℕ → Type 0) (n : ℕ) (items : List ℕ) → Sifted P n items → ¬ P n → Sifted P (n + 1) items
sifted_same P n items h not = record {
  selection = selection_up n (n + 1) items (omega arith) h.selection;
  exact = λ p lt. elim (lt_or_same p n lt) [
    | inl l ↦ h.exact p l
    | inr e ↦ (
      λ there. absurd (let low : p < n = All-contains (λ q. q < n) items p h.selection.below there in omega arith),
      λ w. absurd (not (subst P e w)),
    )
  ];
}

pub loop-p-preserved : goal.loop-p-preserved
loop-p-preserved c =
    let P : ℕ → Type 0 = λ q. IsExclusive (choice_of c.args.rules.now) (q ∷ []) in
    let n : ℕ = c.loop-p.p in
    let before : Sifted P n c.loop-p.alone.items = record { selection = c.loop-p.invariant.selection; exact = c.loop-p.invariant.exact } in
    let after : Sifted P (n + 1) c.if-is_exclusive_alone.alone.items = elim c.if-is_exclusive_alone.branch [
      | then-is_exclusive_alone+in_ok-push w ↦
          subst (Sifted P (n + 1)) (sym (ap (λ v. v.items) w.alone-is ∙ w.in_ok-push.ensures.items))
          (sifted_more P n c.loop-p.alone.items before (c.is_exclusive_alone.ensures.0 w.if-is_exclusive_alone.true))
      | else-is_exclusive_alone w ↦
          subst (λ v. Sifted P (n + 1) v.items) (sym w.alone-is)
          (sifted_same P n c.loop-p.alone.items before (λ h. false≢true (sym w.if-is_exclusive_alone.false ∙ c.is_exclusive_alone.ensures.1 h)))
    ] in
    record { selection = after.selection; exact = after.exact }

pub returns : goal.returns
returns c =
    let k = choice_of c.args.rules.now in
    let n : c.loop-p.p ≡ length k.candidates = omega (arith, c.positions-p-end.ensures, c.loop-p-test.false, length-candidates_of c.args.rules.now.given.features.now) in
    record {
      selection = subst (λ n. IsSelection n c.loop-p.alone.items) n c.loop-p.invariant.selection;
      exact = λ p lt. c.loop-p.invariant.exact p (omega arith);
    }
