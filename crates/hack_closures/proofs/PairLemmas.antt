-- Lists of names of which at most one has a property, and the sets that have these names.
use Rattle.std.proofs.Common.{◌≡◌, ◌≢◌, ℕ, zero, suc, ◌<◌, List, [], ◌∷◌, ◌++◌, get_or, sym, subst, arith, inl, inr, Contains, append-nil}
use Rattle.std.specs.Prelude.{AllPairs}
use Rattle.std.proofs.lemmas.List.Elements.{All-append, All-contains, Contains-append_left, Contains-append_right, Contains-get_or}
use Rattle.hack_base.proofs.Members.{Contains-nil, Contains-cons_cases, Contains-head, Contains-tail}
use Rattle.hack_base.specs.Names.{Name}
use Rattle.hack_sets.specs.Sets.{Pairwise}
use Rattle.hack_features.specs.Rules.{Choice, names_at, names_in}
use Rattle.hack_features.proofs.Single.{member_of}

-- not both have the property
abbrev pub NotBoth : {X : Type 0} → (X → Type 0) → X → X → Type 0
NotBoth P x y = P x → P y → ⊥

module _ {X : Type 0} (P : X → Type 0) where
  cross : (xs ys : List X) (x y : X) → Pairwise (NotBoth P) (xs ++ ys) → Contains xs x → Contains ys y → P x → P y → ⊥
  cross [] ys x y h cx cy px py = Contains-nil x cx
  cross (z ∷ xs) ys x y h cx cy px py = elim (Contains-cons_cases z xs x cx) [
    | inl e ↦ All-contains (NotBoth P z) (xs ++ ys) y h.0 (Contains-append_right xs ys y cy) (subst P (sym e) px) py
    | inr w ↦ cross xs ys x y h.1 w cy px py
  ]

  front : (xs ys : List X) → Pairwise (NotBoth P) (xs ++ ys) → Pairwise (NotBoth P) xs
  front [] ys h = tt
  front (z ∷ xs) ys h = (
    λ k d lt. All-contains (NotBoth P z) (xs ++ ys) (get_or xs k d) h.0 (Contains-append_left xs ys (get_or xs k d) (Contains-get_or xs k d lt)),
    front xs ys h.1,
  )

  back : (xs ys : List X) → Pairwise (NotBoth P) (xs ++ ys) → Pairwise (NotBoth P) ys
  back [] ys h = h
  back (z ∷ xs) ys h = back xs ys h.1

  joined : (xs ys : List X) → Pairwise (NotBoth P) xs → Pairwise (NotBoth P) ys → ((x y : X) → Contains xs x → Contains ys y → P x → P y → ⊥) → Pairwise (NotBoth P) (xs ++ ys)
  joined [] ys h g a = g
  joined (z ∷ xs) ys h g a = (
    All-append (NotBoth P z) xs ys h.0 (λ k d lt pz py. a z (get_or ys k d) (Contains-head z xs) (Contains-get_or ys k d lt) pz py),
    joined xs ys h.1 g (λ x y cx cy. a x y (Contains-tail z xs x cx) cy),
  )

module _ (c : Choice) (P : Name → Type 0) where
  -- of a set's names at most one has the property, so of a member's too
  pub one_alone : (s : List ℕ) (p : ℕ) → Contains s p → Pairwise (NotBoth P) (names_in c s) → Pairwise (NotBoth P) (names_in c (p ∷ []))
  one_alone [] p there h = absurd (Contains-nil p there)
  one_alone (q ∷ s) p there h = elim (Contains-cons_cases q s p there) [
    | inl e ↦ subst (λ r. Pairwise (NotBoth P) (names_in c (r ∷ []))) e (subst (Pairwise (NotBoth P)) (sym (append-nil (names_at c q))) (front P (names_at c q) (names_in c s) h))
    | inr w ↦ one_alone s p w (back P (names_at c q) (names_in c s) h)
  ]

  in_later : (s : List ℕ) (p : ℕ) (x : Name) → Contains s p → Contains (names_at c p) x → Contains (names_in c s) x
  in_later [] p x there h = absurd (Contains-nil p there)
  in_later (q ∷ s) p x there h = elim (Contains-cons_cases q s p there) [
    | inl e ↦ Contains-append_left (names_at c q) (names_in c s) x (subst (λ r. Contains (names_at c r) x) (sym e) h)
    | inr w ↦ Contains-append_right (names_at c q) (names_in c s) x (in_later s p x w h)
  ]

  -- no two members have such a name each
  pub not_two : (s : List ℕ) (p q : ℕ) (x y : Name) → Pairwise (NotBoth P) (names_in c s) → Contains s p → Contains s q → p ≢ q → Contains (names_at c p) x → Contains (names_at c q) y → P x → P y → ⊥
  not_two [] p q x y h cp cq ne cx cy px py = Contains-nil p cp
  not_two (r ∷ s) p q x y h cp cq ne cx cy px py = elim (Contains-cons_cases r s p cp) [
    | inl e ↦ elim (Contains-cons_cases r s q cq) [
      | inl f ↦ ne (let same : p ≡ q = cc in same)
      | inr w ↦ cross P (names_at c r) (names_in c s) x y h (subst (λ r. Contains (names_at c r) x) (sym e) cx) (in_later s q y w cy) px py
    ]
    | inr v ↦ elim (Contains-cons_cases r s q cq) [
      | inl f ↦ cross P (names_at c r) (names_in c s) y x h (subst (λ r. Contains (names_at c r) y) (sym f) cy) (in_later s p x v cx) py px
      | inr w ↦ not_two s p q x y (back P (names_at c r) (names_in c s) h) v w ne cx cy px py
    ]
  ]

  -- the reverse: where no member has two such names, and no two members have one each
  pub all_apart : (s : List ℕ) → AllPairs (λ p q. p < q) s → ((p : ℕ) → Contains s p → Pairwise (NotBoth P) (names_in c (p ∷ []))) → ((p q : ℕ) (x y : Name) → Contains s p → Contains s q → p < q → Contains (names_at c p) x → Contains (names_at c q) y → P x → P y → ⊥) → Pairwise (NotBoth P) (names_in c s)
  all_apart [] up one two = tt
  all_apart (p ∷ s) up one two =
      joined P (names_at c p) (names_in c s) (front P (names_at c p) [] (one p (Contains-head p s)))
      (all_apart s (λ i j d lt le. up (suc i) (suc j) d (omega arith) (omega arith)) (λ q cq. one q (Contains-tail p s q cq)) (λ q r x y cq cr. two q r x y (Contains-tail p s q cq) (Contains-tail p s r cr)))
      (λ x y cx cy.
      let w = member_of c s y cy in
      two p w.0 x y (Contains-head p s) (Contains-tail p s w.0 w.1) (below_all p s w.0 up w.1) cx w.2)
    where
      below_all : (p : ℕ) (s : List ℕ) (q : ℕ) → AllPairs (λ p q. p < q) (p ∷ s) → Contains s q → p < q
      below_all p s q up there = All-contains (λ q. p < q) s q (λ k d lt. up zero (suc k) d (omega arith) (omega arith)) there
