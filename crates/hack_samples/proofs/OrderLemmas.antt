-- Lemmas on the order of sets.
use Rattle.std.proofs.Common.{◌≡◌, ℕ, zero, suc, ◌+◌, ◌-◌, ◌<◌, ◌≤◌, List, [], ◌∷◌, length, get_or, take, drop, refl, sym, ◌∙◌, ap, subst, arith, Bool, true, ◌⊎◌, inl, inr, AllPairs, Contains, Vec}
use Rattle.std.specs.List.{insert}
use Rattle.std.proofs.lemmas.Bool.{cases_lt}
use Rattle.std.proofs.lemmas.List.{take-append-drop, get_or_default}
use Rattle.std.proofs.lemmas.List.Edits.{length-insert, get_or-insert_below, get_or-insert_at, get_or-insert_above}
use Rattle.std.proofs.lemmas.List.Elements.{Contains-append_left, Contains-append_right, Contains-append_cases, Contains-push_cases}
use Rattle.hack_samples.specs.Sets.{has, rows_of}
use Rattle.hack_samples.specs.Order.{IsMaskBefore}
use Rattle.hack_samples.specs.Internal.{BelongsAt}
use Rattle.hack_samples.proofs.SetLemmas.{not_both}

pub three : (a b : ℕ) → (a < b) ⊎ ((a ≡ b) ⊎ (b < a))
three a b =
    elim (cases_lt a b) [
      | inl lt ↦ inl lt
      | inr le ↦ elim (cases_lt b a) [ inl lt ↦ inr (inr lt) | inr ge ↦ inr (inl (omega arith)) ]
    ]

-- sets with the same members are the same
pub same-sets : (s t : List Bool) → length s ≡ length t → ((p : ℕ) → has s p ≡ has t p) → s ≡ t
same-sets [] [] e h = refl
same-sets [] (y ∷ t) e h = absurd (omega (arith, e))
same-sets (x ∷ s) [] e h = absurd (omega (arith, e))
same-sets (x ∷ s) (y ∷ t) e h = ap (λ l. x ∷ l) (same-sets s t (omega (arith, e)) (λ p. h (suc p))) ∙ ap (λ b. b ∷ t) (h 0)

pub before_trans : (s t u : List Bool) → IsMaskBefore s t → IsMaskBefore t u → IsMaskBefore s u
before_trans s t u a b =
    elim (three a.greatest b.greatest) [
      | inl lt ↦ record { greatest = b.greatest; absent = a.above b.greatest lt ∙ b.absent; present = b.present; above = λ p more. a.above p (omega arith) ∙ b.above p more }
      | inr w ↦ elim w [
        | inl e ↦ absurd (not_both (subst (λ q. has t q ≡ true) e a.present) b.absent)
        | inr lt ↦ record { greatest = a.greatest; absent = a.absent; present = sym (b.above a.greatest lt) ∙ a.present; above = λ p more. a.above p more ∙ b.above p (omega arith) }
      ]
    ]

module _ {X : Type 0} (R : X → X → Type 0) (xs : List X) (i : ℕ) (y : X) where
  both-past : (a b : ℕ) (d : X) → a < b + 1 → i < a → b < length xs → i ≤ length xs → AllPairs R xs → R (get_or (insert xs i y) a d) (get_or xs b d)
  both-past a b d lt in' below le pairs =
      let e : (a - 1) + 1 ≡ a = omega arith in
      subst (λ k. R (get_or (insert xs i y) k d) (get_or xs b d)) e
      (subst (λ z. R z (get_or xs b d)) (sym (get_or-insert_above xs i y d (a - 1) (omega arith) le)) (pairs (a - 1) b d (omega arith) below))

  past : (a b : ℕ) (d : X) → a < b → i < b → b < length xs + 1 → i ≤ length xs → AllPairs R xs → ((k : ℕ) (d : X) → k < i → R (get_or xs k d) y) → ((k : ℕ) (d : X) → i ≤ k → k < length xs → R y (get_or xs k d))
      → R (get_or (insert xs i y) a d) (get_or (insert xs i y) b d)
  past a b d lt in' below le pairs front behind =
      let e : (b - 1) + 1 ≡ b = omega arith in
      subst (λ k. R (get_or (insert xs i y) a d) (get_or (insert xs i y) k d)) e
      (subst (R (get_or (insert xs i y) a d)) (sym (get_or-insert_above xs i y d (b - 1) (omega arith) le))
      (elim (three a i) [
        | inl a-in ↦ subst (λ z. R z (get_or xs (b - 1) d)) (sym (get_or-insert_below xs i y d a a-in le)) (pairs a (b - 1) d (omega arith) (omega arith))
        | inr w ↦ elim w [
          | inl a-at ↦ subst (λ z. R z (get_or xs (b - 1) d)) (sym (ap (λ k. get_or (insert xs i y) k d) a-at ∙ get_or-insert_at xs i y d le)) (behind (b - 1) d (omega arith) (omega arith))
          | inr a-past ↦ both-past a (b - 1) d (omega arith) a-past (omega arith) le pairs
        ]
      ]))

  -- a list stays in order when y is inserted between what comes before y and what comes after it
  pub pairs-insert : i ≤ length xs → AllPairs R xs → ((k : ℕ) (d : X) → k < i → R (get_or xs k d) y) → ((k : ℕ) (d : X) → i ≤ k → k < length xs → R y (get_or xs k d)) → AllPairs R (insert xs i y)
  pairs-insert le pairs front behind a b d lt below =
      let size : length (insert xs i y) ≡ length xs + 1 = length-insert xs i y le in
      elim (three b i) [
        | inl b-in ↦
            subst (λ z. R z (get_or (insert xs i y) b d)) (sym (get_or-insert_below xs i y d a (omega arith) le))
            (subst (R (get_or xs a d)) (sym (get_or-insert_below xs i y d b b-in le)) (pairs a b d lt (omega arith)))
        | inr w ↦ elim w [
          | inl b-at ↦
              subst (λ z. R z (get_or (insert xs i y) b d)) (sym (get_or-insert_below xs i y d a (omega arith) le))
              (subst (R (get_or xs a d)) (sym (ap (λ k. get_or (insert xs i y) k d) b-at ∙ get_or-insert_at xs i y d le)) (front a d (omega arith)))
          | inr b-past ↦ past a b d lt b-past (omega (arith, below, size)) le pairs front behind
        ]
      ]

module _ {X : Type 0} (xs : List X) (i : ℕ) (y : X) where
  pub kept-insert : (x : X) → Contains xs x → Contains (insert xs i y) x
  kept-insert x h =
      elim (Contains-append_cases (take i xs) (drop i xs) x (subst (λ l. Contains l x) (sym (take-append-drop i xs)) h)) [
        | inl w ↦ Contains-append_left (take i xs) (y ∷ drop i xs) x w
        | inr w ↦ Contains-append_right (take i xs) (y ∷ drop i xs) x (Contains-append_right (y ∷ []) (drop i xs) x w)
      ]

  pub only-insert : (x : X) → Contains (insert xs i y) x → Contains xs x ⊎ (x ≡ y)
  only-insert x h =
      elim (Contains-append_cases (take i xs) (y ∷ drop i xs) x h) [
        | inl w ↦ inl (subst (λ l. Contains l x) (take-append-drop i xs) (Contains-append_left (take i xs) (drop i xs) x w))
        | inr w ↦ elim (Contains-append_cases (y ∷ []) (drop i xs) x w) [
          | inl v ↦ elim (Contains-push_cases [] y x v) [ inl none ↦ absurd (omega (arith, none.1)) | inr e ↦ inr (sym e) ]
          | inr v ↦ inl (subst (λ l. Contains l x) (take-append-drop i xs) (Contains-append_right (take i xs) (drop i xs) x v))
        ]
      ]

pub rows-insert : {X Z : Type 0} (xs : List (Vec X Z)) (i : ℕ) (v : Vec X Z) → rows_of (insert xs i v) ≡ insert (rows_of xs) i v.items
rows-insert [] zero v = refl
rows-insert [] (suc i) v = refl
rows-insert (x ∷ xs) zero v = refl
rows-insert (x ∷ xs) (suc i) v = ap (λ l. x.items ∷ l) (rows-insert xs i v)

-- one more of the sets is before s
pub front-more : (sets : List (List Bool)) (s t : List Bool) (i : ℕ) → get_or sets i t ≡ t → i < length sets → ((k : ℕ) (d : List Bool) → k < i → IsMaskBefore (get_or sets k d) s) → IsMaskBefore t s
    → (k : ℕ) (d : List Bool) → k < i + 1 → IsMaskBefore (get_or sets k d) s
front-more sets s t i at lt before now k d below =
    elim (three k i) [
      | inl less ↦ before k d less
      | inr w ↦ elim w [
        | inl e ↦ subst (λ l. IsMaskBefore l s) (sym (ap (λ j. get_or sets j d) e ∙ get_or_default sets i d t lt ∙ at)) now
        | inr more ↦ absurd (omega arith)
      ]
    ]

-- if s is before the set at the place, it is before all later ones, and belongs at the place
pub fits-here : (sets : List (List Bool)) (s t : List Bool) (i : ℕ) → get_or sets i t ≡ t → i < length sets → AllPairs IsMaskBefore sets → ((k : ℕ) (d : List Bool) → k < i → IsMaskBefore (get_or sets k d) s) → IsMaskBefore s t
    → BelongsAt sets s i
fits-here sets s t i at lt ordered front now = record {
  within = omega arith;
  in_front = front;
  behind = λ k d le below.
      elim (three i k) [
        | inl less ↦ before_trans s t (get_or sets k d) now (subst (λ l. IsMaskBefore l (get_or sets k d)) (get_or_default sets i d t lt ∙ at) (ordered i k d less below))
        | inr w ↦ elim w [
          | inl e ↦ subst (IsMaskBefore s) (sym (ap (λ j. get_or sets j d) (sym e) ∙ get_or_default sets i d t lt ∙ at)) now
          | inr more ↦ absurd (omega arith)
        ]
      ];
}
