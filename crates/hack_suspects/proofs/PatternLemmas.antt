-- Lemmas on patterns: which rows show them, their parts, and their order.
use Rattle.std.proofs.Common.{◌≡◌, ℕ, zero, suc, ◌+◌, ◌<◌, ◌≤◌, List, [], ◌∷◌, ◌++◌, length, get_or, take, refl, sym, ◌∙◌, ap, subst, arith, Bool, inl, inr, All, AllPairs, remove}
use Rattle.std.specs.Prelude.{slice_get, Some}
use Rattle.std.proofs.lemmas.List.{get_or_default}
use Rattle.std.proofs.lemmas.List.Elements.{All-cons, All-head, All-tail, All-nil, All-contains, Contains-append_right, Contains-get_or}
use Rattle.hack_suspects.specs.Suspects.{Rises, IsPart, Precedes, DiffersBefore, IsPatternBefore}
use Rattle.hack_samples.specs.Samples.{RowShows}
use Rattle.hack_suspects.specs.InternalWalks.{PatternFits}
use Rattle.hack_samples.specs.declared.sets.Setting.{Setting}
use Rattle.hack_samples.proofs.SetLemmas.{not_both}
use Rattle.hack_samples.proofs.OrderLemmas.{three}

pub all-right : {X : Type 0} (P : X → Type 0) (xs ys : List X) → All P (xs ++ ys) → All P ys
all-right P xs ys h = λ k d lt. All-contains P (xs ++ ys) (get_or ys k d) h (Contains-append_right xs ys (get_or ys k d) (Contains-get_or ys k d lt))

-- one more setting, of a candidate that is greater than those before
pub rises-more : (low first : ℕ) (pattern : List Setting) (x : Setting) → Rises low first pattern → low ≤ first → first ≤ x.candidate → Rises low (x.candidate + 1) (pattern ++ x ∷ [])
rises-more low first [] x rises le le' = (omega arith, omega arith, tt)
rises-more low first (y ∷ pattern) x rises le le' =
    let lt : y.candidate < first = rises.1 in
    (rises.0, omega arith, rises-more (y.candidate + 1) first pattern x rises.2 (omega arith) le')

pub rises-wider : (low first n : ℕ) (pattern : List Setting) → Rises low first pattern → first ≤ n → Rises low n pattern
rises-wider low first n [] rises le = tt
rises-wider low first n (y ∷ pattern) rises le =
    let lt : y.candidate < first = rises.1 in
    (rises.0, omega arith, rises-wider (y.candidate + 1) first n pattern rises.2 le)

-- a pattern that rises from a bound rises from each smaller bound too
pub rises-lower : (low first n : ℕ) (pattern : List Setting) → low ≤ first → Rises first n pattern → Rises low n pattern
rises-lower low first n [] le rises = tt
rises-lower low first n (y ∷ pattern) le rises = let le' : first ≤ y.candidate = rises.0 in (omega arith, rises.1, rises.2)

pub part-none : (pattern : List Setting) → IsPart [] pattern
part-none [] = tt
part-none (y ∷ pattern) = tt

pub part-self : (pattern : List Setting) → IsPart pattern pattern
part-self [] = tt
part-self (y ∷ pattern) = inl (refl, part-self pattern)

-- the front of a pattern is a part of it
pub part-front : (pattern rest : List Setting) → IsPart pattern (pattern ++ rest)
part-front [] rest = part-none rest
part-front (y ∷ pattern) rest = inl (refl, part-front pattern rest)

-- a part stays a part of a pattern with one more setting at its start
pub part-more : (part : List Setting) (y : Setting) (pattern : List Setting) → IsPart part pattern → IsPart part (y ∷ pattern)
part-more [] y pattern h = tt
part-more (x ∷ part) y pattern h = inr h

pub part-then : (part middle pattern : List Setting) → IsPart part middle → IsPart middle pattern → IsPart part pattern
part-then [] middle pattern a b = part-none pattern
part-then (x ∷ part) [] pattern a b = absurd a
part-then (x ∷ part) (y ∷ middle) [] a b = absurd b
part-then (x ∷ part) (y ∷ middle) (z ∷ pattern) a b =
    elim b [
      | inl same ↦ elim a [
        | inl same' ↦ inl (same'.0 ∙ same.0, part-then part middle pattern same'.1 same.1)
        | inr out ↦ inr (part-then (x ∷ part) middle pattern out same.1)
      ]
      | inr out ↦ inr (part-then (x ∷ part) (y ∷ middle) pattern a out)
    ]

-- a row shows each part of what it shows
pub part-shows : (row : List Bool) (part pattern : List Setting) → IsPart part pattern → RowShows row pattern → RowShows row part
part-shows row [] pattern inside shows = All-nil (λ setting. slice_get row setting.candidate ≡ Some setting.on)
part-shows row (x ∷ part) [] inside shows = absurd inside
part-shows row (x ∷ part) (y ∷ pattern) inside shows =
    let S : Setting → Type 0 = λ setting. slice_get row setting.candidate ≡ Some setting.on in
    elim inside [
      | inl same ↦ All-cons S x part (subst S (sym same.0) (All-head S y pattern shows)) (part-shows row part pattern same.1 (All-tail S y pattern shows))
      | inr out ↦ part-shows row (x ∷ part) pattern out (All-tail S y pattern shows)
    ]

-- the candidates of a part increase within the same bounds as those of the pattern
pub part-rises : (low n : ℕ) (part pattern : List Setting) → IsPart part pattern → Rises low n pattern → Rises low n part
part-rises low n [] pattern inside rises = tt
part-rises low n (x ∷ part) [] inside rises = absurd inside
part-rises low n (x ∷ part) (y ∷ pattern) inside rises =
    elim inside [
      | inl same ↦
          subst (λ z. Rises low n (z ∷ part)) (sym same.0)
          (rises.0, rises.1, part-rises (y.candidate + 1) n part pattern same.1 rises.2)
      | inr out ↦
          let le : low ≤ y.candidate = rises.0 in
          part-rises low n (x ∷ part) pattern out (rises-lower low (y.candidate + 1) n pattern (omega arith) rises.2)
    ]

-- the pattern without one of its settings is a part
pub part-without : (pattern : List Setting) (i : ℕ) → IsPart (remove pattern i) pattern
part-without [] zero = tt
part-without [] (suc i) = tt
part-without (y ∷ pattern) zero = part-more pattern y pattern (part-self pattern)
part-without (y ∷ pattern) (suc i) = inl (refl, part-without pattern i)

-- a place of the pattern whose setting the part leaves out
pub record LeavesOut (part pattern : List Setting) : Type 0 where
  pub place : ℕ
  pub below : place < length pattern
  pub inside : IsPart part (remove pattern place)

-- a shorter part is a part of the pattern without one of its settings
pub part-shorter : (part pattern : List Setting) → IsPart part pattern → length part < length pattern → LeavesOut part pattern
part-shorter [] [] inside lt = absurd (omega arith)
part-shorter [] (y ∷ pattern) inside lt = record { place = 0; below = omega arith; inside = part-none pattern }
part-shorter (x ∷ part) [] inside lt = absurd inside
part-shorter (x ∷ part) (y ∷ pattern) inside lt =
    elim inside [
      | inl same ↦
          let out = part-shorter part pattern same.1 (omega arith) in
          let below : out.place < length pattern = out.below in
          record { place = suc out.place; below = omega arith; inside = inl (same.0, out.inside) }
      | inr out ↦ record { place = 0; below = omega arith; inside = out }
    ]

pub precedes_trans : (a b c : Setting) → Precedes a b → Precedes b c → Precedes a c
precedes_trans a b c h k =
    elim h [
      | inl lt ↦ elim k [
        | inl lt' ↦ inl (omega arith)
        | inr at ↦ let e : b.candidate ≡ c.candidate = at.0 in inl (omega arith)
      ]
      | inr at ↦
          let e : a.candidate ≡ b.candidate = at.0 in
          elim k [ inl lt' ↦ inl (omega arith) | inr at' ↦ absurd (not_both at.2 at'.1) ]
    ]

pub differs_trans : (p q r : List Setting) → DiffersBefore p q → DiffersBefore q r → DiffersBefore p r
differs_trans [] q r h k = absurd h
differs_trans (a ∷ p) [] r h k = absurd h
differs_trans (a ∷ p) (b ∷ q) [] h k = absurd k
differs_trans (a ∷ p) (b ∷ q) (c ∷ r) h k =
    elim h [
      | inl one ↦ elim k [ inl two ↦ inl (precedes_trans a b c one two) | inr same' ↦ inl (subst (Precedes a) same'.0 one) ]
      | inr same ↦ elim k [
        | inl two ↦ inl (subst (λ z. Precedes z c) (sym same.0) two)
        | inr same' ↦ inr (same.0 ∙ same'.0, differs_trans p q r same.1 same'.1)
      ]
    ]

pub before_trans : (p q r : List Setting) → IsPatternBefore p q → IsPatternBefore q r → IsPatternBefore p r
before_trans p q r h k =
    elim h [
      | inl lt ↦ elim k [
        | inl lt' ↦ inl (omega arith)
        | inr at ↦ let e : length q ≡ length r = at.0 in inl (omega arith)
      ]
      | inr at ↦
          let e : length p ≡ length q = at.0 in
          elim k [ inl lt' ↦ inl (omega arith) | inr at' ↦ inr (at.0 ∙ at'.0, differs_trans p q r at.1 at'.1) ]
    ]

head-same : (a b : Setting) (p q : List Setting) → a ∷ p ≡ b ∷ q → a ≡ b
head-same a b p q e = cc

tail-same : (a b : Setting) (p q : List Setting) → a ∷ p ≡ b ∷ q → p ≡ q
tail-same a b p q e = cc

-- two patterns that are the same before a place, where the setting of the first one is before
pub differs-at : (p q : List Setting) (i : ℕ) (d : Setting) → i < length p → i < length q → take i p ≡ take i q → Precedes (get_or p i d) (get_or q i d) → DiffersBefore p q
differs-at [] q i d lt lt' same h = absurd (omega arith)
differs-at (a ∷ p) [] i d lt lt' same h = absurd (omega arith)
differs-at (a ∷ p) (b ∷ q) zero d lt lt' same h = inl h
differs-at (a ∷ p) (b ∷ q) (suc i) d lt lt' same h =
    inr (head-same a b (take i p) (take i q) same, differs-at p q i d (omega arith) (omega arith) (tail-same a b (take i p) (take i q) same) h)

-- one more of the patterns is before p
pub front-more : (found : List (List Setting)) (p q : List Setting) (i : ℕ) → get_or found i q ≡ q → i < length found → ((k : ℕ) (d : List Setting) → k < i → IsPatternBefore (get_or found k d) p) → IsPatternBefore q p
    → (k : ℕ) (d : List Setting) → k < i + 1 → IsPatternBefore (get_or found k d) p
front-more found p q i at lt before now k d below =
    elim (three k i) [
      | inl less ↦ before k d less
      | inr w ↦ elim w [
        | inl e ↦ subst (λ l. IsPatternBefore l p) (sym (ap (λ j. get_or found j d) e ∙ get_or_default found i d q lt ∙ at)) now
        | inr more ↦ absurd (omega arith)
      ]
    ]

-- if p is before the pattern at the place, it is before all later ones, and belongs at the place
pub fits-here : (found : List (List Setting)) (p q : List Setting) (i : ℕ) → get_or found i q ≡ q → i < length found → AllPairs IsPatternBefore found → ((k : ℕ) (d : List Setting) → k < i → IsPatternBefore (get_or found k d) p) → IsPatternBefore p q
    → PatternFits found p i
fits-here found p q i at lt ordered front now = record {
  within = omega arith;
  in_front = front;
  later = λ k d le below.
      elim (three i k) [
        | inl less ↦ before_trans p q (get_or found k d) now (subst (λ l. IsPatternBefore l (get_or found k d)) (get_or_default found i d q lt ∙ at) (ordered i k d less below))
        | inr w ↦ elim w [
          | inl e ↦ subst (IsPatternBefore p) (sym (ap (λ j. get_or found j d) (sym e) ∙ get_or_default found i d q lt ∙ at)) now
          | inr more ↦ absurd (omega arith)
        ]
      ];
}
