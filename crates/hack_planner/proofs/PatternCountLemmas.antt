-- Lemmas on how many patterns there are.
use Rattle.std.proofs.Common.{◌≡◌, ℕ, zero, suc, ◌-◌, ◌^◌, ◌<◌, List, length, get_or, refl, sym, ◌∙◌, ap, arith, min, inl, inr}
use Rattle.std.specs.Prelude.{slice_get, Some, None}
use Rattle.std.proofs.lemmas.Bool.{cases_lt}
use Rattle.std.proofs.lemmas.Option.{none-some, get_or_from_slice_get, slice_get-get_or, slice_get_within}
use Rattle.hack_planner.specs.PatternCounts.{CountsPatterns, patterns}

pub patterns-none : (n : ℕ) → patterns n 0 ≡ 1
patterns-none zero = refl
patterns-none (suc n) = refl

-- there are no patterns of more candidates than there are
pub patterns-past : (n t : ℕ) → n < t → patterns n t ≡ 0
patterns-past zero zero lt = absurd (omega arith)
patterns-past zero (suc t) lt = refl
patterns-past (suc n) zero lt = absurd (omega arith)
patterns-past (suc n) (suc t) lt =
    let a : patterns n (suc t) ≡ 0 = patterns-past n (suc t) (omega arith) in
    let b : patterns n t ≡ 0 = patterns-past n t (omega arith) in
    omega arith

-- the last count is that of all patterns
pub patterns-last : (n t : ℕ) (counts : List ℕ) (all : ℕ) → length counts ≡ t → CountsPatterns n counts → Some all ≡ slice_get counts (length counts - 1) → all ≡ min (patterns n t) (2 ^ 128 - 1)
patterns-last n t counts all len each last =
    let lt : length counts - 1 < length counts = slice_get_within counts (length counts - 1) all (sym last) in
    let e : suc (length counts - 1) ≡ t = omega arith in
    sym (get_or_from_slice_get counts (length counts - 1) all 0 (sym last)) ∙ each (length counts - 1) 0 lt ∙ ap (λ k. min (patterns n k) (2 ^ 128 - 1)) e

-- without a count there is one pattern
pub patterns-one : (n t : ℕ) (counts : List ℕ) → length counts ≡ t → None ≡ slice_get counts (length counts - 1) → 1 ≡ min (patterns n t) (2 ^ 128 - 1)
patterns-one n t counts len none =
    elim (cases_lt (length counts - 1) (length counts)) [
      | inl lt ↦ absurd (none-some (get_or counts (length counts - 1) 0) (none ∙ slice_get-get_or counts (length counts - 1) 0 lt))
      | inr le ↦
          let e : t ≡ 0 = omega arith in
          sym (ap (λ k. min k (2 ^ 128 - 1)) (ap (patterns n) e ∙ patterns-none n))
    ]
