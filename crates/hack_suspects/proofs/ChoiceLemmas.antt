-- Lemmas on how many choices there are.
use Rattle.std.proofs.Common.{◌≡◌, ℕ, zero, suc, ◌-◌, ◌^◌, ◌≤◌, List, length, refl, sym, ◌∙◌, ap, arith, min, inl, inr}
use Rattle.std.specs.Prelude.{slice_get, unwrap_or}
use Rattle.std.proofs.lemmas.List.{get_or_past}
use Rattle.std.proofs.lemmas.Bool.{cases_lt}
use Rattle.std.proofs.lemmas.Option.{unwrap_or-slice_get}
use Rattle.hack_suspects.specs.Suspects.{choices}
use Rattle.hack_suspects.specs.InternalWalks.{CountsChoices}

pub choices-none : (n : ℕ) → choices n 0 ≡ 1
choices-none zero = refl
choices-none (suc n) = refl

-- among n candidates there are no choices of more than n
pub choices-past : (n t : ℕ) → n ≤ t → choices n t ≡ choices n n
choices-past zero t le = refl
choices-past (suc n) zero le = absurd (omega arith)
choices-past (suc n) (suc t) le =
    let a : choices n (suc t) ≡ choices n n = choices-past n (suc t) (omega arith) in
    let b : choices n t ≡ choices n n = choices-past n t (omega arith) in
    let c : choices n (suc n) ≡ choices n n = choices-past n (suc n) (omega arith) in
    omega arith

pub choices-min : (n t : ℕ) → choices n (min t n) ≡ choices n t
choices-min n t =
    elim (cases_lt t n) [
      | inl lt ↦ let e : min t n ≡ t = omega arith in ap (choices n) e
      | inr le ↦ let e : min t n ≡ n = omega arith in ap (choices n) e ∙ sym (choices-past n t le)
    ]

-- the last count is that of all choices, of which there is one without a count
pub choices-last : (n t : ℕ) (counts : List ℕ) → length counts ≡ min t n → CountsChoices n counts → unwrap_or (slice_get counts (length counts - 1)) 1 ≡ min (choices n t) (2 ^ 128 - 1)
choices-last n t counts len each =
    unwrap_or-slice_get counts (length counts - 1) 1
    ∙ elim (cases_lt (length counts - 1) (length counts)) [
      | inl lt ↦ let e : suc (length counts - 1) ≡ min t n = omega arith in each (length counts - 1) 1 lt ∙ ap (λ k. min k (2 ^ 128 - 1)) (ap (choices n) e ∙ choices-min n t)
      | inr le ↦
          let e : min t n ≡ 0 = omega arith in
          get_or_past counts (length counts - 1) 1 le ∙ ap (λ k. min k (2 ^ 128 - 1)) (sym (choices-none n) ∙ sym (ap (choices n) e) ∙ choices-min n t)
    ]
