-- Entries that a call makes.
use Rattle.std.proofs.Common.{◌≡◌, inl, inr, List, [], ◌∷◌, ◌++◌, Some, None, refl, sym, ◌∙◌, ap, true, cond}
use Rattle.std.proofs.lemmas.Bool.{cases_Bool}
use Rattle.hack_journal.specs.Journal.{Edit}
use Rattle.hack_journal.specs.Strangers.{first_stranger, is_edit_of_manifest}

-- one more of them
pub known_more : (es : List Edit) (e : Edit) → first_stranger es ≡ None → is_edit_of_manifest e ≡ true → first_stranger (es ++ e ∷ []) ≡ None
known_more [] e k is = ap (λ b. cond b (first_stranger []) (Some e)) is
known_more (x ∷ es) e k is = elim (cases_Bool (is_edit_of_manifest x)) [
  | inl t ↦ ap (λ b. cond b (first_stranger (es ++ e ∷ [])) (Some x)) t ∙ known_more es e (sym (ap (λ b. cond b (first_stranger es) (Some x)) t) ∙ k) is
  | inr f ↦ let y : Some x ≡ None = sym (ap (λ b. cond b (first_stranger es) (Some x)) f) ∙ k in cc
]

-- the first of them
pub known_left : (es more : List Edit) → first_stranger (es ++ more) ≡ None → first_stranger es ≡ None
known_left [] more k = refl
known_left (x ∷ es) more k = elim (cases_Bool (is_edit_of_manifest x)) [
  | inl t ↦ ap (λ b. cond b (first_stranger es) (Some x)) t ∙ known_left es more (sym (ap (λ b. cond b (first_stranger (es ++ more)) (Some x)) t) ∙ k)
  | inr f ↦ let y : Some x ≡ None = sym (ap (λ b. cond b (first_stranger (es ++ more)) (Some x)) f) ∙ k in cc
]
