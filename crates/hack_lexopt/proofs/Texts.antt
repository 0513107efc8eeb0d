-- Where a text may be split again.
use Rattle.std.proofs.Common.{◌≡◌, ℕ, ◌-◌, List, ◌++◌, length, drop, arith, length-append, append_assoc, take, subst, sym, ap, ◌∙◌}
use Rattle.std.proofs.lemmas.List.{take-append-drop}
use Rattle.std.proofs.lemmas.Str.{IsCharBoundary-at_seam}
use Rattle.std.specs.Str.{IsCharBoundary, IsUtf8}

pub length_front : (bs xs ys : List ℕ) → bs ≡ xs ++ ys → length bs - length ys ≡ length xs
length_front bs xs ys e = omega (arith, ap length e, length-append xs ys)

-- the start of what is left of a text is a character boundary
pub IsCharBoundary-rest : (bs xs ys : List ℕ) → bs ≡ xs ++ ys → IsUtf8 ys → IsCharBoundary bs (length bs - length ys)
IsCharBoundary-rest bs xs ys e u = let P : ℕ → Type 0 = λ n. IsCharBoundary bs n in subst P (sym (length_front bs xs ys e)) (IsCharBoundary-at_seam bs xs ys e u)

-- an argument is a prefix, a letter and the rest
pub word_parts : (word letter rest : List ℕ) (at : ℕ) → drop at word ≡ letter ++ rest → word ≡ (take at word ++ letter) ++ rest
word_parts word letter rest at e = sym (take-append-drop at word) ∙ ap (λ (t : List ℕ). take at word ++ t) e ∙ sym (append_assoc (take at word) letter rest)
