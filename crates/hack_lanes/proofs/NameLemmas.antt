-- Names that are the same.
use Rattle.std.proofs.Common.{◌≡◌, List, [], ◌∷◌, true, ap, ◌∙◌, refl, String, string_bytes, string_eq}
use Rattle.std.specs.Cmp.Lexicographic.{pointwise}
use Rattle.std.proofs.lemmas.Bool.{and_parts}
use Rattle.std.proofs.lemmas.Slice.Eq.{bytes_eq-Decides}
use Rattle.hack_base.specs.Names.{names_of}

-- names that are the same one by one are the same
pub same-names : {Y : Type 0} (xs ys : List (String Y)) → pointwise string_eq xs ys ≡ true → names_of xs ≡ names_of ys
same-names [] [] h = refl
same-names [] (y ∷ ys) h = absurd (cc)
same-names (x ∷ xs) [] h = absurd (cc)
same-names (x ∷ xs) (y ∷ ys) h =
    let both = and_parts (string_eq x y) (pointwise string_eq xs ys) h in
    let first : string_bytes x ≡ string_bytes y = (bytes_eq-Decides (string_bytes x) (string_bytes y)).0 both.0 in
    ap (λ n. n ∷ names_of xs) first ∙ ap (λ ns. string_bytes y ∷ ns) (same-names xs ys both.1)
