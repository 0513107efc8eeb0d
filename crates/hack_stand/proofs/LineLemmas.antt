-- Arguments on a line, and the last of them.
use Rattle.std.proofs.Common.{◌≡◌, ℕ, ◌-◌, ◌<◌, List, [], ◌∷◌, ◌++◌, length, map, get_or, bytes_eq, arith, refl, ap, sym, ◌∙◌, suc}
use Rattle.std.specs.List.{join_by}
use Rattle.std.proofs.lemmas.List.Folds.{flat_map-map}
use Rattle.hack_stand.specs.Words.{ends_with_word}

-- arguments in memory, joined
pub join-map : {X : Type 0} (f : X → List ℕ) (sep : List ℕ) (xs : List X) → join_by f sep xs ≡ join_by (λ word. word) sep (map f xs)
join-map f sep [] = refl
join-map f sep (x ∷ xs) = ap (λ l. f x ++ l) (sym (flat_map-map (λ part. sep ++ part) f xs))

-- the last argument decides
pub last-decides : {X : Type 0} (f : X → List ℕ) (word : List ℕ) (xs : List X) (d : X) → 0 < length xs
    → ends_with_word word (map f xs) ≡ bytes_eq (f (get_or xs (length xs - 1) d)) word
last-decides f word [] d some = absurd (omega arith)
last-decides f word (x ∷ []) d some = refl
last-decides f word (x ∷ y ∷ xs) d some =
    let at : length (x ∷ y ∷ xs) - 1 ≡ suc (length (y ∷ xs) - 1) = omega arith in
    last-decides f word (y ∷ xs) d (omega arith) ∙ ap (λ n. bytes_eq (f (get_or (x ∷ y ∷ xs) n d)) word) (sym at)
