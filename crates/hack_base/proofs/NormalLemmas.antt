-- The parts of a path, and the last of them.
use Rattle.std.proofs.Common.{◌≡◌, ℕ, ◌-◌, List, [], ◌∷◌, ◌++◌, length, take, map, refl, ap, sym, ◌∙◌, Option, Some, None, option_map, Bool, true, false, if◌then◌else◌, Bor}
use Rattle.std.specs.List.{slice_get, join_by}
use Rattle.std.proofs.lemmas.List.{length-map, take-map}
use Rattle.std.proofs.lemmas.List.Folds.{flat_map-map}
use Rattle.std.proofs.lemmas.Option.{slice_get-map}
use Rattle.hack_base.specs.PathTexts.{is_up, one_up, without_last}
use Rattle.hack_base.specs.Names.{names_behind}

-- parts behind references, without the last one
climbed-texts : (rooted : Bool) (xs : List (Bor (List ℕ))) (last : Option (Bor (List ℕ))) → last ≡ slice_get xs (length xs - 1)
    → one_up rooted (names_behind xs) ≡ without_last rooted (option_map (λ part. part.now) last) (names_behind (take (length xs - 1) xs))
climbed-texts rooted xs last e =
    let f : Bor (List ℕ) → List ℕ = λ part. part.now in
    ap (λ n. without_last rooted (slice_get (map f xs) (n - 1)) (take (n - 1) (map f xs))) (length-map xs f)
    ∙ ap (λ o. without_last rooted o (take (length xs - 1) (map f xs))) (slice_get-map f xs (length xs - 1) ∙ ap (option_map f) (sym e))
    ∙ ap (without_last rooted (option_map f last)) (take-map f (length xs - 1) xs)

-- where the last part is a `..`
pub climbed-none : (rooted : Bool) (xs : List (Bor (List ℕ))) (last : Bor (List ℕ)) → Some last ≡ slice_get xs (length xs - 1) → is_up last.now ≡ true → one_up rooted (names_behind xs) ≡ None
climbed-none rooted xs last e up =
    climbed-texts rooted xs (Some last) e ∙ ap (λ b. if b then None else Some (names_behind (take (length xs - 1) xs))) up

-- where it is another
pub climbed-some : (rooted : Bool) (xs : List (Bor (List ℕ))) (last : Bor (List ℕ)) → Some last ≡ slice_get xs (length xs - 1) → is_up last.now ≡ false → one_up rooted (names_behind xs) ≡ Some (names_behind (take (length xs - 1) xs))
climbed-some rooted xs last e up =
    climbed-texts rooted xs (Some last) e ∙ ap (λ b. if b then None else Some (names_behind (take (length xs - 1) xs))) up

-- parts behind references, joined
pub join-texts : (sep : List ℕ) (xs : List (Bor (List ℕ))) → join_by (λ part. part.now) sep xs ≡ join_by (λ part. part) sep (names_behind xs)
join-texts sep [] = refl
join-texts sep (x ∷ xs) = ap (λ l. x.now ++ l) (sym (flat_map-map (λ part. sep ++ part) (λ part. part.now) xs))
