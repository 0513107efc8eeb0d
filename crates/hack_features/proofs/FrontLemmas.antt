-- A position before the others of a set or after them: tests of the set give the same.
use Rattle.std.proofs.Common.{◌≡◌, ℕ, ◌+◌, List, [], ◌∷◌, ◌++◌, length, refl, sym, ◌∙◌, ap, arith, Bool, true, false, Option, None, Some, length-append}
use Rattle.std.specs.Prelude.{◌&&◌, nat_le, not, sum_by}
use Rattle.std.specs.List.{list_all}
use Rattle.std.proofs.lemmas.List.Folds.{list_all-append}
use Rattle.std.proofs.lemmas.List.Sums.{sum_by-cons}
use Rattle.hack_features.specs.declared.rules.Rules.{Rules}
use Rattle.hack_samples.specs.Sets.{rows_of}
use Rattle.hack_features.specs.Tables.{keeps_depth, is_lean, is_exclusive, count_at}
use Rattle.hack_routes.specs.Rows.{cell}
use Rattle.hack_features.specs.View.{may_of}

one_more : (s : List ℕ) (p : ℕ) → length (p ∷ s) ≡ length (s ++ p ∷ [])
one_more s p = omega (arith, length-append s (p ∷ []))

depth-front : (depth : Option ℕ) (s : List ℕ) (p : ℕ) → keeps_depth depth (p ∷ s) ≡ keeps_depth depth (s ++ p ∷ [])
depth-front None s p = refl
depth-front (Some most) s p = ap (λ n. nat_le n most) (one_more s p)

and-swap : (a b : Bool) → (a && b) ≡ (b && (a && true))
and-swap true true = refl
and-swap true false = refl
and-swap false true = refl
and-swap false false = refl

all-front : (f : ℕ → Bool) (s : List ℕ) (p : ℕ) → list_all f (p ∷ s) ≡ list_all f (s ++ p ∷ [])
all-front f s p = and-swap (f p) (list_all f s) ∙ sym (list_all-append f s (p ∷ []))

pub all-same : {X : Type 0} (f g : X → Bool) (xs : List X) → ((x : X) → f x ≡ g x) → list_all f xs ≡ list_all g xs
all-same f g [] h = refl
all-same f g (x ∷ xs) h = ap (λ b. b && list_all f xs) (h x) ∙ ap (λ b. g x && b) (all-same f g xs h)

sum-behind : (f : ℕ → ℕ) (s : List ℕ) (p : ℕ) → sum_by f (s ++ p ∷ []) ≡ f p + sum_by f s
sum-behind f [] p = sum_by-cons f p []
sum-behind f (x ∷ s) p = omega (arith, sum_by-cons f x (s ++ p ∷ []), sum_by-cons f x s, sum-behind f s p)

sum-front : (f : ℕ → ℕ) (s : List ℕ) (p : ℕ) → sum_by f (p ∷ s) ≡ sum_by f (s ++ p ∷ [])
sum-front f s p = omega (arith, sum_by-cons f p s, sum-behind f s p)

pub may-front : (r : Rules) (s : List ℕ) (p : ℕ) → may_of r (p ∷ s) ≡ may_of r (s ++ p ∷ [])
may-front r s p =
    let depth = r.given.depth in
    let hits = rows_of r.tables.hits.items in
    let spares = rows_of r.tables.spares.items in
    let exclusive : is_exclusive hits (p ∷ s) ≡ is_exclusive hits (s ++ p ∷ []) =
    all-same (λ row. nat_le (sum_by (count_at row) (p ∷ s)) 1) (λ row. nat_le (sum_by (count_at row) (s ++ p ∷ [])) 1) hits (λ row. ap (λ n. nat_le n 1) (sum-front (count_at row) s p)) in
    let lean : is_lean spares (p ∷ s) ≡ is_lean spares (s ++ p ∷ []) =
    all-same (λ x. list_all (λ y. not (cell spares x y)) (p ∷ s)) (λ x. list_all (λ y. not (cell spares x y)) (s ++ p ∷ [])) (p ∷ s) (λ x. all-front (λ y. not (cell spares x y)) s p)
    ∙ all-front (λ x. list_all (λ y. not (cell spares x y)) (s ++ p ∷ [])) s p in
    ap (λ b. b && (is_exclusive hits (p ∷ s) && is_lean spares (p ∷ s))) (depth-front depth s p)
    ∙ ap (λ b. keeps_depth depth (s ++ p ∷ []) && (b && is_lean spares (p ∷ s))) exclusive
    ∙ ap (λ b. keeps_depth depth (s ++ p ∷ []) && (is_exclusive hits (s ++ p ∷ []) && b)) lean
