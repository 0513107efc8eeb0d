-- What a set still enables, by marks at the places that names lead to.
use Rattle.std.specs.Prelude.{ℕ, List, [], Bool, length, not, ◌&&◌, ◌==◌}
use Rattle.std.specs.List.{list_all, list_any, slice_index_or}
use Rattle.hack_routes.specs.Rows.{leads}

-- some name of a member leads to y
abbrev pub set_enables_test : List (List Bool) → List (List ℕ) → List ℕ → ℕ → Bool
set_enables_test marks candidates s y = list_any (λ p. list_any (λ x. leads marks x y) (slice_index_or candidates p [])) s

-- the set is not empty and enables each of the names
abbrev pub covers_test : List (List Bool) → List (List ℕ) → List ℕ → List ℕ → Bool
covers_test marks candidates s names = not (length s == 0) && list_all (set_enables_test marks candidates s) names
