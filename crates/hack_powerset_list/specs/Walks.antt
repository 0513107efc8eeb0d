-- Which sets a walk lists, and their lines.
use Rattle.std.specs.Prelude.{◌≡◌, ℕ, List, [], ◌∷◌, ◌++◌, Bool, ◌&&◌, not, filter, flat_map, bytes_eq}
use Rattle.hack_features.specs.declared.rules.Rules.{Rules}
use Rattle.hack_base.specs.Names.{Name}
use Rattle.hack_sets.specs.Questions.{is_whole}
use Rattle.hack_features.specs.View.{may_of, size_of, whole_of}
use Rattle.hack_sets.specs.Walk.{below}
use Rattle.hack_plan.specs.Runs.{Set}
use Rattle.hack_powerset_list.specs.Lines.{run_line}

-- the listed sets that consist of s and one or more positions below p, in the order of sets
abbrev pub listed_below : Rules → ℕ → List ℕ → List (List ℕ)
listed_below r p s = filter (is_whole (whole_of r)) (below (may_of r) p s)

-- the sets that are listed
abbrev pub listed_in : Rules → List (List ℕ)
listed_in r = listed_below r (size_of r) []

-- the list ends in the element
pub record EndsIn {X : Type 0} (xs : List X) (last : X) : Type 0 where
  pub front : List X
  pub same : xs ≡ front ++ last ∷ []

-- the set is listed, and isn't this one
abbrev pub is_other : Rules → List ℕ → List ℕ → Bool
is_other r last s = is_whole (whole_of r) s && not (bytes_eq s last)

-- the lines of sets
abbrev pub set_lines : List Name → List (List ℕ) → List ℕ
set_lines names sets = flat_map (λ s. run_line names (Set s)) sets
