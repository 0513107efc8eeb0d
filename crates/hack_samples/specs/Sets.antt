-- A set of positions, as a list that says of each position whether it is a member.
use Rattle.std.specs.Prelude.{◌≡◌, ℕ, List, [], Bool, true, false, Vec, map, length}
use Rattle.std.specs.List.{slice_index_or, list_any, list_all}

-- whether p is a member of the set
abbrev pub has : List Bool → ℕ → Bool
has s p = slice_index_or s p false

-- whether one of these positions is a member of the set
abbrev pub has_one_of : List Bool → List ℕ → Bool
has_one_of s group = list_any (has s) group

-- whether the set has a member of each group
abbrev pub has_each : List Bool → List (List ℕ) → Bool
has_each s groups = list_all (has_one_of s) groups

-- whether the candidate is on in the set: for each of its names some member enables it
abbrev pub is_on : List (List (List ℕ)) → List Bool → ℕ → Bool
is_on providers s candidate = has_each s (slice_index_or providers candidate [])

-- s is inside t: both are over the same positions, and each member of s is one of t
pub record IsInside (s t : List Bool) : Type 0 where
  pub same : length s ≡ length t
  pub members : (p : ℕ) → has s p ≡ true → has t p ≡ true

-- the lists in a list of vectors
abbrev pub rows_of : {X Z : Type 0} → List (Vec X Z) → List (List X)
rows_of lists = map (λ list. list.items) lists

-- the lists of lists in a list of vectors of vectors
abbrev pub tables_of : {X Z Y : Type 0} → List (Vec (Vec X Z) Y) → List (List (List X))
tables_of tables = map (λ table. rows_of table.items) tables
