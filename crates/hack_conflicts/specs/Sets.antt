-- Sets of positions, as a mark for each position, and lists of sets.
use Rattle.std.specs.Prelude.{ℕ, List, map, Bool, false, Vec, IsTrue, Contains}
use Rattle.std.specs.List.{slice_index_or}

-- the lists of items in a list of vectors
abbrev pub rows_of : {X Z : Type 0} → List (Vec X Z) → List (List X)
rows_of lists = map (λ list. list.items) lists

-- the mark at a position
abbrev pub mark : List Bool → ℕ → Bool
mark s p = slice_index_or s p false

-- the set has the position
abbrev pub Has : List Bool → ℕ → Type 0
Has s p = IsTrue (mark s p)

-- each member of s is one of t
abbrev pub IsWithin : List Bool → List Bool → Type 0
IsWithin s t = (p : ℕ) → Has s p → Has t p

-- s lies inside one of the sets
abbrev pub IsInside : List (List Bool) → List Bool → Type 0
IsInside sets s = (t : List Bool) × Contains sets t × IsWithin s t

-- one of the sets lies inside s
abbrev pub HasInside : List (List Bool) → List Bool → Type 0
HasInside sets s = (t : List Bool) × Contains sets t × IsWithin t s

-- neither of the sets lies inside the other
pub record AreApart (s t : List Bool) : Type 0 where
  pub left : ¬ IsWithin s t
  pub right : ¬ IsWithin t s
