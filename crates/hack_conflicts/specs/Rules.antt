-- Which sets of positions may be chosen.
use Rattle.std.specs.Prelude.{◌<◌, ℕ, List, [], length, Bool, All, IsTrue, ◌⊎◌}
use Rattle.std.specs.List.{slice_index_or}
use Rattle.hack_conflicts.specs.Sets.{rows_of, mark, Has}
use Rattle.hack_conflicts.specs.declared.rules.Rules.{Rules}

-- how many positions there are
abbrev pub size_of : Rules → ℕ
size_of r = length r.enables.items

-- what position x enables
abbrev pub row_of : Rules → ℕ → List Bool
row_of r x = slice_index_or (rows_of r.enables.items) x []

-- whether position x enables position y
abbrev pub enables : Rules → ℕ → ℕ → Bool
enables r x y = mark (row_of r x) y

-- each position enables itself, only positions that there are, and all that those enable
pub record IsPreorder (r : Rules) : Type 0 where
  pub reflexive : (x : ℕ) → x < size_of r → IsTrue (enables r x x)
  pub below : (x y : ℕ) → IsTrue (enables r x y) → y < size_of r
  pub transitive : (x y z : ℕ) → IsTrue (enables r x y) → IsTrue (enables r y z) → IsTrue (enables r x z)

-- the set has only positions that there are, and all that its members enable
pub record IsClosed (r : Rules) (s : List Bool) : Type 0 where
  pub below : (p : ℕ) → Has s p → p < size_of r
  pub whole : (p q : ℕ) → Has s p → IsTrue (enables r p q) → Has s q

-- one member enables both positions
abbrev pub HasAbove : Rules → List Bool → ℕ → ℕ → Type 0
HasAbove r s p q = (t : ℕ) × Has s t × IsTrue (enables r t p) × IsTrue (enables r t q)

-- one member enables any two members that are of the group
abbrev pub HasOneOf : Rules → List Bool → List Bool → Type 0
HasOneOf r s group = (p q : ℕ) → Has s p → Has s q → Has group p → Has group q → HasAbove r s p q

-- the set is exclusive: of no group it has two members, but such as one of its members enables
abbrev pub IsExclusive : Rules → List Bool → Type 0
IsExclusive r s = All (HasOneOf r s) (rows_of r.exclusive.items)

-- the two sets share a position
abbrev pub Meets : List Bool → List Bool → Type 0
Meets s group = (p : ℕ) × Has group p × Has s p

-- the set has one of each needed group
abbrev pub IsRequired : Rules → List Bool → Type 0
IsRequired r s = All (Meets s) (rows_of r.needed.items)

-- a set that may be chosen
pub record IsChoice (r : Rules) (s : List Bool) : Type 0 where
  pub closed : IsClosed r s
  pub exclusive : IsExclusive r s
  pub required : IsRequired r s

-- of any two positions of the group that one position enables, one enables the other
abbrev pub EnablesOneOf : Rules → List Bool → Type 0
EnablesOneOf r group = (x p q : ℕ) → IsTrue (enables r x p) → IsTrue (enables r x q) → Has group p → Has group q → IsTrue (enables r p q) ⊎ IsTrue (enables r q p)

-- no position enables two of an exclusion group, but such as enable one another
abbrev pub IsPlain : Rules → Type 0
IsPlain r = All (EnablesOneOf r) (rows_of r.exclusive.items)
