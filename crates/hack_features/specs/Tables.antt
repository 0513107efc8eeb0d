-- What tables answer on sets, entry by entry.
use Rattle.std.specs.Prelude.{◌≡◌, ◌<◌, ℕ, List, [], Bool, true, not, nat_le, sum_by, length, Option, None, Some, IsTrue, ◌↔◌}
use Rattle.std.specs.List.{slice_index_or, list_all, list_any}
use Rattle.hack_sets.specs.Sets.{IsSelection}
use Rattle.hack_routes.specs.Rows.{bit, cell}
use Rattle.hack_features.specs.Rules.{Choice, Spares, IsExclusive, IsRequired, CandidateReaches}

-- the entry of a row, 0 past its end
abbrev pub count_at : List ℕ → ℕ → ℕ
count_at row p = slice_index_or row p 0

-- the set has at most as many members as the depth, if there is one
abbrev pub keeps_depth : Option ℕ → List ℕ → Bool
keeps_depth None s = true
keeps_depth (Some most) s = nat_le (length s) most

-- the row of each member is false at each member
abbrev pub is_lean : List (List Bool) → List ℕ → Bool
is_lean rows s = list_all (λ p. list_all (λ q. not (cell rows p q)) s) s

-- in each row the sum of the members' entries is at most 1
abbrev pub is_exclusive : List (List ℕ) → List ℕ → Bool
is_exclusive rows s = list_all (λ row. nat_le (sum_by (count_at row) s) 1) rows

-- each row is true at some member
abbrev pub is_required : List (List Bool) → List ℕ → Bool
is_required rows s = list_all (λ row. list_any (bit row) s) rows

-- the tables say what the rules of the choice say
pub record AreTables (c : Choice) (spares : List (List Bool)) (hits : List (List ℕ)) (serves : List (List Bool)) : Type 0 where
  pub spared : (p q : ℕ) → p < length c.candidates → q < length c.candidates → IsTrue (cell spares p q) ↔ Spares c p q
  pub exclusive : (s : List ℕ) → IsSelection (length c.candidates) s → IsTrue (is_exclusive hits s) ↔ IsExclusive c s
  pub required : (s : List ℕ) → IsSelection (length c.candidates) s → IsTrue (is_required serves s) ↔ IsRequired c s
  pub groups : length hits ≡ length c.exclusive
  pub reached : (k p : ℕ) → k < length c.exclusive → p < length c.candidates → (0 < count_at (slice_index_or hits k []) p) ↔ CandidateReaches c (slice_index_or c.exclusive k []) p
