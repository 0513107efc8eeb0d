-- What only private functions of the crate promise each other.
use Rattle.std.specs.Prelude.{◌≡◌, ◌<◌, ◌+◌, ◌++◌, ℕ, List, [], ◌∷◌, map, length, Bool, true, false, cond, IsTrue, All, Contains, ◌↔◌, ◌⊎◌, None, replicate}
use Rattle.std.specs.List.{slice_index_or}
use Rattle.hack_base.specs.Names.{Name}
use Rattle.hack_conflicts.specs.Sets.{Has, mark, rows_of, IsWithin}
use Rattle.hack_conflicts.specs.Rules.{enables}
use Rattle.hack_conflicts.specs.declared.rules.Rules.{Rules as SearchRules}
use Rattle.hack_sets.specs.Sets.{IsSelection}
use Rattle.hack_features.specs.Rules.{Choice, CandidateReaches, IsRequired}
use Rattle.hack_features.specs.Settings.{IsOnWithAll}
use Rattle.hack_features.specs.Tables.{is_required}
use Rattle.hack_closures.specs.Closures.{AreAlone, IsTop, TurnsOn, candidate_at}

-- the candidates of the set's positions
abbrev pub candidates_of : List ℕ → List Bool → List ℕ
candidates_of [] s = []
candidates_of (p ∷ alone) [] = []
candidates_of (p ∷ alone) (b ∷ s) = cond b (p ∷ candidates_of alone s) (candidates_of alone s)

-- the top positions of the set, of which none enables another, and of which one enables each member
pub record AreGreatest (r : SearchRules) (s left : List Bool) : Type 0 where
  pub within : IsWithin left s
  pub above : (x : ℕ) → Has s x → (z : ℕ) × Has left z × IsTrue (enables r z x)
  pub apart : (x y : ℕ) → Has left x → Has left y → IsTrue (enables r y x) → y ≡ x
  pub tops : (x : ℕ) → Has left x ↔ IsTop r s x

-- a mark for each of the candidates, which says whether P holds of it
pub record AreMarks (P : ℕ → Type 0) (alone : List ℕ) (row : List Bool) : Type 0 where
  pub count : length row ≡ length alone
  pub each : (y : ℕ) → y < length alone → Has row y ↔ P (candidate_at alone y)

-- which of the candidates p turns on
abbrev pub AreTurnedOn : Choice → List ℕ → ℕ → List Bool → Type 0
AreTurnedOn c alone p row = AreMarks (TurnsOn c p) alone row

-- for each candidate which of them it turns on
pub record AreAllTurnedOn (c : Choice) (alone : List ℕ) (rows : List (List Bool)) : Type 0 where
  pub count : length rows ≡ length alone
  pub each : (x : ℕ) → x < length alone → AreTurnedOn c alone (candidate_at alone x) (slice_index_or rows x [])

-- which of the candidates are on with all features, and one more mark
pub record AreOnWithAll (c : Choice) (alone : List ℕ) (row : List Bool) : Type 0 where
  pub count : length row ≡ length alone + 1
  pub each : (y : ℕ) → y < length alone → Has row y ↔ IsOnWithAll c (candidate_at alone y)
  pub itself : Has row (length alone)

-- what each position enables
pub record AreEnabledRows (c : Choice) (alone : List ℕ) (all : Bool) (rows : List (List Bool)) : Type 0 where
  pub count : length rows ≡ length alone + cond all 1 0
  pub candidates : (x : ℕ) → x < length alone → AreTurnedOn c alone (candidate_at alone x) (slice_index_or rows x [])
  pub last : IsTrue all → AreOnWithAll c alone (slice_index_or rows (length alone) [])

-- which of the candidates reach the group
abbrev pub AreReaching : Choice → List ℕ → List Name → List Bool → Type 0
AreReaching c alone group row = AreMarks (CandidateReaches c group) alone row

-- for each exclusion group which of the candidates reach it
pub record AreGroups (c : Choice) (alone : List ℕ) (rows : List (List Bool)) : Type 0 where
  pub count : length rows ≡ length c.exclusive
  pub each : (k : ℕ) → k < length c.exclusive → AreReaching c alone (slice_index_or c.exclusive k []) (slice_index_or rows k [])

-- the row has just the two positions
abbrev pub IsPair : ℕ → ℕ → List Bool → Type 0
IsPair x last row = (p : ℕ) → Has row p ↔ ((p ≡ x) ⊎ (p ≡ last))

-- a row of each position below the last that isn't marked, and the last
pub record ArePairs (marks : List Bool) (last : ℕ) (rows : List (List Bool)) : Type 0 where
  pub only : All (λ row. (x : ℕ) × (x < last) × (¬ Has marks x) × IsPair x last row) rows
  pub each : (x : ℕ) → x < last → ¬ Has marks x → (row : List Bool) × Contains rows row × IsPair x last row

-- which positions exclude each other
pub record AreExcluding (c : Choice) (alone : List ℕ) (all : Bool) (enabled rows : List (List Bool)) : Type 0 where
  pub groups : all ≡ false → AreGroups c alone rows
  pub pairs : IsTrue all → ArePairs (slice_index_or enabled (length alone) []) (length alone) rows

-- a set is required just where each row is true at one of its members
abbrev pub AreServing : Choice → List (List Bool) → Type 0
AreServing c serving = (s : List ℕ) → IsSelection (length c.candidates) s → IsTrue (is_required serving s) ↔ IsRequired c s

-- of which positions a set needs one
pub record AreNeeded (c : Choice) (alone : List ℕ) (with_empty all : Bool) (rows : List (List Bool)) : Type 0 where
  pub serving : List (List Bool)
  pub served : AreServing c serving
  pub made : rows ≡ map (λ row. map (mark row) alone ++ cond all (true ∷ []) []) serving ++ cond with_empty [] ((replicate (length alone) true ++ cond all (true ∷ []) []) ∷ [])

-- the rows of the rules
pub record AreRows (c : Choice) (alone : List ℕ) (with_empty all : Bool) (r : SearchRules) : Type 0 where
  pub enabled : AreEnabledRows c alone all (rows_of r.enables.items)
  pub excluding : AreExcluding c alone all (rows_of r.enables.items) (rows_of r.exclusive.items)
  pub needed : AreNeeded c alone with_empty all (rows_of r.needed.items)

-- what is known of the rules that were made
pub record IsTold (c : Choice) (alone : List ℕ) (all : Bool) (r : SearchRules) : Type 0 where
  pub depth : c.depth ≡ None
  pub are_alone : AreAlone c alone
  pub bare : IsTrue all → c.exclusive ≡ []
  pub with_empty : Bool
  pub rows : AreRows c alone with_empty all r
