-- What a walk over the patterns of a failed run's row has found.
use Rattle.std.specs.Prelude.{◌≡◌, ◌<◌, ◌≤◌, ◌-◌, ◌^◌, ◌++◌, ℕ, suc, min, List, Bool, true, All, AllPairs, Contains, length}
use Rattle.std.specs.List.{slice_index_or}
use Rattle.hack_suspects.specs.Suspects.{RunOutcome, Rises, IsSuspect, IsPatternBefore, choices}
use Rattle.hack_samples.specs.Samples.{RowShows}
use Rattle.hack_samples.specs.declared.sets.Setting.{Setting}

-- the row is that of a failed run
pub record IsFailedRow (outcomes : List RunOutcome) (row : List Bool) : Type 0 where
  pub by : RunOutcome
  pub among : Contains outcomes by
  pub ended : by.failed ≡ true
  pub is : by.on ≡ row

-- these are suspects, each before all later ones
pub record AreSomeSuspects (outcomes : List RunOutcome) (n t : ℕ) (found : List (List Setting)) : Type 0 where
  pub ordered : AllPairs IsPatternBefore found
  pub sound : All (IsSuspect outcomes n t) found

-- found has each shown suspect that continues the pattern by up to `more` settings, from first on
abbrev pub FindsFrom : List RunOutcome → ℕ → ℕ → List Bool → List Setting → ℕ → ℕ → List (List Setting) → Type 0
FindsFrom outcomes n t row pattern first more found =
    (rest : List Setting) → Rises first n rest → length rest ≤ more → RowShows row (pattern ++ rest) → IsSuspect outcomes n t (pattern ++ rest) → Contains found (pattern ++ rest)

-- each of the earlier patterns is one of the later
abbrev pub PatternsAreKept : List (List Setting) → List (List Setting) → Type 0
PatternsAreKept earlier later = (pattern : List Setting) → Contains earlier pattern → Contains later pattern

-- the pattern belongs at the place: those at earlier places are before it, the others after it
pub record PatternFits (found : List (List Setting)) (pattern : List Setting) (place : ℕ) : Type 0 where
  pub within : place ≤ length found
  pub in_front : (k : ℕ) (d : List Setting) → k < place → IsPatternBefore (slice_index_or found k d) pattern
  pub later : (k : ℕ) (d : List Setting) → place ≤ k → k < length found → IsPatternBefore pattern (slice_index_or found k d)

-- the count at k is of the choices of at most k + 1 of n candidates, capped at the greatest u128
abbrev pub CountsChoices : ℕ → List ℕ → Type 0
CountsChoices n counts = (k d : ℕ) → k < length counts → slice_index_or counts k d ≡ min (choices n (suc k)) (2 ^ 128 - 1)
