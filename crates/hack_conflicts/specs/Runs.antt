-- Builds that were tried, and what is found by them.
use Rattle.std.specs.Prelude.{◌≡◌, ◌≢◌, ◌<◌, ◌≤◌, ◌+◌, ◌*◌, ◌↔◌, ℕ, List, [], map, length, drop, Bool, false, cond, IsTrue, All, AllPairs, Contains, ◌⊎◌, Option, IfSome, MatchOption}
use Rattle.std.specs.List.{slice_index_or}
use Rattle.hack_conflicts.specs.Sets.{Has, IsWithin, IsInside, HasInside, AreApart, rows_of}
use Rattle.hack_conflicts.specs.Rules.{IsChoice, IsPlain, size_of}
use Rattle.hack_conflicts.specs.declared.rules.Rules.{Rules}
use Rattle.hack_conflicts.specs.declared.tried.BuildOutcome.{BuildOutcome}
use Rattle.hack_conflicts.specs.declared.tried.BuildOutcome.TheVariants.{Passed, Failed, Broken}
use Rattle.hack_conflicts.specs.declared.tried.Tried.{Tried}
use Rattle.hack_conflicts.specs.declared.found.Found.{Found}
use Rattle.hack_conflicts.specs.declared.fault.SearchFault.{SearchFault}
use Rattle.hack_conflicts.specs.declared.fault.SearchFault.TheVariants.{Memory, Broken as BrokenFault}

-- a build with a set, and how it ended
pub record Run : Type 0 where
  pub set : List Bool
  pub outcome : BuildOutcome

-- the run that is recorded
abbrev pub run_of : Tried → Run
run_of one = record { set = one.set.items; outcome = one.outcome }

-- the runs that are recorded
abbrev pub runs_in : List Tried → List Run
runs_in tried = map run_of tried

-- a build with the set was tried, and failed
abbrev pub HasFailed : List Run → List Bool → Type 0
HasFailed runs s = Contains runs (record { set = s; outcome = Failed })

-- a build with the set was tried, and passed
abbrev pub HasPassed : List Run → List Bool → Type 0
HasPassed runs s = Contains runs (record { set = s; outcome = Passed })

-- the set lies inside one that was tried and passed
abbrev pub IsPassed : List Run → List Bool → Type 0
IsPassed runs s = (t : List Bool) × HasPassed runs t × IsWithin s t

-- the later run is no foregone conclusion: the earlier one wasn't broken, and if it passed, the
-- later set doesn't lie inside its set, and if it failed, its set doesn't lie inside the later one
pub record IsNew (earlier later : Run) : Type 0 where
  pub whole : earlier.outcome ≢ Broken
  pub passed : earlier.outcome ≡ Passed → ¬ IsWithin later.set earlier.set
  pub failed : earlier.outcome ≡ Failed → ¬ IsWithin earlier.set later.set

-- the runs of a search: each is of a set that may be chosen, none is a foregone conclusion, and
-- they are at most as many as are allowed
pub record IsCourse (r : Rules) (most : Option ℕ) (runs : List Run) : Type 0 where
  pub chosen : All (λ run. IsChoice r run.set) runs
  pub fresh : AllPairs IsNew runs
  pub within : IfSome most (λ m. length runs ≤ m)

-- each set inside the set that may be chosen, and lacks x, lies inside one that passed
abbrev pub Needs : Rules → List Run → List Bool → ℕ → Type 0
Needs r runs set x = (s : List Bool) → IsChoice r s → IsWithin s set → ¬ Has s x → IsPassed runs s

-- that is so for each member: each part of the set that may be chosen lies inside one that passed
abbrev pub IsLeast : Rules → List Run → List Bool → Type 0
IsLeast r runs set = (x : ℕ) → Has set x → Needs r runs set x

-- each set that failed has a conflict inside it
abbrev pub AreBlamed : List Run → List (List Bool) → Type 0
AreBlamed runs conflicts = (s : List Bool) → HasFailed runs s → HasInside conflicts s

-- the run failed, and no conflict lies inside its set
abbrev pub IsClear : List (List Bool) → Run → Type 0
IsClear conflicts run = (run.outcome ≡ Failed) × ¬ HasInside conflicts run.set

-- where the run failed, a conflict lies inside its set
abbrev pub IsToldOf : List (List Bool) → Run → Type 0
IsToldOf conflicts run = run.outcome ≡ Failed → HasInside conflicts run.set

-- the run at this place failed, and no conflict lies inside its set, as one does for each later run that
-- failed
abbrev pub IsOpen : List Run → List (List Bool) → ℕ → Type 0
IsOpen runs conflicts place =
    (place < length runs) × IsClear conflicts (slice_index_or runs place (record { set = []; outcome = Broken }))
    × All (IsToldOf conflicts) (drop (place + 1) runs)

-- a set that failed has no conflict inside it and isn't known to be least, and each set that failed
-- has a conflict inside it or this set
pub record IsUnfinished (r : Rules) (runs : List Run) (conflicts : List (List Bool)) : Type 0 where
  pub set : List Bool
  pub failed : HasFailed runs set
  pub clear : ¬ HasInside conflicts set
  pub smaller : ¬ IsLeast r runs set
  pub blamed : (s : List Bool) → HasFailed runs s → HasInside conflicts s ⊎ IsWithin set s

-- a conflict lies inside the set, or the set lies inside one that passed
abbrev pub IsDecided : List (List Bool) → List (List Bool) → List Bool → Type 0
IsDecided conflicts passing s = HasInside conflicts s ⊎ IsInside passing s

-- some set may be chosen, and isn't decided
abbrev pub IsIncomplete : Rules → List (List Bool) → List (List Bool) → Type 0
IsIncomplete r conflicts passing = (s : List Bool) × IsChoice r s × ¬ IsDecided conflicts passing s

-- so many runs are all that are allowed
abbrev pub IsSpent : Option ℕ → ℕ → Type 0
IsSpent most runs = MatchOption most ⊥ (λ m. m ≤ runs)

-- the outcomes are monotone: no set that passed has one inside that failed
abbrev pub AreMonotone : List Run → Type 0
AreMonotone runs = (s t : List Bool) → HasFailed runs s → HasPassed runs t → ¬ IsWithin s t

-- the outcomes are those of the test
abbrev pub Answers : (List Bool → Bool) → List Run → Type 0
Answers builds runs = All (λ run. run.outcome ≡ cond (builds run.set) Passed Failed) runs

-- of sets that may be chosen, one inside another that builds builds
abbrev pub IsMonotone : Rules → (List Bool → Bool) → Type 0
IsMonotone r builds = (s t : List Bool) → IsChoice r s → IsChoice r t → IsWithin s t → IsTrue (builds t) → IsTrue (builds s)

-- no set that may be chosen and builds is greater
abbrev pub IsGreatest : Rules → (List Bool → Bool) → List Bool → Type 0
IsGreatest r builds t = (s : List Bool) → IsChoice r s → IsTrue (builds s) → IsWithin t s → IsWithin s t

-- no run was broken
abbrev pub AreWhole : List Run → Type 0
AreWhole runs = All (λ (run : Run). run.outcome ≢ Broken) runs

-- memory is wanting only where no run was broken, and else one was
abbrev pub IsFaultOf : List Run → SearchFault → Type 0
IsFaultOf runs Memory = AreWhole runs
IsFaultOf runs BrokenFault = (s : List Bool) × Contains runs (record { set = s; outcome = Broken })

-- what a search found, as plain data
pub record Finding : Type 0 where
  pub runs : List Run
  pub conflicts : List (List Bool)
  pub passing : List (List Bool)
  pub complete : Bool

abbrev pub finding_of : Found → Finding
finding_of f = record { runs = runs_in f.runs.items; conflicts = rows_of f.conflicts.items; passing = rows_of f.passing.items; complete = f.complete }

-- What a search found, whatever the outcomes: its runs are of sets that may be chosen, none is a
-- foregone conclusion or broken, they are at most as many as are allowed, and so no set that passed has
-- one inside that failed. Each conflict failed, and each part of it that may be chosen lies inside a
-- set that passed; each passing set passed, and each set that passed lies inside one; no conflict and
-- no passing set lies inside another.
-- Where the search is complete, each set that may be chosen has a conflict inside or lies inside a
-- passing set, and each that failed has a conflict inside. Else some set isn't decided, all runs that
-- are allowed were tried, and one set that failed may have been in the making.
-- One run was tried for each passing set, and for each conflict one and two for each position; more only
-- where a position enables two of an exclusion group. A search that isn't complete may have begun with
-- one more conflict.
-- Where the outcomes are those of a test by which of sets that may be chosen what lies inside one that
-- builds builds, and the search is complete, such a set fails just where it has a conflict inside, and
-- no greater set than a passing one builds.
pub record IsFinding (r : Rules) (most : Option ℕ) (f : Finding) : Type 0 where
  pub course : IsCourse r most f.runs
  pub whole : AreWhole f.runs
  pub monotone : AreMonotone f.runs
  pub failed : All (HasFailed f.runs) f.conflicts
  pub least : All (IsLeast r f.runs) f.conflicts
  pub conflicts_apart : AllPairs AreApart f.conflicts
  pub passed : All (HasPassed f.runs) f.passing
  pub covers : (s : List Bool) → HasPassed f.runs s → IsInside f.passing s
  pub passing_apart : AllPairs AreApart f.passing
  pub decided : IsTrue f.complete → (s : List Bool) → IsChoice r s → IsDecided f.conflicts f.passing s
  pub blamed : IsTrue f.complete → AreBlamed f.runs f.conflicts
  pub unfinished : f.complete ≡ false → AreBlamed f.runs f.conflicts ⊎ IsUnfinished r f.runs f.conflicts
  pub incomplete : f.complete ≡ false → IsIncomplete r f.conflicts f.passing
  pub spent : f.complete ≡ false → IsSpent most (length f.runs)
  pub few : IsTrue f.complete → IsPlain r
      → length f.runs ≤ length f.passing + length f.conflicts * (2 * size_of r + 1)
  pub few_so_far : IsPlain r
      → length f.runs ≤ length f.passing + (length f.conflicts + 1) * (2 * size_of r + 1)
  pub law : (builds : List Bool → Bool) → IsMonotone r builds → Answers builds f.runs → IsTrue f.complete
      → (s : List Bool) → IsChoice r s → (builds s ≡ false) ↔ HasInside f.conflicts s
  pub greatest : (builds : List Bool → Bool) → IsMonotone r builds → Answers builds f.runs → IsTrue f.complete
      → All (IsGreatest r builds) f.passing
