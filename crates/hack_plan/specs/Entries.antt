-- The plan as a set of entries with an order.
use Rattle.std.specs.Prelude.{ℕ, ◌≡◌, ◌+◌, ◌<◌, ◌≤◌, ◌^◌, ◌⊎◌, ◌++◌, List, length, slice_index, AllPairs, All, Contains, IsSomeAnd, Option, Some, None, Bool, true, false}
use Rattle.hack_versions.specs.declared.version.Version.{Version}
use Rattle.hack_versions.specs.VersionOrder.{IsEarlierVersion}
use Rattle.hack_plan.specs.declared.versions.PlanInput.{PlanInput}
use Rattle.hack_plan.specs.declared.places.PlanEntry.{PlanEntry}
use Rattle.hack_plan.specs.Inputs.{IsStepList, UsesVersion, IsVersion, slots_of}

-- the package uses the version, and the rank is below the number of its runs; where Cargo handles
-- workspaces, one run for all packages
abbrev pub HasRun : Bool → PlanInput → List ℕ → List Version → PlanEntry → Type 0
HasRun false s counts steps q = (p : ℕ) × (q.package ≡ Some p) × UsesVersion s.range s steps q.version p × (q.rank < slice_index counts p)
HasRun true s counts steps q = (q.package ≡ None) × (q.rank ≡ 0) × IsVersion s.range s steps q.version

-- such a run exists, and the slot is one of the version's
pub record IsAdmissible (s : PlanInput) (counts : List ℕ) (steps : List Version) (q : PlanEntry) : Type 0 where
  pub run : HasRun s.as_cargo s counts steps q
  pub slot : q.slot < slots_of s q.version

-- of two versions, the first is the lower
abbrev pub IsOlder : Option Version → Option Version → Type 0
IsOlder a b = IsSomeAnd a (λ v. IsSomeAnd b (IsEarlierVersion v))

-- ordered by version, slot, package, rank
abbrev pub Before : PlanEntry → PlanEntry → Type 0
Before a b = IsOlder a.version b.version ⊎ ((a.version ≡ b.version)
    × ((a.slot < b.slot) ⊎ ((a.slot ≡ b.slot)
    × (IsSomeAnd a.package (λ p. IsSomeAnd b.package (λ q. p < q))
    ⊎ ((a.package ≡ b.package) × (a.rank < b.rank))))))

-- strictly increasing, and exactly the entries that pass
pub record Lists (Passes : PlanEntry → Type 0) (entries : List PlanEntry) : Type 0 where
  pub increasing : AllPairs Before entries
  pub sound : All Passes entries
  pub complete : (q : PlanEntry) → Passes q → Contains entries q

-- the plan: for the steps of the range, exactly the admissible entries, in order
abbrev pub ArePlaces : PlanInput → List ℕ → Option Version → List PlanEntry → Type 0
ArePlaces s counts stable entries = (steps : List Version) × IsStepList s.range s stable steps × Lists (IsAdmissible s counts steps) entries

-- an increasing list of more than 4294967295 entries that pass
pub record AreTooMany (Passes : PlanEntry → Type 0) : Type 0 where
  pub entries : List PlanEntry
  pub increasing : AllPairs Before entries
  pub sound : All Passes entries
  pub many : 2 ^ 32 ≤ length entries

-- there are more than 4294967295 admissible entries
abbrev pub HasTooMany : PlanInput → List ℕ → Option Version → Type 0
HasTooMany s counts stable = (steps : List Version) × IsStepList s.range s stable steps × AreTooMany (IsAdmissible s counts steps)

-- new is old followed by exactly the entries that pass, in order
pub record AddsEntries (Passes : PlanEntry → Type 0) (old new : List PlanEntry) : Type 0 where
  pub added : List PlanEntry
  pub grown : new ≡ old ++ added
  pub lists : Lists Passes added

-- old, followed by entries that pass, in order, is too long
pub record Overfills (Passes : PlanEntry → Type 0) (old : List PlanEntry) : Type 0 where
  pub added : List PlanEntry
  pub increasing : AllPairs Before added
  pub sound : All Passes added
  pub many : 2 ^ 32 ≤ length old + length added

-- there are as many places as a plan may have
abbrev pub IsFull : List PlanEntry → Type 0
IsFull entries = length entries ≡ 4294967295
