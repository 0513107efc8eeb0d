-- The parts that a plan is made of.
use Rattle.std.specs.Prelude.{Option, None, Some, Bool, true, false, ℕ, ◌≡◌, ◌<◌, List, Contains, slice_index}
use Rattle.hack_versions.specs.declared.version.Version.{Version}
use Rattle.hack_plan.specs.declared.places.PlanEntry.{PlanEntry}
use Rattle.hack_plan.specs.declared.blocks.VersionUse.{VersionUse}

-- one of the packages, and a rank below the number of its runs
abbrev pub OfPackage : List ℕ → List ℕ → PlanEntry → Type 0
OfPackage packages runs q = (p : ℕ) × (q.package ≡ Some p) × Contains packages p × (q.rank < slice_index runs p)

-- the one run for all packages, or a run of any of them
abbrev pub InWhole : Bool → List ℕ → List ℕ → PlanEntry → Type 0
InWhole false packages runs q = OfPackage packages runs q
InWhole true packages runs q = (q.package ≡ None) × (q.rank ≡ 0)

-- one version, and a slot below the number of slots
abbrev pub InVersion : Bool → Option Version → ℕ → List ℕ → List ℕ → PlanEntry → Type 0
InVersion whole version slots packages runs q = (q.version ≡ version) × (q.slot < slots) × InWhole whole packages runs q

-- any of so many slots of a version, and any of the packages that use it, or all as one
abbrev pub InSlotsOf : Bool → VersionUse → ℕ → PlanEntry → Type 0
InSlotsOf whole uses slots = InVersion whole uses.version slots uses.packages.now uses.counts.now
