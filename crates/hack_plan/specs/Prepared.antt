-- What is done before the runs of each version.
use Rattle.std.specs.Prelude.{ℕ, ◌≡◌, ◌++◌, ◌↔◌, List, [], ◌∷◌, Bool, false, if◌then◌else◌, Option, Some, None, IsTrue, filter_map, slice_get}
use Rattle.hack_versions.specs.declared.version.Version.{Version}
use Rattle.hack_versions.specs.Lockfiles.{NeedsLockfile}
use Rattle.hack_plan.specs.declared.places.Span.{Span}
use Rattle.hack_plan.specs.declared.parts.PlanVersion.{PlanVersion}
use Rattle.hack_plan.specs.declared.parts.Preparation.{Preparation}
use Rattle.hack_plan.specs.declared.parts.Preparation.TheVariants.{Toolchain, Lockfile, Clean}

-- a version and its places
abbrev pub span_of : PlanVersion → Span
span_of v = record { version = v.version; first = v.first; end = v.end }

-- the toolchain, then the lockfile where it is regenerated, then the cleaning where it is asked
-- for; nothing without a version
abbrev pub preparations_of : Option Version → ℕ → Bool → Bool → List Preparation
preparations_of None place remakes cleans = []
preparations_of (Some v) place remakes cleans =
    Toolchain place ∷ (if remakes then Lockfile place ∷ [] else []) ++ (if cleans then Clean place ∷ [] else [])

-- the version at an index has its preparations; its lockfile is regenerated where it needs that and isn't locked
pub record HasPreparations (locked cleans : Bool) (versions : List Version) (place : ℕ) (v : PlanVersion) : Type 0 where
  pub remakes : Bool
  pub exact : IsTrue remakes ↔ ((locked ≡ false) × NeedsLockfile versions place)
  pub made : v.preparations.items ≡ preparations_of v.version place remakes cleans

-- each version has its preparations
abbrev pub ArePrepared : Bool → Bool → List PlanVersion → Type 0
ArePrepared locked cleans versions = (place : ℕ) (v : PlanVersion) → slice_get versions place ≡ Some v
    → HasPreparations locked cleans (filter_map (λ k. k.version) versions) place v
