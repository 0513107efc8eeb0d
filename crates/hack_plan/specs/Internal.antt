-- What only private functions of the crate promise each other.
use Rattle.std.specs.Prelude.{ℕ, Bool, true, false, List, [], ◌∷◌, ◌++◌, ◌-◌, codes, Option, ◌≡◌, ◌<◌, ◌↔◌, Some, slice_get, length, None, if◌then◌else◌}
use Rattle.std.specs.List.{join_with_byte}
use Rattle.hack_versions.specs.Lockfiles.{NeedsLockfile}
use Rattle.hack_versions.specs.declared.version.Version.{Version}
use Rattle.hack_plan.specs.declared.places.PlanEntry.{PlanEntry}
use Rattle.hack_plan.specs.declared.places.Span.{Span}
use Rattle.hack_plan.specs.declared.blocks.VersionUse.{VersionUse}
use Rattle.hack_plan.specs.Parts.{OfPackage}
use Rattle.hack_plan.specs.Spans.{Laid}
use Rattle.hack_process.specs.CommandTexts.{is_manifest_path}

-- a text is `--manifest-path`
abbrev pub is_option : Option (List ℕ) → Bool
is_option None = false
is_option (Some text) = is_manifest_path text

-- the last target is itself `--manifest-path`
abbrev pub takes_option : List (List ℕ) → Bool
takes_option targets = is_option (slice_get targets (length targets - 1))

-- the folder to which a path after these targets is shown relative
abbrev pub folder_behind : List (List ℕ) → List ℕ → List ℕ
folder_behind targets dir = if takes_option targets then [] else dir

-- what comes before a name, which is the first or not
abbrev pub before_name : Bool → List ℕ
before_name true = codes " --features "
before_name false = codes ","

-- names of a joined list, from its first one on or further ones
abbrev pub joined_names : Bool → List (List ℕ) → List ℕ
joined_names is_first [] = []
joined_names is_first (name ∷ names) = before_name is_first ++ join_with_byte 44 (name ∷ names)

-- the next name is still the first
abbrev pub is_still_first : Bool → List (List ℕ) → Bool
is_still_first is_first [] = is_first
is_still_first is_first (name ∷ names) = false

-- one version, slot and package, and a rank below the number of runs
abbrev pub InBlock : Option Version → ℕ → Option ℕ → ℕ → PlanEntry → Type 0
InBlock version slot place runs q = (q.version ≡ version) × (q.slot ≡ slot) × (q.package ≡ place) × (q.rank < runs)

-- one version and slot, and any of the packages
abbrev pub InSlot : Option Version → ℕ → List ℕ → List ℕ → PlanEntry → Type 0
InSlot version slot packages runs q = (q.version ≡ version) × (q.slot ≡ slot) × OfPackage packages runs q

-- one slot of a version, and any of the packages that use it
abbrev pub InSlotOf : VersionUse → ℕ → PlanEntry → Type 0
InSlotOf uses slot = InSlot uses.version slot uses.packages.now uses.counts.now

-- the version of a span
abbrev pub version_at : Span → Option Version
version_at s = s.version

-- the flags that are set are those of the versions before which the lockfile is regenerated
abbrev pub AreFlags : Bool → List Version → List Bool → Type 0
AreFlags locked versions flags = (place : ℕ)
    → (slice_get flags place ≡ Some true) ↔ ((locked ≡ false) × NeedsLockfile versions place)

-- the version's places are appended to the plan so far
abbrev pub AppendsPlaces : Option Version → Laid → Laid → Type 0
AppendsPlaces version old new = new.spans ≡ old.spans ++ record { version = version; first = length old.entries; end = length new.entries } ∷ []
