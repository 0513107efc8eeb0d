-- The input of a plan, and the versions that packages use.
use Rattle.std.specs.Prelude.{ℕ, ◌≡◌, ◌≢◌, ◌<◌, ◌++◌, ◌⊎◌, List, [], length, map, Bool, Option, Some, None, true, false, nat_lt, ◌&&◌, if◌then◌else◌}
use Rattle.std.specs.List.{Any}
use Rattle.std.specs.Option.{option_map_or}
use Rattle.hack_versions.specs.declared.version.Version.{Version}
use Rattle.hack_versions.specs.declared.version.VersionRange.{VersionRange}
use Rattle.hack_versions.specs.declared.group.PackageVersion.{PackageVersion}
use Rattle.hack_versions.specs.declared.group.VersionGroup.{VersionGroup}
use Rattle.hack_versions.specs.declared.rustup.RangeFault.{RangeFault}
use Rattle.hack_versions.specs.declared.rustup.RangeFault.TheVariants.{SingleMsrv}
use Rattle.hack_versions.specs.RangeSteps.{AreStepsOf, IsRangeFault, range_notes}
use Rattle.hack_versions.specs.VersionUses.{own_of, UsesAt, AreVersionGroups, IsGroupFault, AreSkipNotes}
use Rattle.hack_base.specs.Notes.{Note}
use Rattle.hack_plan.specs.declared.versions.PlanInput.{PlanInput}
use Rattle.hack_plan.specs.declared.versions.Versions.{Versions}

-- the packages' own versions as their manifests give them
abbrev pub owns_of : PlanInput → List (Option Version)
owns_of s = map (λ member. member.rust_version) s.packages.items

-- the steps of a call; none without a range
abbrev pub IsStepList : Option VersionRange → PlanInput → Option Version → List Version → Type 0
IsStepList None s stable steps = steps ≡ []
IsStepList (Some range) s stable steps = AreStepsOf range s.step (owns_of s) stable steps

-- the package at index p uses the version, which is "none" without a range
abbrev pub UsesVersion : Option VersionRange → PlanInput → List Version → Option Version → ℕ → Type 0
UsesVersion None s steps None p = p < length s.packages.items
UsesVersion (Some range) s steps (Some v) p = UsesAt range steps s.packages.items v p
UsesVersion range s steps v p = ⊥

-- some package uses the version; without a range it is "none", also where there are no packages
abbrev pub IsVersion : Option VersionRange → PlanInput → List Version → Option Version → Type 0
IsVersion None s steps v = v ≡ None
IsVersion (Some range) s steps v = (p : ℕ) × UsesVersion (Some range) s steps v p

-- cargo's minor version for a version; its own where that is "none"
abbrev pub minor_of : ℕ → Option Version → ℕ
minor_of own version = option_map_or (λ v. v.minor) version own

-- each of so many targets is a separate slot: there are some, and cargo takes one at a time, as it does below 1.64
abbrev pub is_split : ℕ → ℕ → Option Version → Bool
is_split targets own version = nat_lt 0 targets && nat_lt (minor_of own version) 64

-- the slots of a version: one for each target, or one for all
abbrev pub slots_of : PlanInput → Option Version → ℕ
slots_of s version = if is_split s.targets s.cargo_minor version then s.targets else 1

-- the versions of a range: each that a package uses, with its packages
abbrev pub AreVersions : Option VersionRange → PlanInput → Option Version → List VersionGroup → Type 0
AreVersions None s stable groups = groups ≡ []
AreVersions (Some range) s stable groups = (steps : List Version)
    × AreStepsOf range s.step (owns_of s) stable steps
    × AreVersionGroups (UsesAt range steps s.packages.items) groups

-- the versions that the packages of the input use
abbrev pub AreVersionsOf : PlanInput → Versions → Type 0
AreVersionsOf s versions = AreVersions s.range s versions.stable versions.groups.items

-- each package has a number of runs, where these matter
abbrev pub AreCounted : PlanInput → List ℕ → Type 0
AreCounted s counts = s.as_cargo ≡ false → length counts ≡ length s.packages.items

-- the notices on a range: on its patch numbers, and on the packages that it skips
abbrev pub AreNotices : Option VersionRange → PlanInput → Option Version → List Note → Type 0
AreNotices None s stable notes = notes ≡ []
AreNotices (Some range) s stable notes = (steps : List Version) × (skips : List Note) × AreStepsOf range s.step (owns_of s) stable steps × AreSkipNotes range steps s.packages.items skips × (notes ≡ range_notes range ++ skips)

-- two packages have different own versions, or exactly one of them has none
abbrev pub HaveTwo : List PackageVersion → Type 0
HaveTwo packages = Any (λ one. Any (λ other. own_of one ≢ own_of other) packages) packages

-- why there are no versions: the range is refused, or a package under it; or there is to be one run
-- for packages with different own versions
abbrev pub IsVersionsFault : Option VersionRange → PlanInput → Option Version → RangeFault → Type 0
IsVersionsFault None s stable e = ⊥
IsVersionsFault (Some range) s stable e =
    IsRangeFault range (owns_of s) stable e
    ⊎ (IsGroupFault range s.packages.items e
    ⊎ ((s.as_cargo ≡ true) × HaveTwo s.packages.items × (e ≡ SingleMsrv)))
