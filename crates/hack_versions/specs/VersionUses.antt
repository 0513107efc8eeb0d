-- Which package uses which version.
use Rattle.std.specs.Prelude.{◌≡◌, ◌≢◌, ℕ, ◌<◌, List, [], ◌∷◌, ◌++◌, Option, Some, None, All, AllPairs, Contains, IfSome, IsSomeAnd, ◌⊎◌, ◌↔◌, slice_get, take, option_map, codes, string_bytes}
use Rattle.std.specs.Option.{option_map_or}
use Rattle.hack_versions.specs.declared.version.Version.{Version}
use Rattle.hack_versions.specs.declared.version.MaybeVersion.{MaybeVersion}
use Rattle.hack_versions.specs.declared.version.MaybeVersion.TheVariants.{Msrv}
use Rattle.hack_versions.specs.declared.version.VersionRange.{VersionRange}
use Rattle.hack_versions.specs.declared.group.PackageVersion.{PackageVersion}
use Rattle.hack_versions.specs.declared.group.VersionGroup.{VersionGroup}
use Rattle.hack_versions.specs.declared.rustup.RangeFault.{RangeFault}
use Rattle.hack_versions.specs.declared.rustup.RangeFault.TheVariants.{NoField, Major}
use Rattle.hack_base.specs.declared.notice.NoticeKind.TheVariants.{Warn}
use Rattle.hack_base.specs.Notes.{Note}
use Rattle.hack_versions.specs.VersionOrder.{IsEarlierVersion, IsAtMost, strip_patch}
use Rattle.hack_versions.specs.VersionTexts.{version_text, range_text}

-- a package's own version: its `rust-version` without the patch number
abbrev pub own_of : PackageVersion → Option Version
own_of member = option_map strip_patch member.rust_version

-- v is a step, and not below the own version, if there is one
abbrev pub IsStepFor : List Version → Option Version → Version → Type 0
IsStepFor steps own v = Contains steps v × IfSome own (λ o. IsAtMost o v)

-- some step is not below v
abbrev pub HasStepFrom : List Version → Version → Type 0
HasStepFrom steps v = (s : Version) × Contains steps s × IsAtMost v s

-- a package with this own version uses v, in a range from start to end
abbrev pub UsesBy : MaybeVersion → MaybeVersion → List Version → Option Version → Version → Type 0
UsesBy Msrv Msrv steps own v = own ≡ Some v
UsesBy Msrv end steps own v = IsStepFor steps own v ⊎ ((own ≡ Some v) × HasStepFrom steps v)
UsesBy start end steps own v = IsStepFor steps own v

-- the package at an index uses v
abbrev pub UsesAt : VersionRange → List Version → List PackageVersion → Version → ℕ → Type 0
UsesAt range steps packages v p = (member : PackageVersion) × (slice_get packages p ≡ Some member) × UsesBy range.start_inclusive range.end_inclusive steps (own_of member) v

-- a version with exactly the indexes of the packages that use it, in order, at least one
pub record IsVersionGroup (Use : Version → ℕ → Type 0) (group : VersionGroup) : Type 0 where
  pub used : group.packages.items ≢ []
  pub rising : AllPairs (λ p q. p < q) group.packages.items
  pub exact : (p : ℕ) → Contains group.packages.items p ↔ Use group.version p

-- all versions that some package uses, in order
pub record AreVersionGroups (Use : Version → ℕ → Type 0) (groups : List VersionGroup) : Type 0 where
  pub rising : AllPairs (λ a b. IsEarlierVersion a.version b.version) groups
  pub each : All (IsVersionGroup Use) groups
  pub complete : (v : Version) (p : ℕ) → Use v p → (group : VersionGroup) × Contains groups group × (group.version ≡ v)

-- the range is that of `--rust-version`
abbrev pub IsOwnOnly : VersionRange → Type 0
IsOwnOnly range = (range.start_inclusive ≡ Msrv) × (range.end_inclusive ≡ Msrv)

-- a package with an own version of major 1
abbrev pub HasOwn : PackageVersion → Type 0
HasOwn member = IsSomeAnd member.rust_version (λ v. v.major ≡ 1)

-- why a package without such a version is refused
abbrev pub IsOwnVersionFault : PackageVersion → RangeFault → Type 0
IsOwnVersionFault member (NoField named) = (member.rust_version ≡ None) × (string_bytes named ≡ string_bytes member.name)
IsOwnVersionFault member Major = IsSomeAnd member.rust_version (λ v. v.major ≢ 1)
IsOwnVersionFault member e = ⊥

-- why a grouping is refused: under `--rust-version`, the first package without an own version of
-- major 1
abbrev pub IsGroupFault : VersionRange → List PackageVersion → RangeFault → Type 0
IsGroupFault range packages e = IsOwnOnly range × (p : ℕ) × (member : PackageVersion) × All HasOwn (take p packages) × (slice_get packages p ≡ Some member) × IsOwnVersionFault member e

-- a package whose own version is above all steps, except in the range of `--rust-version`
abbrev pub IsSkipped : VersionRange → List Version → PackageVersion → Type 0
IsSkipped range steps member = ¬ IsOwnOnly range × IsSomeAnd (own_of member) (λ o. ¬ HasStepFrom steps o)

-- the text of an own version
abbrev pub own_text : Option Version → List ℕ
own_text own = option_map_or version_text own []

-- the notice on a package that is skipped
abbrev pub skip_note : VersionRange → PackageVersion → Note
skip_note range member = record { kind = Warn; text = codes "skipping " ++ string_bytes member.name ++ codes ", rust-version (" ++ own_text (own_of member) ++ codes ") is not in specified range (" ++ range_text range ++ codes ")" }

-- the notices on packages: one for each that is skipped, in order
abbrev pub AreSkipNotes : VersionRange → List Version → List PackageVersion → List Note → Type 0
AreSkipNotes range steps [] notes = notes ≡ []
AreSkipNotes range steps (member ∷ packages) notes = (IsSkipped range steps member × (rest : List Note) × (notes ≡ skip_note range member ∷ rest) × AreSkipNotes range steps packages rest) ⊎ ((¬ IsSkipped range steps member) × AreSkipNotes range steps packages notes)
