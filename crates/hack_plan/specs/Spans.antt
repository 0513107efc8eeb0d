-- The places of each version.
use Rattle.std.specs.Prelude.{ℕ, ◌≡◌, ◌≤◌, List, [], ◌∷◌, map, length, take, drop, All, Option, Some, None}
use Rattle.hack_versions.specs.declared.version.Version.{Version}
use Rattle.hack_versions.specs.declared.version.VersionRange.{VersionRange}
use Rattle.hack_versions.specs.declared.group.VersionGroup.{VersionGroup}
use Rattle.hack_plan.specs.declared.places.PlanEntry.{PlanEntry}
use Rattle.hack_plan.specs.declared.places.Span.{Span}
use Rattle.hack_plan.specs.Entries.{IsOlder}

-- a plan, and the places of each of its versions
pub record Laid : Type 0 where
  pub entries : List PlanEntry
  pub spans : List Span

-- a version's places go from first to end; before them are those of older versions, behind them those of later ones
pub record IsSpan (entries : List PlanEntry) (s : Span) : Type 0 where
  pub within : (s.first ≤ s.end) × (s.end ≤ length entries)
  pub before : All (λ q. IsOlder q.version s.version) (take s.first entries)
  pub same : All (λ q. q.version ≡ s.version) (drop s.first (take s.end entries))
  pub behind : All (λ q. IsOlder s.version q.version) (drop s.end entries)

-- the versions of groups; without a range just "none"
abbrev pub versions_of : Option VersionRange → List VersionGroup → List (Option Version)
versions_of None groups = None ∷ []
versions_of (Some range) groups = map (λ group. Some group.version) groups

-- each version's places begin where those before end, from the first place to the last
abbrev pub AreTiled : ℕ → List Span → ℕ → Type 0
AreTiled from [] to = from ≡ to
AreTiled from (s ∷ ss) to = (s.first ≡ from) × (from ≤ s.end) × AreTiled s.end ss to

-- each version, in order, with its places
pub record AreSpans (versions : List (Option Version)) (entries : List PlanEntry) (spans : List Span)
    : Type 0 where
  pub names : map (λ s. s.version) spans ≡ versions
  pub each : All (IsSpan entries) spans
