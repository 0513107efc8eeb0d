-- What only private functions of the crate promise each other.
use Rattle.std.specs.Prelude.{◌≡◌, ℕ, ◌<◌, ◌⊎◌, Option, Some, None}
use Rattle.hack_versions.specs.declared.version.Version.{Version}
use Rattle.hack_versions.specs.VersionOrder.{IsEarlierVersion, one, IsAtMost}

-- the lockfile is generated before v at an index, where `AreOld` says that all versions before it
-- are below 1.51
abbrev pub NeedsLockfileAt : ℕ → Version → Type 0 → Type 0
NeedsLockfileAt p v AreOld = ((p ≡ 0) × IsEarlierVersion v (one 60)) ⊎ ((0 < p) × AreOld × ¬ IsEarlierVersion v (one 51))

-- the lower of two versions, either of which may be absent
abbrev pub IsLowerVersion : Option Version → Option Version → Option Version → Type 0
IsLowerVersion (Some a) (Some b) lower = ((lower ≡ Some a) × IsAtMost a b) ⊎ ((lower ≡ Some b) × IsAtMost b a)
IsLowerVersion None b lower = lower ≡ b
IsLowerVersion (Some a) None lower = lower ≡ Some a
