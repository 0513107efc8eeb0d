-- Errors that are converted.
use Rattle.std.proofs.Common.{◌≡◌, refl, ◌⊎◌, inl, inr, List, ℕ}
use Rattle.hack_load.specs.Contexts.{ContextRecord}
use Rattle.hack_versions.specs.declared.version.VersionFault.{VersionFault}
use Rattle.hack_versions.specs.declared.version.VersionFault.TheVariants as version
use Rattle.hack_planner.specs.Calls.{HasBadOwn}
use Rattle.hack_planner.specs.Internal.{IsOwnFault}
use Rattle.hack_planner.specs.InternalFaultConversions.{of_version}
use Rattle.hack_planner.specs.declared.fault.PlanFault.TheVariants as fault

pub version-turned : (cx : ContextRecord) (ids : List ℕ) (e : VersionFault) → (e ≡ version.Memory) ⊎ HasBadOwn cx ids e → (of_version e ≡ fault.Memory) ⊎ IsOwnFault cx ids (of_version e)
version-turned cx ids version.Memory h = inl refl
version-turned cx ids version.MissingMinor (inl e) = absurd (cc)
version-turned cx ids version.MissingMinor (inr bad) = inr bad
version-turned cx ids (version.BadNumber part) (inl e) = absurd (cc)
version-turned cx ids (version.BadNumber part) (inr bad) = inr bad
version-turned cx ids (version.OpenInclusive start) (inl e) = absurd (cc)
version-turned cx ids (version.OpenInclusive start) (inr bad) = inr bad
