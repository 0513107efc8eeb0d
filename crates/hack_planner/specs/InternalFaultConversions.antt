-- Errors of a plan's parts, converted to errors of the plan.
use Rattle.hack_planner.specs.declared.fault.PackagesFault.{PackagesFault}
use Rattle.hack_planner.specs.declared.fault.PackagesFault.TheVariants as packages
use Rattle.hack_plan.specs.declared.places.PlacesFault.{PlacesFault}
use Rattle.hack_plan.specs.declared.places.PlacesFault.TheVariants as places
use Rattle.hack_versions.specs.declared.rustup.RangeFault.{RangeFault}
use Rattle.hack_versions.specs.declared.rustup.RangeFault.TheVariants as range
use Rattle.hack_versions.specs.declared.version.VersionFault.{VersionFault}
use Rattle.hack_versions.specs.declared.version.VersionFault.TheVariants as version
use Rattle.hack_planner.specs.declared.fault.PlanFault.{PlanFault}
use Rattle.hack_planner.specs.declared.fault.PlanFault.TheVariants as fault

-- the error that the packages aren't known
abbrev pub of_packages : PackagesFault → PlanFault
of_packages packages.Memory = fault.Memory
of_packages (packages.Unmatched spec) = fault.Packages (packages.Unmatched spec)

-- the error that an own version can't be read
abbrev pub of_version : VersionFault → PlanFault
of_version version.MissingMinor = fault.Version version.MissingMinor
of_version (version.BadNumber part) = fault.Version (version.BadNumber part)
of_version (version.OpenInclusive start) = fault.Version (version.OpenInclusive start)
of_version version.Memory = fault.Memory

-- the error that the range is refused
abbrev pub of_range : RangeFault → PlanFault
of_range range.Major = fault.Range range.Major
of_range range.NoRustVersion = fault.Range range.NoRustVersion
of_range (range.Empty r) = fault.Range (range.Empty r)
of_range (range.NoField name) = fault.Range (range.NoField name)
of_range range.SingleMsrv = fault.Range range.SingleMsrv
of_range range.Memory = fault.Memory

-- the error that there are too many runs
abbrev pub of_places : PlacesFault → PlanFault
of_places places.TooManyRuns = fault.TooManyRuns
of_places places.Memory = fault.Memory
