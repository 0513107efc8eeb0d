use Rattle.std.proofs.Common.{◌≢◌, take}
use Rattle.std.specs.List.{Contains}
use Rattle.hack_versions.specs.declared.group.PackageVersion.{PackageVersion}
use Rattle.hack_versions.specs.VersionUses.{own_of}
use Rattle.hack_plan.proofs.versions.differs.Given as goal

abbrev pub invariant-loop-member : goal.invariant-loop-member
invariant-loop-member l = (member : PackageVersion) → Contains (take l.member-index l.packages) member → own_of member ≢ own_of l.head → ⊥
