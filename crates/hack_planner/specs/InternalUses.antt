-- What private functions promise of chosen packages and of their uses of versions.
use Rattle.std.specs.Prelude.{ℕ, ◌↔◌, List, Contains, IsTrue, Option, Some, None}
use Rattle.hack_load.specs.Contexts.{ContextRecord}
use Rattle.hack_plan.specs.View.{PackageView}
use Rattle.hack_plan.specs.declared.versions.PlanInput.{PlanInput}
use Rattle.hack_versions.specs.declared.group.VersionGroup.{VersionGroup}
use Rattle.hack_versions.specs.declared.version.Version.{Version}
use Rattle.hack_versions.specs.declared.version.VersionRange.{VersionRange}
use Rattle.hack_planner.specs.declared.uses.Chosen.{Chosen}
use Rattle.hack_planner.specs.Calls.{IsChosenPackage, HasCoverage, IsUsed}

-- one of the groups has the package
abbrev pub InSome : List VersionGroup → ℕ → Type 0
InSome groups p = (group : VersionGroup) × Contains groups group × Contains group.packages.items p

-- one of the groups has the package, where there is a range
abbrev pub InGroups : Option VersionRange → List VersionGroup → ℕ → Type 0
InGroups None groups p = Unit {0}
InGroups (Some range) groups p = InSome groups p

-- the place of a chosen package
abbrev pub id_of : Chosen → ℕ
id_of one = one.id.index

-- it says rightly whether the package is used
abbrev pub IsRight : ContextRecord → PlanInput → Option Version → Chosen → Type 0
IsRight cx s latest one = IsTrue one.is_used ↔ IsUsed cx s latest (id_of one)

-- a chosen package in the plan, which is used where this says so
abbrev pub IsPlannedAs : ContextRecord → Chosen → PackageView → Type 0
IsPlannedAs cx one k = IsChosenPackage cx (IsTrue one.is_used) (id_of one) k

abbrev pub IsCoveredAs : ContextRecord → Chosen → PackageView → Type 0
IsCoveredAs cx one k = HasCoverage cx (IsTrue one.is_used) (id_of one) k
