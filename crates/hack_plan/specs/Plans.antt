-- What holds for each plan.
use Rattle.std.specs.Prelude.{ℕ, ◌<◌, List, map, length, Option, Some, None, All, IsSomeAnd, slice_get}
use Rattle.hack_plan.specs.declared.places.PlanEntry.{PlanEntry}
use Rattle.hack_plan.specs.declared.parts.PlanPackage.{PlanPackage}
use Rattle.hack_plan.specs.View.{PackageView, plan_package_view}

-- a run of a package is one of that package's runs
abbrev pub IsRunOf : List PackageView → Option ℕ → ℕ → Type 0
IsRunOf packages None rank = Unit {0}
IsRunOf packages (Some p) rank = IsSomeAnd (slice_get packages p) (λ k. rank < length k.runs)

-- each place's run is one of its package's
abbrev pub AreRunsOfPackages : List PackageView → List PlanEntry → Type 0
AreRunsOfPackages packages entries = All (λ q. IsRunOf packages q.package q.rank) entries

-- the number of runs of a package
abbrev pub count_in : PlanPackage → ℕ
count_in k = length (plan_package_view k).runs

-- the number of runs of each package
abbrev pub counts_in : List PlanPackage → List ℕ
counts_in packages = map count_in packages
