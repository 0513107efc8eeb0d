-- How many runs the chosen packages have at least.
use Rattle.std.specs.Prelude.{◌≡◌, ◌≤◌, ◌+◌, ◌++◌, ℕ, List, [], ◌∷◌, length, Option, IsSomeAnd, cond}
use Rattle.std.specs.List.{AllZip}
use Rattle.hack_features.specs.Rules.{Choice}
use Rattle.hack_load.specs.Contexts.{ContextRecord}
use Rattle.hack_load.specs.declared.features.Features.{Features}
use Rattle.hack_metadata.specs.Records.{PackageRecord}
use Rattle.hack_plan.specs.Entries.{HasTooMany}
use Rattle.hack_plan.specs.Runs.{PackageRun}
use Rattle.hack_plan.specs.View.{PackageView}
use Rattle.hack_plan.specs.declared.versions.PlanInput.{PlanInput}
use Rattle.hack_versions.specs.declared.version.Version.{Version}
use Rattle.hack_planner.specs.PackageRules.{PackageRulesRecord}
use Rattle.hack_least.specs.Least.{ListsAtLeast}
use Rattle.hack_planner.specs.InternalUses.{IsPlannedAs}
use Rattle.hack_planner.specs.Kinds.{AreRuns}
use Rattle.hack_planner.specs.declared.least_places.Limit.{Limit}
use Rattle.hack_planner.specs.declared.uses.Chosen.{Chosen}

-- the listed sets of a choice of n candidates give at least so many runs
pub record GivesAtLeast (r : PackageRulesRecord) (c : Choice) (n least : ℕ) : Type 0 where
  pub sets : ℕ
  pub lists : ListsAtLeast c n sets
  pub most : least ≤ sets + cond r.exclude_no_default_features 0 1
  pub none : sets ≡ 0 → least ≡ 0

-- the runs of the package are at least so many
pub record HasRunsAtLeast (r : PackageRulesRecord) (p : PackageRecord) (f : Features) (least : ℕ) : Type 0 where
  pub runs : List PackageRun
  pub are_runs : AreRuns r p f runs
  pub enough : least ≤ length runs

-- the chosen package has at least so many runs in a plan
pub record HasAtLeast (cx : ContextRecord) (one : Chosen) (least : ℕ) : Type 0 where
  pub planned_as : PackageView
  pub has : IsPlannedAs cx one planned_as
  pub enough : least ≤ length planned_as.runs

-- there is a limit, and with so many runs of the next package there are too many
abbrev pub IsOver : Option Limit → ℕ → Type 0
IsOver limit least =
    IsSomeAnd limit (λ l. HasTooMany l.input.now (l.counts.now ++ least ∷ []) l.versions.now.stable)

-- there are too many runs even if the chosen packages have only as many as they have at least
pub record AreOver (cx : ContextRecord) (chosen : List Chosen) (s : PlanInput) (stable : Option Version)
    : Type 0 where
  pub counts : List ℕ
  pub each : AllZip (HasAtLeast cx) chosen counts
  pub many : HasTooMany s counts stable
