-- The powersets of a plan's packages.
use Rattle.std.specs.Prelude.{ℕ, ◌≡◌, ◌≢◌, ◌↔◌, List, Option, Some, None, length, Contains}
use Rattle.std.specs.List.{AllZip, filter_map}
use Rattle.hack_features.specs.Rules.{Choice, IsListed}
use Rattle.hack_sets.specs.Sets.{IsSelection, Pairwise}
use Rattle.hack_load.specs.Contexts.{ContextRecord, package_at, features_at}
use Rattle.hack_load.specs.declared.features.Features.{Features}
use Rattle.hack_metadata.specs.Records.{PackageRecord}
use Rattle.hack_planner.specs.Calls.{IsInputOf, IsUsed, rules_at}
use Rattle.hack_planner.specs.ContextMembers.{AreChosen}
use Rattle.hack_plan.specs.Runs.{PackageRun, Set}
use Rattle.hack_plan.specs.View.{PlanView}
use Rattle.hack_plan.specs.declared.versions.PlanInput.{PlanInput}
use Rattle.hack_versions.specs.declared.version.Version.{Version}
use Rattle.hack_planner.specs.Kinds.{package_choice}

-- the set of a run, if the run has one
abbrev pub set_of : PackageRun → Option (List ℕ)
set_of (Set s) = Some s
set_of run = None

-- the sets of runs, in order
abbrev pub run_sets_of : List PackageRun → List (List ℕ)
run_sets_of runs = filter_map set_of runs

-- the sets of the runs are exactly the listed ones, each once
pub record IsPowerset (choice : Choice) (runs : List PackageRun) : Type 0 where
  pub exact : (s : List ℕ) → Contains (run_sets_of runs) s ↔ (IsSelection (length choice.candidates) s × IsListed choice s)
  pub once : Pairwise (λ s t. s ≢ t) (run_sets_of runs)

-- the plan has exactly the chosen packages, and P holds of each one's strength, of what its sets are
-- chosen from and of its runs, where it uses a version
pub record HoldsOfEach (cx : ContextRecord) (latest : Option Version) (plan : PlanView)
    (P : Option ℕ → Choice → List PackageRun → Type 0) : Type 0 where
  pub ids : List ℕ
  pub input : PlanInput
  pub chosen : AreChosen cx ids
  pub of_call : IsInputOf cx ids input
  pub each : AllZip (λ id k. IsUsed cx input latest id → (p : PackageRecord) (f : Features)
      → package_at cx id ≡ Some p → features_at cx id ≡ Some f
      → P (rules_at cx p f).strength (package_choice (rules_at cx p f) p f) k.runs) ids plan.packages

-- without a strength the runs have the powerset
abbrev pub HasPowerset : Option ℕ → Choice → List PackageRun → Type 0
HasPowerset None choice runs = IsPowerset choice runs
HasPowerset (Some strength) choice runs = Unit {0}

-- the plan has exactly the chosen packages, and the runs of each that uses a version and has no
-- strength have its powerset
abbrev pub HavePowersets : ContextRecord → Option Version → PlanView → Type 0
HavePowersets cx latest plan = HoldsOfEach cx latest plan HasPowerset
