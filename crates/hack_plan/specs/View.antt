-- A plan as plain data.
use Rattle.std.specs.Prelude.{ℕ, Bool, List, Option, string_bytes, map}
use Rattle.hack_base.specs.Names.{optional_text}
use Rattle.hack_features.specs.Feature.{groups_of}
use Rattle.hack_samples.specs.Sets.{rows_of}
use Rattle.hack_plan.specs.Runs.{PackageRun}
use Rattle.hack_plan.specs.RunsView.{runs_in}
use Rattle.hack_plan.specs.declared.places.PlanEntry.{PlanEntry}
use Rattle.hack_plan.specs.declared.parts.CommandParts.{CommandParts}
use Rattle.hack_plan.specs.declared.parts.PlanPackage.{PlanPackage}
use Rattle.hack_plan.specs.declared.parts.PlanVersion.{PlanVersion}

-- what all commands of a call have in common
pub record CallView : Type 0 where
  pub cargo : List ℕ
  pub rustup : List ℕ
  pub passed : List (List ℕ)
  pub trailing : List (List ℕ)
  pub features : List (List ℕ)
  pub targets : List (List ℕ)
  pub cargo_minor : ℕ
  pub locked : Bool
  pub clean_per_run : Bool
  pub clean_per_version : Bool
  pub grows : Bool
  pub current_manifest : Option (List ℕ)
  pub dir : List ℕ

-- a chosen package: its candidates, each with the names of its features, its runs by rank, and with a strength which
-- candidates are on in each run
pub record PackageView : Type 0 where
  pub name : List ℕ
  pub manifest_path : Option (List ℕ)
  pub features : List (List ℕ)
  pub candidates : List (List (List ℕ))
  pub runs : List PackageRun
  pub settings : List (List Bool)

-- a plan: its places as entries in order, its versions, and what its commands are made from
pub record PlanView : Type 0 where
  pub call : CallView
  pub packages : List PackageView
  pub versions : List PlanVersion
  pub entries : List PlanEntry

-- texts as their bytes
abbrev pub call_view : CommandParts → CallView
call_view w = record { cargo = string_bytes w.cargo; rustup = string_bytes w.rustup; passed = map string_bytes w.passed.items; trailing = map string_bytes w.trailing.items; features = map string_bytes w.features.items; targets = map string_bytes w.targets.items; cargo_minor = w.cargo_minor; locked = w.locked; clean_per_run = w.clean_per_run; clean_per_version = w.clean_per_version; grows = w.grows; current_manifest = optional_text w.current_manifest; dir = string_bytes w.dir }

-- a package with its texts as bytes, and its runs
abbrev pub plan_package_view : PlanPackage → PackageView
plan_package_view p = record { name = string_bytes p.name; manifest_path = optional_text p.manifest_path; features = map string_bytes p.features.items; candidates = groups_of p.candidates.items; runs = runs_in p.runs; settings = rows_of p.settings.items }
