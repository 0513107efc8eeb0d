-- The plan with which a search for conflicts begins.
use Rattle.std.specs.Prelude.{ℕ, ◌≡◌, ◌<◌, ◌++◌, List, [], ◌∷◌, Bool, true, Option, None, Some, length, map}
use Rattle.std.proofs.Common.{Global, String}
use Rattle.std.specs.List.{AllZip, flat_map}
use Rattle.hack_base.specs.Names.{Name}
use Rattle.hack_base.specs.Notes.{Note}
use Rattle.hack_load.specs.Contexts.{ContextRecord, package_at, features_at}
use Rattle.hack_load.specs.GivenFeatures.{left_out_for, passed_for}
use Rattle.hack_load.specs.declared.features.Features.{Features}
use Rattle.hack_metadata.specs.Records.{PackageRecord}
use Rattle.hack_hunt.specs.Hunts.{Spot, spots_of}
use Rattle.hack_plan.specs.Commands.{slots_in}
use Rattle.hack_plan.specs.Prepared.{span_of}
use Rattle.hack_plan.specs.View.{CallView, PackageView, PlanView}
use Rattle.hack_planner.specs.Calls.{AreFirstNotes, call_of, candidate_notes_at, given_path, rules_at, table_fault}
use Rattle.hack_planner.specs.Candidates.{candidates}
use Rattle.hack_planner.specs.ContextMembers.{AreChosen, IsChoiceFault}
use Rattle.hack_planner.specs.declared.fault.PackagesFault.{PackagesFault}

-- a chosen package with its texts and its candidates, and without a run
pub record IsSearchedPackage (cx : ContextRecord) (id : ℕ) (k : PackageView) : Type 0 where
  pub pkg : PackageRecord
  pub features : Features
  pub known : package_at cx id ≡ Some pkg
  pub loaded : features_at cx id ≡ Some features
  pub name : k.name ≡ pkg.name
  pub path : k.manifest_path ≡ given_path cx.args.no_manifest_path cx.current_dir (Some pkg)
  pub given : k.features ≡ passed_for cx (Some id)
  pub candidates : k.candidates ≡ candidates (rules_at cx pkg features) features
  pub runs : k.runs ≡ []
  pub settings : k.settings ≡ []

-- a plan without a place, with a single version, which is none
pub record HasNoPlaces (parts : CallView) (plan : PlanView) : Type 0 where
  pub call : plan.call ≡ parts
  pub entries : plan.entries ≡ []
  pub spans : map span_of plan.versions ≡ record { version = None; first = 0; end = 0 } ∷ []

-- what all commands of a search have in common: its plan grows
abbrev pub search_call : ContextRecord → Name → CallView
search_call cx rustup = record (call_of cx rustup) { grows = true }

-- the notices on features of the call that the runs of packages don't get, in each slot
abbrev pub left_out_notes : ContextRecord → List Spot → List Note
left_out_notes cx spots = flat_map (λ (spot : Spot). left_out_for cx (Some spot.id)) spots

-- The plan of a search before its first run: the chosen packages without runs, no place, a single
-- version, which is none, and its notices. Neither the choice of packages nor a table is refused.
pub record IsSearchPlan (cx : ContextRecord) (call : CallView) (plan : PlanView) (ids : List ℕ) (notes : List Note) : Type 0 where
  pub chosen : AreChosen cx ids
  pub single : Bool
  pub on_packages : List Note
  pub noted : AreFirstNotes cx single on_packages
  pub packages : AllZip (IsSearchedPackage cx) ids plan.packages
  pub placeless : HasNoPlaces call plan
  pub told : notes ≡ (on_packages ++ flat_map (candidate_notes_at cx single) ids) ++ left_out_notes cx (spots_of ids (slots_in call None))
  pub tables : table_fault cx ids ≡ None
  pub known : (e : PackagesFault) → ¬ IsChoiceFault cx e

-- the plan with which a search begins; without a subcommand it has no package
abbrev pub IsSearchPlanOf : Option (String Global) → ContextRecord → Name → PlanView → List ℕ → List Note → Type 0
IsSearchPlanOf None cx rustup plan ids notes =
    (ids ≡ []) × (notes ≡ []) × (plan.packages ≡ []) × HasNoPlaces (search_call cx rustup) plan
IsSearchPlanOf (Some subcommand) cx rustup plan ids notes = IsSearchPlan cx (search_call cx rustup) plan ids notes

-- runs of so many packages can be added to the plan
pub record CanGrow (n : ℕ) (plan : PlanView) : Type 0 where
  pub grows : plan.call.grows ≡ true
  pub version : 0 < length plan.versions
  pub members : n ≡ length plan.packages
