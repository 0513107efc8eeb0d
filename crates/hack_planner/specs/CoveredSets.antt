-- The sets of features that a plan covers.
use Rattle.std.specs.Prelude.{ℕ, ◌≡◌, ◌<◌, List, Option, None, Some, length, Contains, IsSomeAnd, slice_get}
use Rattle.hack_features.specs.Rules.{Choice, IsWanted, Covers}
use Rattle.hack_sets.specs.Sets.{IsSelection}
use Rattle.hack_load.specs.Contexts.{ContextRecord, package_at, features_at}
use Rattle.hack_load.specs.declared.features.Features.{Features}
use Rattle.hack_metadata.specs.Records.{PackageRecord}
use Rattle.hack_planner.specs.Candidates.{candidates}
use Rattle.hack_planner.specs.ContextMembers.{AreChosen}
use Rattle.hack_planner.specs.Kinds.{package_choice}
use Rattle.hack_plan.specs.Runs.{Set}
use Rattle.hack_plan.specs.Inputs.{IsStepList, UsesVersion, slots_of}
use Rattle.hack_plan.specs.declared.versions.PlanInput.{PlanInput}
use Rattle.hack_plan.specs.View.{PlanView}
use Rattle.hack_versions.specs.declared.version.Version.{Version}
use Rattle.hack_planner.specs.Calls.{IsInputOf, rules_at}

-- the plan holds a place of the version, slot and package, whose run has a set that covers this one
pub record HoldsCover (plan : PlanView) (version : Option Version) (slot place : ℕ) (choice : Choice) (s : List ℕ) : Type 0 where
  pub rank : ℕ
  pub set : List ℕ
  pub held : Contains plan.entries (record { version = version; slot = slot; «package» = Some place; rank = rank })
  pub run : IsSomeAnd (slice_get plan.packages place) (λ k. slice_get k.runs rank ≡ Some (Set set))
  pub covers : Covers choice s set

-- the plan holds such a place for each chosen package without a strength, each version that it uses,
-- each slot of the version and each set of its candidates that has to be covered
pub record AreCovered (cx : ContextRecord) (latest : Option Version) (plan : PlanView) : Type 0 where
  pub ids : List ℕ
  pub input : PlanInput
  pub steps : List Version
  pub chosen : AreChosen cx ids
  pub of_call : IsInputOf cx ids input
  pub on_steps : IsStepList input.range input latest steps
  pub covered : (place id : ℕ) (p : PackageRecord) (features : Features) (version : Option Version) (slot : ℕ) (s : List ℕ)
      → slice_get ids place ≡ Some id → package_at cx id ≡ Some p → features_at cx id ≡ Some features
      → UsesVersion input.range input steps version place → slot < slots_of input version
      → (rules_at cx p features).strength ≡ None
      → IsSelection (length (candidates (rules_at cx p features) features)) s
      → IsWanted (package_choice (rules_at cx p features) p features) s
      → HoldsCover plan version slot place (package_choice (rules_at cx p features) p features) s
