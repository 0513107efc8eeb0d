-- The samples of a plan's packages, and the patterns that a plan shows.
use Rattle.std.specs.Prelude.{ℕ, ◌≡◌, ◌≢◌, ◌<◌, ◌≤◌, List, Option, None, Some, length, Contains, IsSomeAnd, slice_get}
use Rattle.hack_features.specs.Rules.{Choice, IsListed}
use Rattle.hack_features.specs.Samples.{CoversPatterns, IsLean, SetShows}
use Rattle.hack_sets.specs.Sets.{IsSelection, Pairwise}
use Rattle.hack_samples.specs.declared.sets.Setting.{Setting}
use Rattle.hack_load.specs.Contexts.{ContextRecord, package_at, features_at}
use Rattle.hack_load.specs.declared.features.Features.{Features}
use Rattle.hack_metadata.specs.Records.{PackageRecord}
use Rattle.hack_planner.specs.ContextMembers.{AreChosen}
use Rattle.hack_plan.specs.Runs.{PackageRun, Set}
use Rattle.hack_plan.specs.Inputs.{IsStepList, UsesVersion, slots_of}
use Rattle.hack_plan.specs.declared.versions.PlanInput.{PlanInput}
use Rattle.hack_plan.specs.View.{PlanView}
use Rattle.hack_versions.specs.declared.version.Version.{Version}
use Rattle.hack_planner.specs.Calls.{IsInputOf, rules_at}
use Rattle.hack_planner.specs.Candidates.{candidates}
use Rattle.hack_planner.specs.Kinds.{package_choice}
use Rattle.hack_planner.specs.Powersets.{HoldsOfEach, run_sets_of}

-- the sets of the runs are listed ones, each once, which show each pattern of at most so many candidates that some listed set
-- shows, and of which each is needed for that
pub record IsSampleOf (choice : Choice) (strength : ℕ) (runs : List PackageRun) : Type 0 where
  pub listed : (s : List ℕ) → Contains (run_sets_of runs) s → IsSelection (length choice.candidates) s × IsListed choice s
  pub once : Pairwise (λ s t. s ≢ t) (run_sets_of runs)
  pub covers : CoversPatterns choice (length choice.candidates) strength (run_sets_of runs)
  pub lean : IsLean choice strength (run_sets_of runs)

-- with a strength the sets of the runs are a sample
abbrev pub HasSample : Option ℕ → Choice → List PackageRun → Type 0
HasSample None choice runs = Unit {0}
HasSample (Some strength) choice runs = IsSampleOf choice strength runs

-- the plan has exactly the chosen packages, and the sets of the runs of each that uses a version and
-- has a strength are a sample
abbrev pub HaveSamples : ContextRecord → Option Version → PlanView → Type 0
HaveSamples cx latest plan = HoldsOfEach cx latest plan HasSample

-- the plan holds a place of the version, slot and package, whose run has a set that shows the pattern
pub record HoldsPattern (plan : PlanView) (version : Option Version) (slot place : ℕ) (choice : Choice) (pattern : List Setting) : Type 0 where
  pub rank : ℕ
  pub set : List ℕ
  pub held : Contains plan.entries (record { version = version; slot = slot; «package» = Some place; rank = rank })
  pub run : IsSomeAnd (slice_get plan.packages place) (λ k. slice_get k.runs rank ≡ Some (Set set))
  pub shows : SetShows choice pattern set

-- the plan holds such a place for each chosen package with a strength, each version that it uses, each slot of the version and
-- each pattern of at most so many candidates that some listed set shows
pub record ArePatternsHeld (cx : ContextRecord) (latest : Option Version) (plan : PlanView) : Type 0 where
  pub ids : List ℕ
  pub input : PlanInput
  pub steps : List Version
  pub chosen : AreChosen cx ids
  pub of_call : IsInputOf cx ids input
  pub on_steps : IsStepList input.range input latest steps
  pub held : (strength place id : ℕ) (p : PackageRecord) (features : Features) (version : Option Version) (slot : ℕ) (pattern : List Setting) (s : List ℕ)
      → slice_get ids place ≡ Some id → package_at cx id ≡ Some p → features_at cx id ≡ Some features
      → UsesVersion input.range input steps version place → slot < slots_of input version
      → (rules_at cx p features).strength ≡ Some strength
      → length pattern ≤ strength → IsSelection (length (candidates (rules_at cx p features) features)) s
      → IsListed (package_choice (rules_at cx p features) p features) s
      → SetShows (package_choice (rules_at cx p features) p features) pattern s
      → HoldsPattern plan version slot place (package_choice (rules_at cx p features) p features) pattern
