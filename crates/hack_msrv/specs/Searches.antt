-- Searches for the least version of each package.
use Rattle.std.specs.Prelude.{ℕ, zero, suc, ◌≡◌, ◌≢◌, ◌⊎◌, ◌+◌, ◌-◌, Bool, false, List, [], ◌∷◌, ◌++◌, All, Contains, filter, length, Option, None, Some, slice_get}
use Rattle.std.specs.List.{AllZip, flat_map, list_any, range_with_len}
use Rattle.std.specs.Option.{option_map_or}
use Rattle.hack_bisect.specs.Searches.{IsSearch, IsRight, Trial as Tried}
use Rattle.hack_bisect.specs.declared.find.Least.{Least as LeastPlace}
use Rattle.hack_bisect.specs.declared.find.Least.TheVariants.{At, Nowhere as NoPlace, Broken as BrokenOff}
use Rattle.hack_bisect.specs.declared.tries.TrialOutcome.{TrialOutcome}
use Rattle.hack_bisect.specs.declared.tries.TrialOutcome.TheVariants as outcome
use Rattle.hack_plan.specs.View.{PlanView}
use Rattle.hack_session.specs.declared.step.Handed.{Handed}
use Rattle.hack_msrv.specs.Trials.{AreTrials, IsTrial, Trial, handed_in, is_of}
use Rattle.hack_msrv.specs.declared.found.Found.{Found}
use Rattle.hack_msrv.specs.declared.found.Found.TheVariants.{Untried, Least, Nowhere, Broken}
use Rattle.hack_msrv.specs.declared.trial.Came.{Came}
use Rattle.hack_msrv.specs.declared.trial.Came.TheVariants as came

-- the package uses the plan's version at an index: it has a place there
abbrev pub is_used : PlanView → ℕ → ℕ → Bool
is_used plan p index =
    option_map_or (λ v. list_any (is_of plan p) (range_with_len v.first (v.end - v.first))) (slice_get plan.versions index) false

-- the versions that the package uses, as indices, in order
abbrev pub uses_of : PlanView → ℕ → List ℕ
uses_of plan p = filter (is_used plan p) (range_with_len 0 (length plan.versions))

-- what a search by halving is told of a trial
abbrev pub outcome_of : Came → TrialOutcome
outcome_of came.Passed = outcome.Passed
outcome_of (came.Failed place) = outcome.Failed
outcome_of came.Broken = outcome.Broken

-- the trial of a place among these versions is that of its version
pub record IsTrialAt (uses : List ℕ) (tried : Tried) (t : Trial) : Type 0 where
  pub version : slice_get uses tried.place ≡ Some t.version
  pub outcome : tried.outcome ≡ outcome_of t.came

-- the trials are those of a search by halving among these versions, with this answer
pub record IsHalving (uses : List ℕ) (trials : List Trial) (answer : LeastPlace) : Type 0 where
  pub tried : List Tried
  pub same : AllZip (IsTrialAt uses) tried trials
  pub search : IsSearch (length uses - 1) tried answer
  pub right : IsRight (length uses - 1) tried answer

-- the version was tried, and the run at this place failed
abbrev pub HasFailedAt : List Trial → ℕ → ℕ → Type 0
HasFailedAt trials version place = (t : Trial) × Contains trials t × (t.version ≡ version) × (t.came ≡ came.Failed place)

-- why a place is the least: none is below it, or the version at the one below failed in this run
abbrev pub IsReason : List ℕ → List Trial → ℕ → Option ℕ → Type 0
IsReason uses trials zero failed = failed ≡ None
IsReason uses trials (suc below) failed =
    (version place : ℕ) × (slice_get uses below ≡ Some version) × HasFailedAt trials version place × (failed ≡ Some place)

-- what the trials for a package, which uses these versions, say of it
abbrev pub IsFound : List ℕ → List Trial → Found → Type 0
IsFound uses trials Untried = (uses ≡ []) × (trials ≡ [])
IsFound uses trials (Least version failed) =
    (place : ℕ) × IsHalving uses trials (At place) × (slice_get uses place ≡ Some version) × IsReason uses trials place failed
IsFound uses trials (Nowhere version failed) =
    IsHalving uses trials NoPlace × (slice_get uses (length uses - 1) ≡ Some version) × HasFailedAt trials version failed
IsFound uses trials Broken = IsHalving uses trials BrokenOff

-- a package's trials, and what they say of it
pub record IsSearchOf (plan : PlanView) (p : ℕ) (trials : List Trial) (found : Found) : Type 0 where
  pub each : All (λ t. (ended : Bool) × IsTrial plan p ended t) trials
  pub says : IsFound (uses_of plan p) trials found

-- the searches of packages from one on, with what they say
abbrev pub AreSearches : PlanView → ℕ → List (List Trial) → List Found → Type 0
AreSearches plan p [] [] = Unit {0}
AreSearches plan p (trials ∷ more) (one ∷ found) = IsSearchOf plan p trials one × AreSearches plan (p + 1) more found
AreSearches plan p searches found = ⊥

-- the trials of these searches, one after the other, took a runner from one state to the other
abbrev pub AreTried : {R : Type 0} → (PlanView → List Handed → R → R → Type 0) → (R → Bool) → PlanView → ℕ → List (List Trial) → R → R → Type 0
AreTried ran ended plan p [] a b = b ≡ a
AreTried {R} ran ended plan p (trials ∷ more) a b =
    (mid : R) × AreTrials ran ended plan p trials a mid × AreTried ran ended plan (p + 1) more mid b

-- what is handed out in searches
abbrev pub handed_in_all : List (List Trial) → List Handed
handed_in_all searches = flat_map handed_in searches

-- no search was broken off
abbrev pub AreUnbroken : List Found → Type 0
AreUnbroken found = All (λ one. one ≢ Broken) found

-- each package was searched, and no search was broken off; or the last one was
abbrev pub IsEnd : PlanView → List Found → Type 0
IsEnd plan found =
    (AreUnbroken found × (length found ≡ length plan.packages))
    ⊎ ((before : List Found) × AreUnbroken before × (found ≡ before ++ Broken ∷ []))

-- the packages of a plan were searched, one after another, to the end
pub record IsSearched {R : Type 0} (ran : PlanView → List Handed → R → R → Type 0) (ended : R → Bool)
    (plan : PlanView) (found : List Found) (a b : R) : Type 0 where
  pub searches : List (List Trial)
  pub tried : AreTried ran ended plan 0 searches a b
  pub whole : ran plan (handed_in_all searches) a b
  pub say : AreSearches plan 0 searches found
  pub end : IsEnd plan found
