-- Trials of a plan's versions: the steps of each, and what comes of them.
use Rattle.std.specs.Prelude.{ℕ, ◌≡◌, ◌⊎◌, ◌-◌, Bool, true, false, List, [], ◌∷◌, ◌++◌, map, filter, nat_eq, slice_get, Some}
use Rattle.std.specs.List.{flat_map, range_with_len}
use Rattle.std.specs.Option.{option_map_or}
use Rattle.hack_plan.specs.View.{PlanView}
use Rattle.hack_plan.specs.declared.parts.PlanVersion.{PlanVersion}
use Rattle.hack_session.specs.Histories.{passed_step}
use Rattle.hack_session.specs.Schedules.{is_place}
use Rattle.hack_session.specs.declared.step.Handed.{Handed}
use Rattle.hack_session.specs.declared.step.Outcome.TheVariants as outcome
use Rattle.hack_session.specs.declared.step.Step.{Step}
use Rattle.hack_session.specs.declared.step.Step.TheVariants.{Prepare, Run}
use Rattle.hack_msrv.specs.declared.trial.Came.{Came}
use Rattle.hack_msrv.specs.declared.trial.Came.TheVariants.{Passed, Failed, Broken}

-- the place is one of the package
abbrev pub is_of : PlanView → ℕ → ℕ → Bool
is_of plan p place = option_map_or (λ entry. option_map_or (nat_eq p) entry.«package» false) (slice_get plan.entries place) false

-- the package's places of a version, in order
abbrev pub places_of : PlanView → ℕ → PlanVersion → List ℕ
places_of plan p v = filter (is_of plan p) (range_with_len v.first (v.end - v.first))

-- the steps of a trial: the preparations of the version, and then the package's runs of it, in order
abbrev pub trial_steps : PlanView → ℕ → PlanVersion → List Step
trial_steps plan p v = map Prepare v.preparations.items ++ map Run (places_of plan p v)

-- a step that failed
abbrev pub failed_step : Step → Handed
failed_step step = record { step = step; outcome = outcome.Failed }

-- the steps before this one passed, this one failed, and none was handed out behind it
pub record StopsAt (steps : List Step) (handed : List Handed) (step : Step) : Type 0 where
  pub front : List Step
  pub left : List Step
  pub split : steps ≡ front ++ step ∷ left
  pub told : handed ≡ map passed_step front ++ failed_step step ∷ []

-- a trial passed where all its steps did; it failed where a run did, and the call isn't at its end;
-- else it is broken
abbrev pub ComesTo : Bool → List Step → List Handed → Came → Type 0
ComesTo ended steps handed Passed = handed ≡ map passed_step steps
ComesTo ended steps handed (Failed place) = (ended ≡ false) × StopsAt steps handed (Run place)
ComesTo ended steps handed Broken =
    (step : Step) × StopsAt steps handed step × ((is_place step ≡ false) ⊎ (ended ≡ true))

-- a trial of the plan's version at an index: what was handed out, and what came of it
pub record Trial : Type 0 where
  pub version : ℕ
  pub handed : List Handed
  pub came : Came

-- a trial for the package, by whether the call is at its end after it
pub record IsTrial (plan : PlanView) (p : ℕ) (ended : Bool) (t : Trial) : Type 0 where
  pub version : PlanVersion
  pub at : slice_get plan.versions t.version ≡ Some version
  pub comes : ComesTo ended (trial_steps plan p version) t.handed t.came

-- trials for the package, one after the other, took a runner from one state to the other
abbrev pub AreTrials : {R : Type 0} → (PlanView → List Handed → R → R → Type 0) → (R → Bool) → PlanView → ℕ → List Trial → R → R → Type 0
AreTrials ran ended plan p [] a b = b ≡ a
AreTrials {R} ran ended plan p (t ∷ more) a b =
    (mid : R) × ran plan t.handed a mid × IsTrial plan p (ended mid) t × AreTrials ran ended plan p more mid b

-- what was handed out in trials
abbrev pub handed_in : List Trial → List Handed
handed_in trials = flat_map (λ t. t.handed) trials
