-- What only private functions of the crate promise each other.
use Rattle.std.specs.Prelude.{ℕ, ◌≡◌, ◌-◌, Bool, List, [], ◌∷◌, All, Option, Some, length, slice_get}
use Rattle.std.specs.List.{AllZip}
use Rattle.std.specs.Option.{option_map_or}
use Rattle.hack_bisect.specs.Searches.{Trial as Tried}
use Rattle.hack_bisect.specs.declared.find.Least.{Least as LeastPlace}
use Rattle.hack_bisect.specs.declared.find.Least.TheVariants.{At, Nowhere as NoPlace, Broken as BrokenOff}
use Rattle.hack_plan.specs.View.{PlanView}
use Rattle.hack_plan.specs.declared.parts.PlanVersion.{PlanVersion}
use Rattle.hack_session.specs.declared.step.Handed.{Handed}
use Rattle.hack_msrv.specs.Searches.{AreSearches, AreTried, IsTrialAt}
use Rattle.hack_msrv.specs.Trials.{AreTrials, Trial}
use Rattle.hack_msrv.specs.declared.found.Found.{Found}
use Rattle.hack_msrv.specs.declared.found.Found.TheVariants.{Broken, Least, Nowhere}
use Rattle.hack_msrv.specs.declared.trial.Came.{Came}
use Rattle.hack_msrv.specs.declared.trial.Came.TheVariants as came

-- a version of the plan stands at the place
pub record HasVersion (plan : PlanView) (uses : List ℕ) (place : ℕ) : Type 0 where
  pub index : ℕ
  pub version : PlanVersion
  pub used : slice_get uses place ≡ Some index
  pub at : slice_get plan.versions index ≡ Some version

-- the place whose run failed last, by what came of a trial
abbrev pub kept : Came → Option ℕ → Option ℕ
kept came.Passed failed = failed
kept (came.Failed place) failed = Some place
kept came.Broken failed = failed

-- the place whose run failed last, after these trials
abbrev pub failed_after : Option ℕ → List Trial → Option ℕ
failed_after failed [] = failed
failed_after failed (t ∷ more) = failed_after (kept t.came failed) more

-- these places were tried, each by a trial of its version
pub record TriesVersions {R : Type 0} (ran : PlanView → List Handed → R → R → Type 0) (ended : R → Bool)
    (plan : PlanView) (p : ℕ) (uses : List ℕ) (tried : List Tried) (failed now : Option ℕ) (a b : R) : Type 0 where
  pub trials : List Trial
  pub same : AllZip (IsTrialAt uses) tried trials
  pub did : AreTrials ran ended plan p trials a b
  pub kept : now ≡ failed_after failed trials

-- the same, of places with versions
abbrev pub MayTry : {R : Type 0} → (PlanView → List Handed → R → R → Type 0) → (R → Bool) → PlanView → ℕ → List ℕ → List Tried → Option ℕ → Option ℕ → R → R → Type 0
MayTry ran ended plan p uses tried failed now a b =
    All (λ t. HasVersion plan uses t.place) tried → TriesVersions ran ended plan p uses tried failed now a b

-- what is said where the greatest version failed, and this run of it
abbrev pub nowhere_of : Option ℕ → Option ℕ → Found
nowhere_of (Some version) (Some failed) = Nowhere version failed
nowhere_of version failed = Broken

-- what a search among these versions says by its answer and the place whose run failed last
abbrev pub found_of : List ℕ → LeastPlace → Option ℕ → Found
found_of uses (At place) failed = option_map_or (λ version. Least version failed) (slice_get uses place) Broken
found_of uses NoPlace failed = nowhere_of (slice_get uses (length uses - 1)) failed
found_of uses BrokenOff failed = Broken

-- the packages up to one were searched, and no search was broken off
pub record AreSearched {R : Type 0} (ran : PlanView → List Handed → R → R → Type 0) (ended : R → Bool)
    (plan : PlanView) (found : List Found) (a b : R) : Type 0 where
  pub searches : List (List Trial)
  pub tried : AreTried ran ended plan 0 searches a b
  pub say : AreSearches plan 0 searches found
