-- What a search builds: the sets that it asks for, the runs that stand for them, and their places.
use Rattle.std.specs.Prelude.{ℕ, ◌≡◌, ◌≢◌, ◌⊎◌, ◌≤◌, ◌<◌, ◌+◌, Bool, true, false, List, [], ◌∷◌, ◌++◌, All, AllPairs, Contains, Option, length, if◌then◌else◌}
use Rattle.hack_closures.specs.Closures.{IsBuildFor}
use Rattle.hack_closures.specs.View.{alone_in, choice_in, has_all, search_of}
use Rattle.hack_closures.specs.declared.build.Build.{Build}
use Rattle.hack_closures.specs.declared.build.Build.TheVariants as build
use Rattle.hack_conflicts.specs.Runs.{Finding, IsCourse, IsFinding, Run as Asked}
use Rattle.hack_conflicts.specs.declared.tried.BuildOutcome.{BuildOutcome}
use Rattle.hack_conflicts.specs.declared.tried.BuildOutcome.TheVariants.{Passed, Failed, Broken}
use Rattle.hack_plan.specs.Growth.{with_run}
use Rattle.hack_plan.specs.Runs.{PackageRun, Plain, AllFeatures, NoDefaultFeatures, Set}
use Rattle.hack_plan.specs.View.{PlanView}
use Rattle.hack_plan.specs.declared.places.PlacesFault.{PlacesFault}
use Rattle.hack_plan.specs.declared.places.PlacesFault.TheVariants as places
use Rattle.hack_session.specs.declared.step.Handed.{Handed}
use Rattle.hack_session.specs.declared.step.Outcome.{Outcome as Ended}
use Rattle.hack_session.specs.declared.step.Outcome.TheVariants as step
use Rattle.hack_session.specs.declared.step.Step.TheVariants.{Run}
use Rattle.hack_culprits.specs.declared.aim.Aim.{Aim}
use Rattle.hack_culprits.specs.declared.fault.CulpritsFault.{CulpritsFault}
use Rattle.hack_culprits.specs.declared.fault.CulpritsFault.TheVariants as fault

-- the run of what is built: without features it is plain where the package has none
abbrev pub run_for : Bool → Build → PackageRun
run_for plain build.NoFeatures = if plain then Plain else NoDefaultFeatures
run_for plain build.AllFeatures = AllFeatures
run_for plain (build.Set positions) = Set positions.items

-- the run is what is built for the set
abbrev pub IsRunFor : Aim → List Bool → PackageRun → Type 0
IsRunFor aim set run =
    (b : Build) × IsBuildFor (choice_in aim.closures.now) (alone_in aim.closures.now) (has_all aim.closures.now) (search_of aim.closures.now) set b
    × (run ≡ run_for aim.plain b)

-- a run that was built, and how it ended
pub record Made : Type 0 where
  pub run : PackageRun
  pub outcome : BuildOutcome

-- how the step of a run ended: what is broken has failed
abbrev pub step_outcome : BuildOutcome → Ended
step_outcome Passed = step.Passed
step_outcome Failed = step.Failed
step_outcome Broken = step.Failed

-- the step of a run at a place
abbrev pub step_at : ℕ → Made → Handed
step_at place m = record { step = Run place; outcome = step_outcome m.outcome }

-- the steps of runs at places from one on
abbrev pub steps_from : ℕ → List Made → List Handed
steps_from place [] = []
steps_from place (m ∷ more) = step_at place m ∷ steps_from (place + 1) more

-- what an outcome says of the call: after a run that failed it isn't at its end, after a broken one it is
abbrev pub Tells : Bool → BuildOutcome → Type 0
Tells ended Passed = Unit {0}
Tells ended Failed = ended ≡ false
Tells ended Broken = ended ≡ true

-- a plan that has grown by these runs of a package in a slot
abbrev pub with_made : ℕ → ℕ → List Made → PlanView → PlanView
with_made slot member [] plan = plan
with_made slot member (m ∷ more) plan = with_made slot member more (with_run slot member m.run plan)

-- the steps of these runs, at places of the plan from one on, took a runner from one state to the other
abbrev pub AreHanded : {R : Type 0} → (PlanView → List Handed → R → R → Type 0) → (R → Bool) → PlanView → ℕ → List Made → R → R → Type 0
AreHanded ran ended plan place [] a b = b ≡ a
AreHanded {R} ran ended plan place (m ∷ more) a b =
    (mid : R) × ran plan (step_at place m ∷ []) a mid × Tells (ended mid) m.outcome × AreHanded ran ended plan (place + 1) more mid b

-- the run stands for the set that was asked for, and ended as the search was told
pub record Answers (aim : Aim) (asked : Asked) (m : Made) : Type 0 where
  pub fits : IsRunFor aim asked.set m.run
  pub told : m.outcome ≡ asked.outcome

-- a set's run is among those that were built for the package and the slot; or no more could be built
abbrev pub IsBuilt : Aim → List Made → Asked → Type 0
IsBuilt aim built asked = ((m : Made) × Contains built m × Answers aim asked m) ⊎ (asked.outcome ≡ Broken)

-- the run was built for one of the sets
abbrev pub IsAsked : Aim → List Asked → Made → Type 0
IsAsked aim asked m = (one : Asked) × Contains asked one × Answers aim one m

-- no two of the runs are the same
abbrev pub AreDistinct : List Made → Type 0
AreDistinct built = AllPairs (λ earlier later. later.run ≢ earlier.run) built

-- what was built when a set was asked for: its run; or nothing, where that was built before or no more could
-- be built
abbrev pub BuildsFor : Aim → Asked → List Made → List Made → Type 0
BuildsFor aim asked before after =
    ((after ≡ before) × IsBuilt aim before asked) ⊎ ((m : Made) × (after ≡ before ++ m ∷ []) × Answers aim asked m)

-- the sets were built in the order in which they were asked for
abbrev pub BuildsInTurn : Aim → List Asked → List Made → List Made → Type 0
BuildsInTurn aim [] before after = after ≡ before
BuildsInTurn aim (one ∷ more) before after = (mid : List Made) × BuildsFor aim one before mid × BuildsInTurn aim more mid after

-- Of the sets that a search asked for, those that weren't built before were added to the plan, in this
-- order, each as its last place and none twice; each set has its run among those that were built, and each
-- of these was added for one of the sets.
pub record AreMade (aim : Aim) (asked : List Asked) (before after added : List Made) (old new : PlanView) : Type 0 where
  pub built : after ≡ before ++ added
  pub plan : new ≡ with_made aim.slot aim.member added old
  pub distinct : AreDistinct before → AreDistinct after
  pub turns : BuildsInTurn aim asked before after
  pub each : All (IsBuilt aim after) asked
  pub needed : All (IsAsked aim asked) added
  pub few : length added ≤ length asked

-- sets that a search asked for were added to the plan, and handed out in this order
pub record AreBuilt {R : Type 0} (ran : PlanView → List Handed → R → R → Type 0) (ended : R → Bool) (aim : Aim)
    (asked : List Asked) (before after : List Made) (old new : PlanView) (a b : R) : Type 0 where
  pub added : List Made
  pub made : AreMade aim asked before after added old new
  pub handed : AreHanded ran ended new (length old.entries) added a b

-- runs of the package with this index can be added to the plan
pub record HasRoom (index : ℕ) (plan : PlanView) : Type 0 where
  pub grows : plan.call.grows ≡ true
  pub version : 0 < length plan.versions
  pub member : index < length plan.packages

-- why a run wasn't added to a plan
abbrev pub fault_of : PlacesFault → CulpritsFault
fault_of places.Memory = fault.Memory
fault_of places.TooManyRuns = fault.TooManyRuns

-- no run that was built is broken
abbrev pub AreUnbroken : List Made → Type 0
AreUnbroken made = All (λ m. m.outcome ≢ Broken) made

-- the last run that was built is broken, and no other
abbrev pub AreBrokenLast : List Made → Type 0
AreBrokenLast made = (front : List Made) × (last : Made) × (made ≡ front ++ last ∷ []) × AreUnbroken front × (last.outcome ≡ Broken)

-- Why a search was cut short: the call is at its end just where a run is broken, which is the last one
-- that was built; and a plan that can't grow has as many places as a plan may have.
abbrev pub Explains : CulpritsFault → List Made → PlanView → Type 0
Explains fault.Ended made plan = AreBrokenLast made
Explains fault.TooManyRuns made plan = AreUnbroken made × (4294967295 ≤ length plan.entries)
Explains fault.Memory made plan = AreUnbroken made

-- A package's sets were searched, for a slot: the plan grew by the runs that were built, each once. Each
-- set that the search asked for has its run among them, and each of them was built for such a set; none is
-- broken. What is found is what their outcomes say.
pub record IsHunt (aim : Aim) (most : Option ℕ) (f : Finding) (made : List Made) (old new : PlanView) : Type 0 where
  pub built : AreMade aim f.runs [] made made old new
  pub unbroken : AreUnbroken made
  pub found : IsFinding (search_of aim.closures.now) most f

-- the runs that a search built were handed out, in order
pub record RanHunt {R : Type 0} (ran : PlanView → List Handed → R → R → Type 0) (ended : R → Bool) (aim : Aim)
    (most : Option ℕ) (f : Finding) (old new : PlanView) (a b : R) : Type 0 where
  pub made : List Made
  pub hunt : IsHunt aim most f made old new
  pub handed : AreHanded ran ended new (length old.entries) made a b
  pub whole : ran new (steps_from (length old.entries) made) a b

-- The search was cut short: what was built until then was asked for by such a search. Where the call
-- is at its end, the last run that was built is broken, and else none; where the plan can't grow, it is full.
pub record IsCutShort {R : Type 0} (ran : PlanView → List Handed → R → R → Type 0) (ended : R → Bool) (aim : Aim)
    (most : Option ℕ) (why : CulpritsFault) (old new : PlanView) (a b : R) : Type 0 where
  pub asked : List Asked
  pub made : List Made
  pub course : IsCourse (search_of aim.closures.now) most asked
  pub built : AreMade aim asked [] made made old new
  pub handed : AreHanded ran ended new (length old.entries) made a b
  pub whole : ran new (steps_from (length old.entries) made) a b
  pub cause : Explains why made new
