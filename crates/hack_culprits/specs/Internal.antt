-- What only private functions of the crate promise each other.
use Rattle.std.specs.Prelude.{◌≡◌, ◌≢◌, Bool, true, false, List, [], ◌∷◌, All, AllPairs, IsSomeAnd, MatchBool, Option, Some, Result, Ok, Err, map}
use Rattle.std.specs.List.{list_any}
use Rattle.hack_closures.specs.View.{search_of}
use Rattle.hack_conflicts.specs.Rules.{IsChoice, IsPreorder}
use Rattle.hack_conflicts.specs.Runs.{Run as Asked}
use Rattle.hack_conflicts.specs.declared.tried.BuildOutcome.{BuildOutcome}
use Rattle.hack_conflicts.specs.declared.tried.BuildOutcome.TheVariants.{Broken, Failed, Passed}
use Rattle.hack_plan.specs.Plans.{AreRunsOfPackages}
use Rattle.hack_plan.specs.View.{PlanView}
use Rattle.hack_session.specs.declared.step.Handed.{Handed}
use Rattle.hack_culprits.specs.Built.{AreBuilt, AreUnbroken, Explains, HasRoom, Made, run_for}
use Rattle.hack_culprits.specs.declared.aim.Aim.{Aim}
use Rattle.hack_culprits.specs.declared.built.Built.{Built}
use Rattle.hack_culprits.specs.declared.fault.CulpritsFault.{CulpritsFault}
use Rattle.hack_culprits.specs.declared.fault.CulpritsFault.TheVariants.{Ended}

-- what was built, as runs
abbrev pub made_in : Bool → List Built → List Made
made_in plain built = map (λ b. record { run = run_for plain b.build; outcome = b.outcome }) built

-- runs of the package can be added to the plan, and its sets searched
pub record IsReady (aim : Aim) (plan : PlanView) : Type 0 where
  pub room : HasRoom aim.member plan
  pub runs : AreRunsOfPackages plan.packages plan.entries
  pub order : IsPreorder (search_of aim.closures.now)

abbrev pub is_broken : BuildOutcome → Bool
is_broken Passed = false
is_broken Failed = false
is_broken Broken = true

-- some set wasn't built, or its run cut short
abbrev pub has_broken : List Asked → Bool
has_broken asked = list_any (λ one. is_broken one.outcome) asked

-- no set but the last was broken
abbrev pub MayBreakLast : List Asked → Type 0
MayBreakLast asked = AllPairs (λ earlier later. earlier.outcome ≢ Broken) asked

-- why a build was broken is kept, where this was the first such, and nothing is kept where none was
abbrev pub KeepsWhy : Type 0 → Bool → List Made → PlanView → Option CulpritsFault → Option CulpritsFault → Type 0
KeepsWhy IsFirst broken made plan before after = MatchBool broken (IsFirst → IsSomeAnd after (λ why. Explains why made plan)) (after ≡ before)

-- these sets were built, and why the last was broken is kept
pub record Builds {R : Type 0} (ran : PlanView → List Handed → R → R → Type 0) (ended : R → Bool) (aim : Aim)
    (asked : List Asked) (before after : List Made) (why now : Option CulpritsFault) (old new : PlanView) (a b : R) : Type 0 where
  pub ready : IsReady aim new
  pub built : AreBuilt ran ended aim asked before after old new a b
  pub kept : KeepsWhy (MayBreakLast asked × AreUnbroken before) (has_broken asked) after new why now

-- the same, of sets that may be chosen, where runs of the package can be added to the plan
abbrev pub MayBuild : {R : Type 0} → (PlanView → List Handed → R → R → Type 0) → (R → Bool) → Aim → List Asked → List Made → List Made → Option CulpritsFault → Option CulpritsFault → PlanView → PlanView → R → R → Type 0
MayBuild ran ended aim asked before after why now old new a b =
    IsReady aim old → All (λ one. IsChoice (search_of aim.closures.now) one.set) asked → Builds ran ended aim asked before after why now old new a b

-- why a build was broken, where it was
abbrev pub kept_of : Result BuildOutcome CulpritsFault → Option CulpritsFault → Option CulpritsFault
kept_of (Ok outcome) before = before
kept_of (Err why) before = Some why

-- what came of a set that was asked for
abbrev pub outcome_of : Result BuildOutcome CulpritsFault → BuildOutcome
outcome_of (Ok outcome) = outcome
outcome_of (Err why) = Broken

-- what a search is told of a run that ended so
abbrev pub told_of : BuildOutcome → Result BuildOutcome CulpritsFault
told_of Passed = Ok Passed
told_of Failed = Ok Failed
told_of Broken = Err Ended

-- a set was built, or what stands for it before; or its build was broken, and why
pub record BuildsOne {R : Type 0} (ran : PlanView → List Handed → R → R → Type 0) (ended : R → Bool) (aim : Aim)
    (set : List Bool) (came : Result BuildOutcome CulpritsFault) (before after : List Made) (old new : PlanView) (a b : R) : Type 0 where
  pub ready : IsReady aim new
  pub built : AreBuilt ran ended aim (record { set = set; outcome = outcome_of came } ∷ []) before after old new a b
  pub kept : (first : Option CulpritsFault) → KeepsWhy (AreUnbroken before) (is_broken (outcome_of came)) after new first (kept_of came first)
