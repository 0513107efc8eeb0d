-- What a starter's steps do, whatever its caller's course.
use Rattle.std.specs.Prelude.{◌≡◌, List, [], ◌++◌, true}
use Rattle.std.proofs.Common.{refl, ◌∙◌}
use Rattle.hack_process.specs.Calls.{Call}
use Rattle.hack_plan.specs.Growth.{IsGrown}
use Rattle.hack_plan.specs.Plans.{AreRunsOfPackages}
use Rattle.hack_plan.specs.View.{PlanView}
use Rattle.hack_session.specs.GrownSteps.{AreRuns, done_grown}
use Rattle.hack_session.specs.declared.step.Handed.{Handed}
use Rattle.hack_session.specs.declared.starter.Starter.{Starter}
use Rattle.hack_session.specs.StepEffects.{DoesAll, state}
use Rattle.hack_base.specs.declared.writes.Sink.{Ghosts as Taking}
use Rattle.hack_session.specs.StepOutput.{manner_of, streams}
use Rattle.hack_session.specs.JoinedSteps.{done_more, error_alone, manner_stays}

-- the loans, the manner and the terminal are as they were, and each step did just what is its own
abbrev pub DoesSteps : {C O E : Type 0} → Type 0 → (C → List Call) → Taking O → Taking E → PlanView → List Handed → Starter C O E → Starter C O E → Type 0
DoesSteps tells calls o e plan steps a b =
    (a.caller.ghost_name ≡ b.caller.ghost_name) × (a.term.ghost_name ≡ b.term.ghost_name)
    × (a.fault.ghost_name ≡ b.fault.ghost_name) × (a.out.ghost_name ≡ b.out.ghost_name)
    × (a.err.ghost_name ≡ b.err.ghost_name) × (a.keep_going ≡ b.keep_going)
    × (a.log_group ≡ b.log_group) × (b.term.now ≡ record a.term.now { error = b.term.now.error })
    × DoesAll tells a.keep_going (manner_of a.log_group a.term.now) plan steps
    (state (calls a.caller.now) (streams o e a.out.now a.err.now) a.fault.now a.term.now.error a.refused)
    (state (calls b.caller.now) (streams o e b.out.now b.err.now) b.fault.now b.term.now.error b.refused)

pub does_none : {C O E : Type 0} (tells : Type 0) (calls : C → List Call) (o : Taking O) (e : Taking E) (plan : PlanView) (a : Starter C O E) → DoesSteps tells calls o e plan [] a a
does_none tells calls o e plan a = (refl, refl, refl, refl, refl, refl, refl, refl, refl)

pub does_more : {C O E : Type 0} (tells : Type 0) (calls : C → List Call) (o : Taking O) (e : Taking E) (plan : PlanView) (steps more : List Handed) (a b c : Starter C O E)
    → DoesSteps tells calls o e plan steps a b → DoesSteps tells calls o e plan more b c → DoesSteps tells calls o e plan (steps ++ more) a c
does_more tells calls o e plan steps more a b c p q = (
  p.0 ∙ q.0,
  p.1 ∙ q.1,
  p.2 ∙ q.2,
  p.3 ∙ q.3,
  p.4 ∙ q.4,
  p.5 ∙ q.5,
  p.6 ∙ q.6,
  error_alone a.term.now b.term.now c.term.now p.7 q.7,
  done_more tells a.keep_going b.keep_going (manner_of a.log_group a.term.now) (manner_of b.log_group b.term.now) plan steps more
      (state (calls a.caller.now) (streams o e a.out.now a.err.now) a.fault.now a.term.now.error a.refused)
      (state (calls b.caller.now) (streams o e b.out.now b.err.now) b.fault.now b.term.now.error b.refused)
      (state (calls c.caller.now) (streams o e c.out.now c.err.now) c.fault.now c.term.now.error c.refused)
      p.5 (manner_stays a.log_group b.log_group a.term.now b.term.now p.6 p.7) p.8 q.8,
)

-- what runs did on a plan that grows they did on what it has become
pub does_grown : {C O E : Type 0} (tells : Type 0) (calls : C → List Call) (o : Taking O) (e : Taking E) (old new : PlanView) (steps : List Handed) (a b : Starter C O E)
    → IsGrown old new → old.call.grows ≡ true → AreRunsOfPackages old.packages old.entries → AreRuns steps → DoesSteps tells calls o e old steps a b → DoesSteps tells calls o e new steps a b
does_grown tells calls o e old new steps a b grown grows runs are p = (
  p.0,
  p.1,
  p.2,
  p.3,
  p.4,
  p.5,
  p.6,
  p.7,
  done_grown old new grown grows tells a.keep_going (manner_of a.log_group a.term.now) runs steps
      (state (calls a.caller.now) (streams o e a.out.now a.err.now) a.fault.now a.term.now.error a.refused)
      (state (calls b.caller.now) (streams o e b.out.now b.err.now) b.fault.now b.term.now.error b.refused) are p.8,
)
