use Rattle.std.proofs.Common.{Err, Ok, Some, ap, arith, codes, refl, sym}
use Rattle.hack_base.proofs.StreamLemmas.{wrote}
use Rattle.hack_term.specs.Lines.{error_line}
use Rattle.hack_session.specs.StepEffects.{scene_of, state}
use Rattle.hack_session.specs.StepOutput.{manner_of, streams}
use Rattle.hack_session.specs.declared.step.Outcome.TheVariants.{Failed, Passed}
use Rattle.hack_session.proofs.StepLemmas.{and_not, error_noted, kept_fault, not_and, one_step, tells_line, told_fault, told_memory}
use Rattle.hack_session.proofs.starter.StarterRunner.step.Goals as goal
use Rattle.hack_session.proofs.starter.StarterRunner.step.Goals.{else-self-via-then-self+else-is_run, else-self-via-else-self}

pub returns-in-Ok : goal.returns-in-Ok
returns-in-Ok g c = (
  refl,
  refl,
  refl,
  refl,
  refl,
  refl,
  refl,
  refl,
  c.in-Ok.ensures.course,
  one_step g.C.Caller.tells c.args.self.now.keep_going (manner_of c.args.self.now.log_group c.args.self.now.term.now) c.args.plan.now (record { step = c.args.step; outcome = Passed }) (Ok tt) (scene_of g.C.Caller g.O.Sink g.E.Sink c.perform.new.caller c.perform.new.screen)
      (state (g.C.Caller.calls c.args.self.now.caller.now) (streams g.O.Sink g.E.Sink c.args.self.now.out.now c.args.self.now.err.now) c.args.self.now.fault.now c.args.self.now.term.now.error c.args.self.now.refused)
      (state (g.C.Caller.calls c.perform.new.caller) (streams g.O.Sink g.E.Sink c.perform.new.screen.out.now c.perform.new.screen.err.now) c.args.self.now.fault.now c.args.self.now.term.now.error c.args.self.now.refused)
      c.in-Ok.ensures.does (refl, refl),
)

pub returns-then-is_memory : goal.returns-then-is_memory
returns-then-is_memory g c = (
  refl,
  refl,
  refl,
  refl,
  refl,
  refl,
  refl,
  error_noted c.args.self.now.term.now c.error.new.self c.error.ensures.noted,
  c.in-Err.ensures.course,
  one_step g.C.Caller.tells c.args.self.now.keep_going (manner_of c.args.self.now.log_group c.args.self.now.term.now) c.args.plan.now (record { step = c.args.step; outcome = Failed }) (Err c.in-Err.fault) (scene_of g.C.Caller g.O.Sink g.E.Sink c.perform.new.caller c.perform.new.screen)
      (state (g.C.Caller.calls c.args.self.now.caller.now) (streams g.O.Sink g.E.Sink c.args.self.now.out.now c.args.self.now.err.now) c.args.self.now.fault.now c.args.self.now.term.now.error c.args.self.now.refused)
      (state (g.C.Caller.calls c.perform.new.caller) (streams g.O.Sink g.E.Sink c.perform.new.screen.out.now c.error.new.out) c.args.self.now.fault.now c.error.new.self.error c.saturating_add-self.result)
      c.in-Err.ensures.does (
        refl,
        told_memory c.args.self.now.keep_going (manner_of c.args.self.now.log_group c.args.self.now.term.now) c.args.step c.in-Err.fault
            (state (g.C.Caller.calls c.perform.new.caller) (streams g.O.Sink g.E.Sink c.perform.new.screen.out.now c.perform.new.screen.err.now) c.args.self.now.fault.now c.args.self.now.term.now.error c.args.self.now.refused)
            (state (g.C.Caller.calls c.perform.new.caller) (streams g.O.Sink g.E.Sink c.perform.new.screen.out.now c.error.new.out) c.args.self.now.fault.now c.error.new.self.error c.saturating_add-self.result)
            c.if-is_memory.ensures (λ h. omega (arith, c.saturating_add-self.ensures))
            (tells_line (manner_of c.args.self.now.log_group c.args.self.now.term.now) (codes "out of memory") (state (g.C.Caller.calls c.perform.new.caller) (streams g.O.Sink g.E.Sink c.perform.new.screen.out.now c.perform.new.screen.err.now) c.args.self.now.fault.now c.args.self.now.term.now.error c.saturating_add-self.result)
            (streams g.O.Sink g.E.Sink c.perform.new.screen.out.now c.error.new.out) c.error.new.self.error (ap (λ term. term.error) c.error.ensures.noted)
            (wrote g.E.Sink _ _ (error_line c.args.self.now.term.now.coloring (codes "out of memory")) c.error.result c.error.ensures.line c.error.ensures.front c.error.ensures.counted, refl)),
      ),
)

pub returns-then-is_run : goal.returns-then-is_run
returns-then-is_run g c = (
  refl,
  refl,
  refl,
  refl,
  refl,
  refl,
  refl,
  error_noted c.args.self.now.term.now c.tell_fault.new.term c.tell_fault.ensures.noted,
  c.in-Err.ensures.course,
  one_step g.C.Caller.tells c.args.self.now.keep_going (manner_of c.args.self.now.log_group c.args.self.now.term.now) c.args.plan.now (record { step = c.args.step; outcome = Failed }) (Err c.in-Err.fault) (scene_of g.C.Caller g.O.Sink g.E.Sink c.perform.new.caller c.perform.new.screen)
      (state (g.C.Caller.calls c.args.self.now.caller.now) (streams g.O.Sink g.E.Sink c.args.self.now.out.now c.args.self.now.err.now) c.args.self.now.fault.now c.args.self.now.term.now.error c.args.self.now.refused)
      (state (g.C.Caller.calls c.perform.new.caller) (streams g.O.Sink g.E.Sink c.perform.new.screen.out.now c.tell_fault.new.err) c.args.self.now.fault.now c.tell_fault.new.term.error c.args.self.now.refused)
      c.in-Err.ensures.does (
        refl,
        told_fault c.args.self.now.keep_going (manner_of c.args.self.now.log_group c.args.self.now.term.now) c.args.step c.in-Err.fault
            (state (g.C.Caller.calls c.perform.new.caller) (streams g.O.Sink g.E.Sink c.perform.new.screen.out.now c.perform.new.screen.err.now) c.args.self.now.fault.now c.args.self.now.term.now.error c.args.self.now.refused)
            (state (g.C.Caller.calls c.perform.new.caller) (streams g.O.Sink g.E.Sink c.perform.new.screen.out.now c.tell_fault.new.err) c.args.self.now.fault.now c.tell_fault.new.term.error c.args.self.now.refused)
            c.tell_fault.ensures.told.0 c.if-is_memory.ensures c.if-self.true c.if-is_run.ensures c.tell_fault.ensures.told.1
            (tells_line (manner_of c.args.self.now.log_group c.args.self.now.term.now) c.tell_fault.ensures.told.0 (state (g.C.Caller.calls c.perform.new.caller) (streams g.O.Sink g.E.Sink c.perform.new.screen.out.now c.perform.new.screen.err.now) c.args.self.now.fault.now c.args.self.now.term.now.error c.args.self.now.refused)
            (streams g.O.Sink g.E.Sink c.perform.new.screen.out.now c.tell_fault.new.err) c.tell_fault.new.term.error (ap (λ term. term.error) c.tell_fault.ensures.noted)
            (c.tell_fault.ensures.told.2, refl)),
      ),
)

pub returns-else-self : goal.returns-else-self
returns-else-self g c = (
  refl,
  refl,
  refl,
  refl,
  refl,
  refl,
  refl,
  refl,
  c.in-Err.ensures.course,
  one_step g.C.Caller.tells c.args.self.now.keep_going (manner_of c.args.self.now.log_group c.args.self.now.term.now) c.args.plan.now (record { step = c.args.step; outcome = Failed }) (Err c.in-Err.fault) (scene_of g.C.Caller g.O.Sink g.E.Sink c.perform.new.caller c.perform.new.screen)
      (state (g.C.Caller.calls c.args.self.now.caller.now) (streams g.O.Sink g.E.Sink c.args.self.now.out.now c.args.self.now.err.now) c.args.self.now.fault.now c.args.self.now.term.now.error c.args.self.now.refused)
      (state (g.C.Caller.calls c.perform.new.caller) (streams g.O.Sink g.E.Sink c.perform.new.screen.out.now c.perform.new.screen.err.now) (Some c.in-Err.fault) c.args.self.now.term.now.error c.args.self.now.refused)
      c.in-Err.ensures.does (
        refl,
        kept_fault c.args.self.now.keep_going (manner_of c.args.self.now.log_group c.args.self.now.term.now) c.args.step c.in-Err.fault
            (state (g.C.Caller.calls c.perform.new.caller) (streams g.O.Sink g.E.Sink c.perform.new.screen.out.now c.perform.new.screen.err.now) c.args.self.now.fault.now c.args.self.now.term.now.error c.args.self.now.refused)
            (state (g.C.Caller.calls c.perform.new.caller) (streams g.O.Sink g.E.Sink c.perform.new.screen.out.now c.perform.new.screen.err.now) (Some c.in-Err.fault) c.args.self.now.term.now.error c.args.self.now.refused)
            c.if-is_memory.ensures
            (elim c.else-self.branch [ else-self-via-then-self+else-is_run w ↦ and_not _ _ (sym w.if-is_run.ensures) | else-self-via-else-self w ↦ not_and _ _ w.if-self.false ]) refl,
      ),
)
