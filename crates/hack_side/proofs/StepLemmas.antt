-- A step with its turn.
use Rattle.std.proofs.Common.{◌≡◌, List, [], None, refl, sym, ◌∙◌, ap, subst}
use Rattle.hack_process.specs.Calls.{Call}
use Rattle.hack_plan.specs.View.{PlanView}
use Rattle.hack_session.specs.declared.step.Handed.{Handed}
use Rattle.hack_session.specs.declared.starter.Starter.{Starter}
use Rattle.hack_session.specs.StepEffects.{DoesAll, State as Seen, state}
use Rattle.hack_session.specs.StepOutput.{manner_of, streams}
use Rattle.hack_base.specs.declared.writes.Sink.{Ghosts as Taking}
use Rattle.hack_starts.specs.Events.{Event}
use Rattle.hack_lanes.specs.Lanes.{State, Turn, Follows, Scene, Goes}
use Rattle.hack_side.specs.Turns.{IsAtTurn, RunsAt}

-- the state of a starter after these calls
abbrev pub state_by : {C O E : Type 0} → Taking O → Taking E → List Call → Starter C O E → Seen
state_by o e calls s = state calls (streams o e s.out.now s.err.now) s.fault.now s.term.now.error s.refused

-- a turn was given, something happened at it, and it was taken back
pub ran_step : {S : Type 0} (did : List Event → S → S → Type 0) (Fits : Turn → Type 0) (old given came new : Scene S)
    → IsAtTurn old given → Fits given.turn → ((told : List Call) × Goes did told given came)
    → new ≡ record came { turn = record came.turn { place = None; offers = [] } } → RunsAt did Fits old new
ran_step {S} did Fits old given came new at fits went taken = record {
  turn = given.turn;
  fits = fits;
  layout = at.1;
  told = went.0;
  goes = record {
    events = went.1.events;
    did_them = subst (λ (s : S). did went.1.events s new.starts) (ap (λ (s : Scene S). s.starts) at.0) (subst (λ (s : S). did went.1.events given.starts s) (sym (ap (λ (s : Scene S). s.starts) taken)) went.1.did_them);
    follows = subst (λ (s : State). Follows given.turn s went.1.events new.state) (ap (λ (s : Scene S). s.state) at.0) (subst (λ (s : State). Follows given.turn given.state went.1.events s) (sym (ap (λ (s : Scene S). s.state) taken)) went.1.follows);
    calls = went.1.calls;
    turn = refl;
  };
  over = ap (λ (s : Scene S). s.turn) taken ∙ ap (λ (t : Turn). record t { place = None; offers = [] }) went.1.turn;
}

-- steps at a turn made no other calls than the steps
pub does_turned : {C O E : Type 0} (tells : Type 0) (calls : C → List Call) (o : Taking O) (e : Taking E) (plan : PlanView) (steps : List Handed) (old new : Starter C O E) (given left : C)
    → calls given ≡ calls old.caller.now → calls left ≡ calls new.caller.now
    → DoesAll tells old.keep_going (manner_of old.log_group old.term.now) plan steps (state_by o e (calls given) old) (state_by o e (calls new.caller.now) new)
    → DoesAll tells old.keep_going (manner_of old.log_group old.term.now) plan steps (state_by o e (calls old.caller.now) old) (state_by o e (calls left) new)
does_turned {C} tells calls o e plan steps old new given left at_first at_last h =
    let keep = old.keep_going in
    let m = manner_of old.log_group old.term.now in
    subst (λ (l : List Call). DoesAll tells keep m plan steps (state_by o e l old) (state_by o e (calls left) new)) at_first
    (subst (λ (l : List Call). DoesAll tells keep m plan steps (state_by o e (calls given) old) (state_by o e l new)) (sym at_last) h)
