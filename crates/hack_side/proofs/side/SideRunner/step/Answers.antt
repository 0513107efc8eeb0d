use Rattle.std.proofs.Common.{[], ◌∷◌, refl}
use Rattle.hack_side.specs.Turns.{IsTurnFor}
use Rattle.hack_side.proofs.StepLemmas.{does_turned, ran_step}
use Rattle.hack_side.proofs.side.SideRunner.step.Goals as goal

pub returns : goal.returns
returns g c =
    let old = c.args.self.now.starter in
    let new = c.step-outcome.new.self in
    let ran = c.step-outcome.ensures in
    let went = g.met.L.Turns.goes c.give_turn.new.lanes new.caller.now ran.8 in
    let scene = g.L.Turns.scene in (
      refl,
      g.L.Turns.stays_more old.caller.now new.caller.now c.take_turn.new.self (g.L.Turns.stays_more old.caller.now c.give_turn.new.lanes new.caller.now c.give_turn.ensures.stays went.0) c.take_turn.ensures.stays,
      (
        scene c.take_turn.new.self,
        ran_step g.L.Turns.did (IsTurnFor c.args.self.now.piece c.args.plan.now c.args.step) (scene old.caller.now) (scene c.give_turn.new.lanes) (scene new.caller.now) (scene c.take_turn.new.self) c.give_turn.ensures.scene c.give_turn.ensures.fits went.1 c.take_turn.ensures.scene,
        refl,
      ),
      (
        ran.0,
        ran.1,
        ran.2,
        ran.3,
        ran.4,
        ran.5,
        ran.6,
        ran.7,
        does_turned g.L.Caller.tells g.L.Caller.calls g.O.Sink g.E.Sink c.args.plan.now (record { step = c.args.step; outcome = c.step-outcome.result } ∷ []) old new c.give_turn.new.lanes c.take_turn.new.self
            c.give_turn.ensures.calls c.take_turn.ensures.calls ran.9,
      ),
    )
