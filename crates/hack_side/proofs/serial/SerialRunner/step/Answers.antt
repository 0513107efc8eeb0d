use Rattle.std.proofs.Common.{◌≡◌, [], ◌∷◌, None, refl, sym, ap, ◌∙◌}
use Rattle.hack_lanes.specs.Lanes.{Scene, Turn}
use Rattle.hack_side.specs.Turns.{IsAtTurn, IsSerial}
use Rattle.hack_side.proofs.StepLemmas.{does_turned, ran_step}
use Rattle.hack_side.proofs.serial.SerialRunner.step.Goals as goal

pub returns : goal.returns
returns g c =
    let old = c.args.self.now.starter in
    let new = c.step-outcome.new.self in
    let ran = c.step-outcome.ensures in
    let scene = g.L.Turns.scene in
    let mid = c.take_turn.new.self in
    let went = g.met.L.Turns.goes mid new.caller.now ran.8 in
    let is_turn : (scene mid).turn ≡ record (scene old.caller.now).turn { place = None; offers = [] } = ap (λ (s : Scene g.L.Turns.Below). s.turn) c.take_turn.ensures.scene in
    let is_at : IsAtTurn (scene old.caller.now) (scene mid) = (c.take_turn.ensures.scene ∙ ap (λ (t : Turn). record (scene old.caller.now) { turn = t }) (sym is_turn), ap (λ (t : Turn). t.layout) is_turn) in
    let serial : IsSerial (scene mid).turn = (ap (λ (t : Turn). t.place) is_turn, ap (λ (t : Turn). t.offers) is_turn) in (
      g.L.Turns.stays_more old.caller.now new.caller.now c.take_turn-2.new.self (g.L.Turns.stays_more old.caller.now mid new.caller.now c.take_turn.ensures.stays went.0) c.take_turn-2.ensures.stays,
      (
        scene c.take_turn-2.new.self,
        ran_step g.L.Turns.did IsSerial (scene old.caller.now) (scene mid) (scene new.caller.now) (scene c.take_turn-2.new.self) is_at serial went.1 c.take_turn-2.ensures.scene,
        refl,
      ),
      (
        ran.0,
        ran.1,
        ran.2,
        ran.3,
        ran.4,
        ran.5,
        ran.6,
        ran.7,
        does_turned g.L.Caller.tells g.L.Caller.calls g.O.Sink g.E.Sink c.args.plan.now (record { step = c.args.step; outcome = c.step-outcome.result } ∷ []) old new mid c.take_turn-2.new.self
            c.take_turn.ensures.calls c.take_turn-2.ensures.calls ran.9,
      ),
    )
