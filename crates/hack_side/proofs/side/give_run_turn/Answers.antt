use Rattle.std.proofs.Common.{arith, refl, ap, subst, sym}
use Rattle.hack_lanes.specs.Lanes.{Scene, Turn}
use Rattle.hack_session.specs.declared.step.Step.TheVariants.{Run}
use Rattle.hack_side.specs.Turns.{IsTurnFor}
use Rattle.hack_side.proofs.side.give_run_turn.Goals as goal

pub returns-clause-fits : goal.returns-clause-fits
returns-clause-fits g c =
    subst (λ (t : Turn). IsTurnFor c.args.piece c.args.plan.now (Run c.args.place) t) (sym (ap (λ (s : Scene g.L.Turns.Below). s.turn) c.give_turn.ensures.scene))
    (λ few. absurd (omega (arith, few, c.width.ensures, c.if-width-le1.false)), λ many. (refl, c.offers-offers.ensures))
