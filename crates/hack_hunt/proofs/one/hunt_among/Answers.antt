use Rattle.std.proofs.Common.{inr, refl}
use Rattle.std.proofs.lemmas.Result.{IfErr-weaker, IfOk-weaker}
use Rattle.hack_hunt.proofs.one.hunt_among.Goals as goal

pub returns-clause-hunted : goal.returns-clause-hunted
returns-clause-hunted g c =
    let made = c.in_ok-closures.ensures in
    IfOk-weaker c.hunt_aim.result _ _ (λ hunted h. (
      _,
      h.0,
      record { slot = refl; member = refl; rules = record { choice = made.choice; alone = made.alone; all = made.all; enabling = made.enabling; listed = made.listed; empty = made.empty; with_all = made.with_all; plain = refl } },
      h.1,
      h.2,
      h.3,
    )) c.hunt_aim.ensures.hunted

pub returns-clause-fault : goal.returns-clause-fault
returns-clause-fault g c =
    let made = c.in_ok-closures.ensures in
    IfErr-weaker c.hunt_aim.result _ _ (λ why h. inr (
      _,
      record { slot = refl; member = refl; rules = record { choice = made.choice; alone = made.alone; all = made.all; enabling = made.enabling; listed = made.listed; empty = made.empty; with_all = made.with_all; plain = refl } },
      h,
    )) c.hunt_aim.ensures.fault
