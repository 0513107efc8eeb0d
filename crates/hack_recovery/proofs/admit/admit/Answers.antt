use Rattle.std.proofs.Common.{◌∙◌, sym}
use Rattle.hack_recovery.specs.Admission.IsAdmitted.{asked}
use Rattle.hack_recovery.proofs.admit.admit.Goals as goal

pub returns : goal.returns
returns g c = asked c.in_ok-holder.holder (sym c.needs_lock.ensures ∙ c.if-not-needs_lock.false) c.in_ok-holder.ensures.taken c.decided.ensures
