-- The ways of a call, step by step.
use Rattle.std.proofs.Common.{◌≡◌, true, false, Bool, IsTrue}
use Rattle.std.specs.Prelude.{◌≢◌, ◌↔◌, Ok, Result}
use Rattle.hack_term.specs.declared.term.Term.{Term}
use Rattle.hack_recovery.specs.declared.fault.CallFault.{CallFault}
use Rattle.hack_recovery.specs.Telling.{Tells}

-- where it is done, nothing was recorded
pub told_still : (was now : Term) (done : Bool) → done ≡ true → Tells was now (Ok done) → now ≡ was
told_still was now true on h = h
told_still was now false on h = cc

-- by a test of whether it is done
pub not_done : (r : Result Bool CallFault) (b : Bool) → (IsTrue b ↔ (r ≡ Ok true)) → b ≡ false → r ≢ Ok true
not_done r b h off = λ e. let on : IsTrue b = h.1 e in cc

pub done_true : (r : Result Bool CallFault) (b : Bool) → (IsTrue b ↔ (r ≡ Ok true)) → b ≡ true → r ≡ Ok true
done_true r b h on = h.0 on
