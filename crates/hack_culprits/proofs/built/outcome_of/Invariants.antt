use Rattle.std.proofs.Common.{◌≢◌, Bool, All, take}
use Rattle.hack_culprits.specs.Built.{run_for}
use Rattle.hack_culprits.specs.Internal.{made_in}
use Rattle.hack_culprits.proofs.built.outcome_of.Given as goal

-- the builds so far are others
abbrev pub invariant-loop-one : goal.invariant-loop-one
invariant-loop-one l = (plain : Bool) → All (λ m. m.run ≢ run_for plain l.build) (made_in plain (take l.one-index l.built))
