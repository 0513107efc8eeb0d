use Rattle.std.proofs.Common.{arith}
use Rattle.std.proofs.lemmas.Bool.{false≢true}
use Rattle.hack_conflicts.specs.Sets.{rows_of, IsWithin}
use Rattle.hack_conflicts.proofs.SetLemmas.{no_set, length-rows}
use Rattle.hack_conflicts.proofs.sets.is_inside.Goals as goal

pub returns : goal.returns
returns c = (
  λ e. absurd (false≢true e),
  λ (t, there, within).
      absurd (no_set (λ s. IsWithin c.args.set.now s) (rows_of c.args.sets.now) c.loop-place.place (omega (arith, length-rows c.args.sets.now)) c.loop-place.invariant t there within),
)
