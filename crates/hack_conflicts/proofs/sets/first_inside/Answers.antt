use Rattle.std.proofs.Common.{arith}
use Rattle.hack_conflicts.specs.Sets.{rows_of, IsWithin}
use Rattle.hack_conflicts.proofs.SetLemmas.{no_set, length-rows}
use Rattle.hack_conflicts.proofs.sets.first_inside.Goals as goal

pub returns : goal.returns
returns c = λ (t, there, within).
    no_set (λ s. IsWithin s c.args.set.now) (rows_of c.args.sets.now) c.loop-place.place (omega (arith, length-rows c.args.sets.now)) c.loop-place.invariant t there within
