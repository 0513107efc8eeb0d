use Rattle.std.proofs.Common.{ℕ, ◌<◌, [], get_or}
use Rattle.hack_conflicts.specs.Sets.{rows_of, IsWithin}
use Rattle.hack_conflicts.proofs.sets.first_inside.Given as goal

abbrev pub invariant-loop-place : goal.invariant-loop-place
invariant-loop-place l = (k : ℕ) → k < l.place → IsWithin (get_or (rows_of l.sets) k []) l.set → ⊥
