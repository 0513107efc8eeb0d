use Rattle.std.proofs.Common.{ℕ, List, Bool, ◌<◌, get_or}
use Rattle.hack_samples.specs.Sets.{rows_of}
use Rattle.hack_samples.specs.Order.{IsMaskBefore}
use Rattle.hack_samples.proofs.order.place_of.Given as goal

abbrev pub invariant-loop-place : goal.invariant-loop-place
invariant-loop-place l = (k : ℕ) (d : List Bool) → k < l.place → IsMaskBefore (get_or (rows_of l.sets) k d) l.set
