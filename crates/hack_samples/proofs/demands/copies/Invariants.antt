use Rattle.std.proofs.Common.{◌≡◌, take, List, Bool}
use Rattle.hack_samples.specs.Sets.{rows_of, has_each}
use Rattle.hack_samples.proofs.demands.copies.Given as goal

abbrev pub invariant-loop-group : goal.invariant-loop-group
invariant-loop-group l = (s : List Bool) → has_each s (rows_of l.copies.items) ≡ has_each s (rows_of (take l.group-index l.groups))
