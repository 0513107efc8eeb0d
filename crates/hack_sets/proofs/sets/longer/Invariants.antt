use Rattle.std.proofs.Common.{◌≡◌, take}
use Rattle.hack_sets.specs.InternalSets.{with_each}
use Rattle.hack_samples.specs.Sets.{rows_of}
use Rattle.hack_sets.proofs.sets.longer.Given as goal

abbrev pub invariant-loop-list : goal.invariant-loop-list
invariant-loop-list g l = rows_of l.more.items ≡ with_each l.depth l.item (take l.list-index (rows_of l.lists))
