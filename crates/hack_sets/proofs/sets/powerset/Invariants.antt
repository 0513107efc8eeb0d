use Rattle.std.proofs.Common.{◌≡◌, map}
use Rattle.hack_sets.specs.Sets.{items_at}
use Rattle.hack_samples.specs.Sets.{rows_of}
use Rattle.hack_sets.proofs.Listing.{sets_below}
use Rattle.hack_sets.proofs.sets.powerset.Given as goal

abbrev pub invariant-loop-item : goal.invariant-loop-item
invariant-loop-item g l = rows_of l.lists.items ≡ map (items_at l.items) (sets_below l.depth l.item-index)
