use Rattle.std.proofs.Common.{◌≡◌, ◌-◌, length}
use Rattle.hack_samples.specs.Sets.{rows_of}
use Rattle.hack_routes.specs.InternalPlaces.{AreMarked}
use Rattle.hack_routes.proofs.MarkLemmas.{Marking}
use Rattle.hack_routes.proofs.marks.mark_reached.Given as goal

abbrev pub invariant-loop-next : goal.invariant-loop-next
invariant-loop-next l = record {
  marked : AreMarked l.found.marks.items l.found.order.items;
  size : length l.found.marks.items ≡ length l.rows;
  marking : Marking (rows_of l.rows) l.start l.found.order.items l.next;
}

abbrev pub decreases-loop-next : goal.decreases-loop-next
decreases-loop-next l = length l.rows - l.next
