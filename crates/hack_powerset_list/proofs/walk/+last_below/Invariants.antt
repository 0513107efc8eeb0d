use Rattle.std.proofs.Common.{◌≡◌, ◌≤◌}
use Rattle.hack_features.specs.View.{may_of, size_of, whole_of}
use Rattle.hack_powerset_list.specs.Room.{set_in, most_in}
use Rattle.hack_powerset_list.specs.Walks.{listed_below}
use Rattle.hack_powerset_list.proofs.walk.+last_below.Given as goal

abbrev pub decreases-last_below : goal.decreases-last_below
decreases-last_below l = l.limit

abbrev pub invariant-loop-p : goal.invariant-loop-p
invariant-loop-p l = record {
  inside : l.p ≤ l.limit;
  kept : set_in l.room ≡ set_in l.fn.room;
  room : most_in l.room ≡ most_in l.fn.room;
  same_size : size_of l.rules ≡ size_of l.fn.rules;
  same_may : may_of l.rules ≡ may_of l.fn.rules;
  same_whole : whole_of l.rules ≡ whole_of l.fn.rules;
  none : listed_below l.fn.rules l.limit (set_in l.fn.room) ≡ listed_below l.fn.rules l.p (set_in l.fn.room);
}

abbrev pub decreases-loop-p : goal.decreases-loop-p
decreases-loop-p l = l.p
