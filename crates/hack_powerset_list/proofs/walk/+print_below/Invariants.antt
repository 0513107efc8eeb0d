use Rattle.std.proofs.Common.{◌≡◌, map, filter, string_bytes}
use Rattle.hack_base.specs.Writes.{NoFewer}
use Rattle.hack_features.specs.Feature.{name_of}
use Rattle.hack_features.specs.View.{may_of, size_of, whole_of}
use Rattle.hack_powerset_list.specs.LineWords.{PrintsText}
use Rattle.hack_powerset_list.specs.Room.{set_in, most_in}
use Rattle.hack_sets.specs.Walk.{below}
use Rattle.hack_powerset_list.specs.Walks.{is_other, set_lines}
use Rattle.hack_powerset_list.proofs.walk.+print_below.Given as goal

abbrev pub decreases-print_below : goal.decreases-print_below
decreases-print_below g l = l.end.limit

abbrev pub invariant-loop-p : goal.invariant-loop-p
invariant-loop-p g l = record {
  printed : PrintsText (g.W.Sink.contents l.fn.out) (g.W.Sink.contents l.out) (string_bytes l.fn.page) (string_bytes l.page)
      (set_lines (map name_of l.lines.features.now) (filter (is_other l.fn.rules l.lines.last.now) (below (may_of l.fn.rules) l.p (set_in l.fn.room))));
  count : NoFewer (g.W.Sink.failed l.fn.out) (g.W.Sink.failed l.out);
  kept : set_in l.room ≡ set_in l.fn.room;
  room : most_in l.room ≡ most_in l.fn.room;
  same_size : size_of l.rules ≡ size_of l.fn.rules;
  same_may : may_of l.rules ≡ may_of l.fn.rules;
  same_whole : whole_of l.rules ≡ whole_of l.fn.rules;
}
