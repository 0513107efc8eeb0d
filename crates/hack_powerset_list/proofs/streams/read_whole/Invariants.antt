use Rattle.std.proofs.Common.{◌<◌, ◌-◌, ◌^◌, length}
use Rattle.std.specs.Io.KnownBytes.{Consumes}
use Rattle.hack_base.specs.Writes.{NoFewer}
use Rattle.hack_powerset_list.proofs.streams.read_whole.Given as goal

-- what was read so far is what the source lost
abbrev pub invariant-loop-whole : goal.invariant-loop-whole
invariant-loop-whole g l = record {
  read : Consumes (g.R.Source.remaining l.fn.source) (g.R.Source.remaining l.source) l.whole.items;
  count : NoFewer (g.R.Source.failed l.fn.source) (g.R.Source.failed l.source);
  room : 0 < length l.room.items;
}

abbrev pub decreases-loop-whole : goal.decreases-loop-whole
decreases-loop-whole g l = 2 ^ 64 - length l.whole.items
