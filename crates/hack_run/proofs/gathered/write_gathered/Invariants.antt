use Rattle.std.proofs.Common.{length}
use Rattle.std.specs.Io.KnownBytes.{Keeps, append_known}
use Rattle.hack_base.specs.Writes.{NoFewer}
use Rattle.hack_run.specs.InternalExtensions.{Extends}
use Rattle.hack_run.proofs.gathered.write_gathered.Given as goal

abbrev pub invariant-loop-out : goal.invariant-loop-out
invariant-loop-out g l =
    Keeps (append_known (g.O.Sink.contents l.fn.out) l.fn.gathered.items) (append_known (g.O.Sink.contents l.out) l.gathered.items)
    × Extends (g.O.Sink.contents l.fn.out) (g.O.Sink.contents l.out)
    × NoFewer (g.O.Sink.failed l.fn.out) (g.O.Sink.failed l.out)

abbrev pub decreases-loop-out : goal.decreases-loop-out
decreases-loop-out g l = length l.gathered.items
