use Rattle.std.proofs.Common.{◌<◌, length}
use Rattle.std.specs.Io.KnownBytes.{Keeps}
use Rattle.hack_base.specs.Writes.{HasFailed, NoFewer}
use Rattle.hack_base.proofs.writes.put_again.Given as goal

-- nothing was taken so far, and each try so far counted a failure
abbrev pub invariant-loop : goal.invariant-loop
invariant-loop g l = Keeps (g.W.Sink.contents l.fn.out) (g.W.Sink.contents l.out) × NoFewer (g.W.Sink.failed l.fn.out) (g.W.Sink.failed l.out) × (0 < l.counter → 0 < length l.bytes → HasFailed (g.W.Sink.failed l.fn.out) (g.W.Sink.failed l.out))
