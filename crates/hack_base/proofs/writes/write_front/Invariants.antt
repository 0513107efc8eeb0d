use Rattle.std.proofs.Common.{◌≡◌, ℕ, List, ◌++◌, length}
use Rattle.std.specs.Io.KnownBytes.{Appends}
use Rattle.hack_base.specs.Writes.{NoFewer}
use Rattle.hack_base.proofs.writes.write_front.Given as goal

abbrev pub invariant-loop-rest : goal.invariant-loop-rest
invariant-loop-rest g l = (done : List ℕ) × (l.text ≡ done ++ l.rest) × Appends (g.W.Sink.contents l.fn.out) (g.W.Sink.contents l.out) done × NoFewer (g.W.Sink.failed l.fn.out) (g.W.Sink.failed l.out)

abbrev pub decreases-loop-rest : goal.decreases-loop-rest
decreases-loop-rest g l = length l.rest
