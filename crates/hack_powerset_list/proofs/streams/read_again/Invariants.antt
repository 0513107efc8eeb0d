use Rattle.std.proofs.Common.{◌<◌}
use Rattle.std.specs.Io.KnownBytes.{Keeps}
use Rattle.hack_base.specs.Writes.{HasFailed, NoFewer}
use Rattle.hack_powerset_list.proofs.streams.read_again.Given as goal

-- nothing was read so far, and each try so far counted a failure
abbrev pub invariant-loop : goal.invariant-loop
invariant-loop g l = Keeps (g.R.Source.remaining l.fn.source) (g.R.Source.remaining l.source) × NoFewer (g.R.Source.failed l.fn.source) (g.R.Source.failed l.source) × (0 < l.counter → HasFailed (g.R.Source.failed l.fn.source) (g.R.Source.failed l.source))
