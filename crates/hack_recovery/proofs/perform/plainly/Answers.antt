use Rattle.hack_base.specs.Streams.{stream_of}
use Rattle.hack_recovery.proofs.perform.plainly.Goals as goal

pub returns-clause-runs : goal.returns-clause-runs
returns-clause-runs g c = λ off. (c.tell_standing.new.term, stream_of g.E.Sink c.tell_standing.new.err, c.tell_standing.ensures, c.unjournaled.ensures.runs)

pub returns-clause-in_lanes : goal.returns-clause-in_lanes
returns-clause-in_lanes g c = λ off. c.unjournaled.ensures.in_lanes
