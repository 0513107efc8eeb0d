use Rattle.hack_base.specs.Streams.{stream_of}
use Rattle.hack_recovery.proofs.unseen.blindly.Goals as goal

pub returns-clause-runs : goal.returns-clause-runs
returns-clause-runs g c = λ off. (
  stream_of g.E.Sink c.warn.new.err,
  (stream_of g.E.Sink c.tell_reason.new.err, c.tell_reason.ensures, c.warn.ensures.said),
  λ lockfiles unkept locks guards. rw c.warn.ensures.noted at (c.unjournaled.ensures.runs lockfiles unkept locks guards),
)

pub returns-clause-in_lanes : goal.returns-clause-in_lanes
returns-clause-in_lanes g c = λ off. c.unjournaled.ensures.in_lanes

pub returns-then-is_change-clause-said : goal.returns-then-is_change-clause-said
returns-then-is_change-clause-said g c = λ on. (stream_of g.E.Sink c.tell_reason.new.err, c.tell_reason.ensures, c.refuse.ensures.said)
