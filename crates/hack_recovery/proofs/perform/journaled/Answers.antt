use Rattle.std.proofs.Common.{ap, inl, refl}
use Rattle.std.specs.Prelude.{not}
use Rattle.hack_base.specs.Streams.{stream_of}
use Rattle.hack_files.specs.View.{files_view}
use Rattle.hack_term.specs.declared.term.Term.{Term}
use Rattle.hack_recovery.specs.CallCourses.IsJournaledCall.{performed, unwatched}
use Rattle.hack_recovery.specs.LaneCalls.{unperformed}
use Rattle.hack_recovery.specs.Scenes.{Scene, scene_of}
use Rattle.hack_recovery.proofs.perform.journaled.Goals as goal

pub returns-in-Ok-clause-goes : goal.returns-in-Ok-clause-goes
returns-in-Ok-clause-goes g c = λ locks.
    let guards = g.G.Guards.shown c.start.new.self in
    let ran : Scene = scene_of g.F.Files g.L.Files g.U.Unkept g.C.Caller g.O.Sink g.E.Sink c.copied-ended.result.1 c.copied-ended.result.2 c.copied-ended.result.3 locks guards c.copied-ended.new.host in
    performed c.in-Ok.watches c.copied-ended.result.0 guards (g.G.Guards.shown c.leave.new.self) (stream_of g.E.Sink c.tell_watch.new.err) ran
    (rw c.as_str.ensures.value at c.in-Ok.ensures.started) c.tell_watch.ensures (c.copied-ended.ensures.goes locks guards) c.copied-ended.ensures.status c.leave.ensures refl

pub returns-in-Err-clause-goes : goal.returns-in-Err-clause-goes
returns-in-Err-clause-goes g c = λ locks.
    unwatched (g.G.Guards.shown c.start.new.self) c.in-Err.ensures.refused
    (rw c.from.ensures at (c.report.ensures.refuses (files_view g.F.Files c.args.files) (files_view g.L.Files c.args.lockfiles) (g.U.Unkept.told c.args.unkept) locks (g.G.Guards.shown c.start.new.self)))

pub returns-in-Ok-clause-in_lanes : goal.returns-in-Ok-clause-in_lanes
returns-in-Ok-clause-in_lanes g c = c.copied-ended.ensures.in_lanes

pub returns-in-Err-clause-in_lanes : goal.returns-in-Err-clause-in_lanes
returns-in-Err-clause-in_lanes g c = unperformed (inl (ap (λ (t : Term). not t.error) c.report.ensures.noted)) c.report.ensures.still.0
