use Rattle.std.proofs.Common.{◌∙◌, ap, inl, refl, subst, ℕ, List}
use Rattle.std.specs.Prelude.{not}
use Rattle.hack_base.specs.Names.{Name, names_of, optional_text}
use Rattle.hack_base.proofs.StreamLemmas.{wrote}
use Rattle.hack_base.specs.Streams.{WritesText, stream_of}
use Rattle.hack_run.specs.CallTrace.{colored_by}
use Rattle.hack_files.specs.View.{files_view}
use Rattle.hack_run.specs.Worlds.{IsStatus, host_view}
use Rattle.hack_recovery.specs.declared.started.StartFault.TheVariants.{Memory}
use Rattle.hack_term.specs.Lines.{error_line}
use Rattle.hack_term.specs.declared.term.Term.{Term}
use Rattle.hack_words.specs.AskedColoring.{AsksColoring}
use Rattle.hack_words.specs.declared.cli.env.Env.{Env}
use Rattle.hack_recovery.specs.ProgramCalls.{colored, scene_outside}
use Rattle.hack_recovery.specs.ProgramCalls.IsProgramCall.{performed, unread}
use Rattle.hack_session.specs.StepOutput.{streams}
use Rattle.hack_recovery.specs.Scenes.{scene_with}
use Rattle.hack_recovery.proofs.CallLemmas.{course-known, same_streams}
use Rattle.hack_recovery.proofs.LaneLemmas.{lanes_known}
use Rattle.hack_recovery.specs.LaneCalls.{AreItsPlaces, read, unread as not_read}
use Rattle.hack_recovery.proofs.call.call.Goals as goal

pub returns-in-Err-clause-goes : goal.returns-in-Err-clause-goes
returns-in-Err-clause-goes g c =
    let coloring = c.of-came.new.coloring in
    let old = scene_outside g.F.Files g.L.Files g.U.Unkept g.C.Caller g.O.Sink g.E.Sink c.args.files c.args.lockfiles c.args.unkept (g.K.Locks.shown c.args.keepers.now.locks) (g.G.Guards.shown c.args.keepers.now.guards) c.args.outside.now in
    unread c.in-Err.fault coloring c.in-Err.ensures.started c.in-Err.ensures.coloring
    (subst (λ (text : List ℕ). WritesText (error_line coloring text) (stream_of g.E.Sink c.args.outside.now.err.now) (stream_of g.E.Sink c.error.new.out)) c.text.ensures (wrote g.E.Sink _ _ _ c.error.result c.error.ensures.line c.error.ensures.front c.error.ensures.counted))
    (ap (λ (t : Term). scene_with old.files t (stream_of g.E.Sink c.error.new.out) old) c.error.ensures.noted) refl

pub returns-in-Err-coloring_asked-clause-goes : goal.returns-in-Err-coloring_asked-clause-goes
returns-in-Err-coloring_asked-clause-goes g c =
    let coloring = c.of-came.new.coloring in
    let old = scene_outside g.F.Files g.L.Files g.U.Unkept g.C.Caller g.O.Sink g.E.Sink c.args.files c.args.lockfiles c.args.unkept (g.K.Locks.shown c.args.keepers.now.locks) (g.G.Guards.shown c.args.keepers.now.guards) c.args.outside.now in
    unread Memory coloring tt (λ i. inl (c.in-Ok.ensures.coloring i))
    (subst (λ (text : List ℕ). WritesText (error_line coloring text) (stream_of g.E.Sink c.args.outside.now.err.now) (stream_of g.E.Sink c.error-in-Err-coloring_asked.new.out)) c.text-in-Err-coloring_asked.ensures
    (wrote g.E.Sink _ _ _ c.error-in-Err-coloring_asked.result c.error-in-Err-coloring_asked.ensures.line c.error-in-Err-coloring_asked.ensures.front c.error-in-Err-coloring_asked.ensures.counted))
    (ap (λ (t : Term). scene_with old.files t (stream_of g.E.Sink c.error-in-Err-coloring_asked.new.out) old) c.error-in-Err-coloring_asked.ensures.noted) refl

pub returns-clause-goes : goal.returns-clause-goes
returns-clause-goes g c =
    let coloring = c.of-came.new.coloring in
    let asked = c.in-Ok-coloring_asked.asked in
    let words = names_of c.in-Ok.started.words.items in
    let calls = g.C.Caller.calls in
    let contents = g.O.Sink.contents in
    let host = c.new-host.result in
    let outside = c.args.outside.now in
    performed c.in-Ok.started coloring asked c.in-Ok.ensures.started c.in-Ok.ensures.coloring
    (subst (λ (ws : List Name). AsksColoring (optional_text c.in-Ok.started.env.term_color) ws asked) (ap names_of c.deref.ensures.value) c.in-Ok-coloring_asked.ensures)
    (subst (λ (e : Env). IsStatus e.deny_warnings (host_view g.C.Caller g.O.Sink c.perform-ended.new.host) c.perform-ended.result.0) c.new-host.ensures.env c.perform-ended.ensures.status)
    (course-known g.F.Files g.L.Files g.U.Unkept _ g.C.Caller.tells g.K.Locks.tells g.G.Guards.tells (g.K.Locks.real c.args.keepers.now.locks) (names_of c.deref-2.result.now) words host.env.now c.in-Ok.started.env
    (files_view g.F.Files c.args.files) (files_view g.L.Files c.args.lockfiles) (g.U.Unkept.told c.args.unkept) (g.K.Locks.shown c.args.keepers.now.locks) (g.G.Guards.shown c.args.keepers.now.guards) (calls host.caller.now) (calls outside.caller.now) (contents host.out.now) (contents outside.out.now) host.term.now (colored (colored_by asked coloring) outside.term.now) outside.fails
    (streams g.O.Sink g.E.Sink host.out.now host.err.now) (streams g.O.Sink g.E.Sink outside.out.now outside.err.now)
    _ (ap names_of c.deref-2.ensures.value) c.new-host.ensures.env (ap calls c.new-host.ensures.caller.1) (ap contents c.new-host.ensures.out.1) (c.new-host.ensures.term.1 ∙ c.color.ensures)
    (same_streams g.O.Sink g.E.Sink host.out.now outside.out.now host.err.now outside.err.now c.new-host.ensures.out.1 c.new-host.ensures.err.1) c.perform-ended.ensures.goes)

pub returns-in-Err-clause-in_lanes : goal.returns-in-Err-clause-in_lanes
returns-in-Err-clause-in_lanes g c = not_read (ap (λ (t : Term). not t.error) c.error.ensures.noted) refl

pub returns-in-Err-coloring_asked-clause-in_lanes : goal.returns-in-Err-coloring_asked-clause-in_lanes
returns-in-Err-coloring_asked-clause-in_lanes g c = not_read (ap (λ (t : Term). not t.error) c.error-in-Err-coloring_asked.ensures.noted) refl

pub returns-clause-in_lanes : goal.returns-clause-in_lanes
returns-clause-in_lanes g c =
    read c.in-Ok.started c.in-Ok.ensures.started
    (lanes_known g.C.Starts.did g.C.Caller.course g.C.Caller.tells g.C.Caller.calls g.F.Files g.L.Files
    (λ (words : List Name) (env : Env). AreItsPlaces g.F.Files.tells g.K.Locks.tells (g.K.Locks.real c.args.keepers.now.locks) words env (files_view g.F.Files c.args.files)) (names_of c.deref-2.result.now) (names_of c.in-Ok.started.words.items) c.new-host.result.env.now c.in-Ok.started.env _ _ c.new-host.result.caller.now c.args.outside.now.caller.now _
    (ap names_of c.deref-2.ensures.value) c.new-host.ensures.env c.new-host.ensures.caller.1 c.perform-ended.ensures.in_lanes)
