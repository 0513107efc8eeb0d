use Rattle.std.proofs.Common.{[], None, ap, false, inl, refl}
use Rattle.std.specs.Prelude.{Err, Ok, not}
use Rattle.hack_base.specs.Streams.{stream_of}
use Rattle.hack_journal.specs.Rows.{Spot}
use Rattle.hack_places.specs.PlacesView.{places_view}
use Rattle.hack_term.specs.declared.term.Term.{Term}
use Rattle.hack_recovery.specs.CallCourses.CopiesAndRuns.{copied, starved, uncopied}
use Rattle.hack_recovery.specs.GuardEvents.{GuardsView}
use Rattle.hack_recovery.specs.LaneCalls.{over_journal, unperformed}
use Rattle.hack_recovery.specs.LockEvents.{LocksView}
use Rattle.hack_recovery.specs.Ready.GetReady.{copied as ready}
use Rattle.hack_recovery.specs.Restoring.{KeepsCopy}
use Rattle.hack_recovery.specs.Scenes.{Scene, scene_of, scene_with}
use Rattle.hack_recovery.proofs.perform.copied.Goals as goal

pub returns-in-Ok-true-clause-goes : goal.returns-in-Ok-true-clause-goes
returns-in-Ok-true-clause-goes g c = λ locks guards.
    let old : Scene = scene_of g.F.Files g.L.Files g.U.Unkept g.C.Caller g.O.Sink g.E.Sink c.args.files c.args.lockfiles c.args.unkept locks guards c.args.host.now in
    let mid : Scene = scene_of g.F.Files g.L.Files g.U.Unkept g.C.Caller g.O.Sink g.E.Sink c.keep_copy.new.files c.keep_copy.new.lockfiles c.args.unkept locks guards c.args.host.now in
    let at : Scene = scene_with mid.files c.keep_copy.new.term (stream_of g.E.Sink c.keep_copy.new.err) mid in
    let kept : KeepsCopy g.F.Files g.L.Files (places_view c.args.begun.places) (Ok c.in-Ok-true.field-0) old at =
    record { copied = c.in-Ok-true.ensures.copied; others = c.in-Ok-true.ensures.others; made = c.in-Ok-true.ensures.made; undone = c.in-Ok-true.ensures.undone; same = record { same = c.in-Ok-true.ensures.same; untraced = c.in-Ok-true.ensures.untraced }; told = c.in-Ok-true.ensures.told; ends = c.in-Ok-true.ensures.ends; quiet = record { calls = refl; out = refl; stdout = refl; fails = refl; unkept = refl; locks = refl; guards = refl } } in
    copied at (rw c.in-Ok-true.field-0-test at kept) (c.over_journal.ensures.goes locks guards)

pub returns-in-Ok-false-clause-goes : goal.returns-in-Ok-false-clause-goes
returns-in-Ok-false-clause-goes g c = λ locks guards.
    let old : Scene = scene_of g.F.Files g.L.Files g.U.Unkept g.C.Caller g.O.Sink g.E.Sink c.args.files c.args.lockfiles c.args.unkept locks guards c.args.host.now in
    let mid : Scene = scene_of g.F.Files g.L.Files g.U.Unkept g.C.Caller g.O.Sink g.E.Sink c.keep_copy.new.files c.keep_copy.new.lockfiles c.args.unkept locks guards c.args.host.now in
    let at : Scene = scene_with mid.files c.keep_copy.new.term (stream_of g.E.Sink c.keep_copy.new.err) mid in
    let kept : KeepsCopy g.F.Files g.L.Files (places_view c.args.begun.places) (Ok c.in-Ok-false.field-0) old at =
    record { copied = c.in-Ok-false.ensures.copied; others = c.in-Ok-false.ensures.others; made = c.in-Ok-false.ensures.made; undone = c.in-Ok-false.ensures.undone; same = record { same = c.in-Ok-false.ensures.same; untraced = c.in-Ok-false.ensures.untraced }; told = c.in-Ok-false.ensures.told; ends = c.in-Ok-false.ensures.ends; quiet = record { calls = refl; out = refl; stdout = refl; fails = refl; unkept = refl; locks = refl; guards = refl } } in
    uncopied (rw c.in-Ok-false.field-0-test at kept)

pub returns-in-Err-clause-goes : goal.returns-in-Err-clause-goes
returns-in-Err-clause-goes g c = λ locks guards.
    let old : Scene = scene_of g.F.Files g.L.Files g.U.Unkept g.C.Caller g.O.Sink g.E.Sink c.args.files c.args.lockfiles c.args.unkept locks guards c.args.host.now in
    let mid : Scene = scene_of g.F.Files g.L.Files g.U.Unkept g.C.Caller g.O.Sink g.E.Sink c.keep_copy.new.files c.keep_copy.new.lockfiles c.args.unkept locks guards c.args.host.now in
    let at : Scene = scene_with mid.files c.keep_copy.new.term (stream_of g.E.Sink c.keep_copy.new.err) mid in
    let kept : KeepsCopy g.F.Files g.L.Files (places_view c.args.begun.places) (Err c.in-Err.fault) old at =
    record { copied = c.in-Err.ensures.copied; others = c.in-Err.ensures.others; made = c.in-Err.ensures.made; undone = c.in-Err.ensures.undone; same = record { same = c.in-Err.ensures.same; untraced = c.in-Err.ensures.untraced }; told = c.in-Err.ensures.told; ends = c.in-Err.ensures.ends; quiet = record { calls = refl; out = refl; stdout = refl; fails = refl; unkept = refl; locks = refl; guards = refl } } in
    starved at c.in-Err.fault kept (c.report.ensures.refuses at.files at.lockfiles at.unkept locks guards)

pub returns-in-Ok-true-clause-in_lanes : goal.returns-in-Ok-true-clause-in_lanes
returns-in-Ok-true-clause-in_lanes g c =
    let locks : LocksView = record { takings = []; is_held = false } in
    let guards : GuardsView = record { starts = []; is_watching = false; status = None } in
    let old : Scene = scene_of g.F.Files g.L.Files g.U.Unkept g.C.Caller g.O.Sink g.E.Sink c.args.files c.args.lockfiles c.args.unkept locks guards c.args.host.now in
    let mid : Scene = scene_of g.F.Files g.L.Files g.U.Unkept g.C.Caller g.O.Sink g.E.Sink c.keep_copy.new.files c.keep_copy.new.lockfiles c.args.unkept locks guards c.args.host.now in
    let at : Scene = scene_with mid.files c.keep_copy.new.term (stream_of g.E.Sink c.keep_copy.new.err) mid in
    let kept : KeepsCopy g.F.Files g.L.Files (places_view c.args.begun.places) (Ok c.in-Ok-true.field-0) old at =
    record { copied = c.in-Ok-true.ensures.copied; others = c.in-Ok-true.ensures.others; made = c.in-Ok-true.ensures.made; undone = c.in-Ok-true.ensures.undone; same = record { same = c.in-Ok-true.ensures.same; untraced = c.in-Ok-true.ensures.untraced }; told = c.in-Ok-true.ensures.told; ends = c.in-Ok-true.ensures.ends; quiet = record { calls = refl; out = refl; stdout = refl; fails = refl; unkept = refl; locks = refl; guards = refl } } in
    over_journal (at.files, at.lockfiles) (places_view c.args.begun.places) refl
    (ready (places_view c.args.begun.places) refl old at (rw c.in-Ok-true.field-0-test at kept) refl refl)
    (rw (ap (λ (s : Spot). s.journal) c.requires.place) at c.over_journal.ensures.in_lanes)

pub returns-in-Ok-false-clause-in_lanes : goal.returns-in-Ok-false-clause-in_lanes
returns-in-Ok-false-clause-in_lanes g c = unperformed (inl (ap (λ (t : Term). not t.error) (rw c.in-Ok-false.field-0-test at c.in-Ok-false.ensures.told))) refl

pub returns-in-Err-clause-in_lanes : goal.returns-in-Err-clause-in_lanes
returns-in-Err-clause-in_lanes g c = unperformed (inl (ap (λ (t : Term). not t.error) c.report.ensures.noted)) c.report.ensures.still.0
