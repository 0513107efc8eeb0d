use Rattle.std.proofs.Common.{◌≡◌, ◌∙◌, true, ap, inl, inr, refl, string_bytes, subst, sym}
use Rattle.std.specs.Prelude.{not}
use Rattle.hack_base.specs.Names.{names_of, optional_text}
use Rattle.hack_base.specs.Streams.{Stream, stream_of}
use Rattle.hack_term.specs.declared.term.Term.{Term}
use Rattle.hack_files.specs.View.{FilesView, files_view}
use Rattle.hack_run.specs.Worlds.{HostView, host_view}
use Rattle.hack_session.specs.StepOutput.{streams}
use Rattle.hack_places.specs.PlacesView.{places_view}
use Rattle.hack_recovery.specs.AskedEdits.{AsksForEdits}
use Rattle.hack_words.specs.Edits.{is_change, is_restore}
use Rattle.hack_places.specs.CallPlaces.{PlacesAt}
use Rattle.hack_recovery.specs.CallCourses.{Begins, CannotSee}
use Rattle.hack_recovery.specs.CallCourses.IsCallCourse.{printed, starved, turned_away, under_its_lock}
use Rattle.hack_recovery.specs.LaneCalls.{plain, unperformed}
use Rattle.hack_recovery.specs.Ready.{Both}
use Rattle.hack_recovery.specs.Ready.GetReady.{looked_at}
use Rattle.hack_recovery.specs.Scenes.{Scene, scene_by, scene_of, scene_with}
use Rattle.hack_recovery.specs.Telling.{SaysUnseen}
use Rattle.hack_words.specs.declared.cli.edits.Edits.{Edits}
use Rattle.hack_recovery.proofs.CallLemmas.{plain_course, unseen_course}
use Rattle.hack_recovery.proofs.LaneLemmas.{asked_to, behind, in_lanes_or_not, ready_now, restore_is}
use Rattle.hack_recovery.proofs.perform.perform.Goals as goal

pub returns-in-Ok-Plain-clause-goes : goal.returns-in-Ok-Plain-clause-goes
returns-in-Ok-Plain-clause-goes g c =
    let begun = c.in-Ok.begun in
    let came = c.plainly-status.ensures in
    let lockfiles : FilesView = files_view g.L.Files c.args.lockfiles in
    let unkept = g.U.Unkept.told c.args.unkept in
    let locks = g.K.Locks.shown c.admit.new.locks in
    let guards = g.G.Guards.shown c.args.keepers.now.guards in
    let seen : FilesView = files_view g.F.Files c.begin.new.files in
    let at : Scene = scene_of g.F.Files g.L.Files g.U.Unkept g.C.Caller g.O.Sink g.E.Sink c.begin.new.files c.args.lockfiles c.args.unkept locks guards c.args.host.now in
    plain_course g.F.Files g.L.Files g.U.Unkept _ _ _ _ _ _ _ begun.edits (places_view begun.places) c.in-Ok-Plain.standing begun.is_left (is_restore begun.edits) _ at _ refl
    c.in-Ok.ensures.begun (rw (c.in-Ok-Plain.field-0-is, c.as_str-2.ensures.value) at c.in-Ok-Plain.ensures)
    (record {
      files = record { same = c.in-Ok.ensures.same; untraced = c.in-Ok.ensures.untraced };
      lockfiles = refl;
      unkept = refl;
      guards = refl;
      calls = refl;
      out = refl;
      stdout = refl;
      fails = refl;
    })
    c.in-Ok.ensures.counted refl refl
    (λ on. (
      ap (λ files. scene_by (files_view g.F.Files files) lockfiles unkept locks guards (host_view g.C.Caller g.O.Sink c.plainly-status.new.host) (streams g.O.Sink g.E.Sink c.plainly-status.new.host.out.now c.plainly-status.new.host.err.now)) (came.restores on).0
          ∙ (ap (λ (host : HostView). scene_by seen lockfiles unkept locks guards host (streams g.O.Sink g.E.Sink c.plainly-status.new.host.out.now c.plainly-status.new.host.err.now)) (came.restores on).1
          ∙ ap (λ out. scene_by seen lockfiles unkept locks guards (record (host_view g.C.Caller g.O.Sink c.args.host.now) { term = c.plainly-status.new.host.term.now }) (streams g.O.Sink g.E.Sink out c.plainly-status.new.host.err.now)) (came.still on).1),
      came.said on,
    ))
    (λ off.
    let ran = came.runs off in
    (ran.0, ran.1, ran.2, ran.3 lockfiles unkept locks guards))

pub returns-in-Ok-Guarded-clause-goes : goal.returns-in-Ok-Guarded-clause-goes
returns-in-Ok-Guarded-clause-goes g c =
    let begun = c.in-Ok.begun in
    let at : Scene = scene_of g.F.Files g.L.Files g.U.Unkept g.C.Caller g.O.Sink g.E.Sink c.begin.new.files c.args.lockfiles c.args.unkept (g.K.Locks.shown c.admit.new.locks) (g.G.Guards.shown c.args.keepers.now.guards) c.args.host.now in
    under_its_lock begun.edits (places_view begun.places) at
    (record {
      left = begun.is_left;
      begins = c.in-Ok.ensures.begun;
      admitted = rw (c.in-Ok-Guarded.field-0-is, c.as_str-2.ensures.value) at c.in-Ok-Guarded.ensures;
      counted = c.in-Ok.ensures.counted;
      untouched = record {
        files = record { same = c.in-Ok.ensures.same; untraced = c.in-Ok.ensures.untraced };
        lockfiles = refl;
        unkept = refl;
        guards = refl;
        calls = refl;
        out = refl;
        stdout = refl;
        fails = refl;
      };
    })
    refl refl c.guarded.ensures.goes

pub returns-in-Err-clause-goes : goal.returns-in-Err-clause-goes
returns-in-Err-clause-goes g c =
    let begun = c.in-Ok.begun in
    let lockfiles : FilesView = files_view g.L.Files c.args.lockfiles in
    let unkept = g.U.Unkept.told c.args.unkept in
    let locks = g.K.Locks.shown c.admit.new.locks in
    let guards = g.G.Guards.shown c.args.keepers.now.guards in
    turned_away begun.edits (places_view begun.places) c.in-Err.fault
    (record {
      left = begun.is_left;
      begins = c.in-Ok.ensures.begun;
      admitted = rw c.as_str-2.ensures.value at c.in-Err.ensures;
      counted = c.in-Ok.ensures.counted;
      untouched = record {
        files = record { same = c.in-Ok.ensures.same; untraced = c.in-Ok.ensures.untraced };
        lockfiles = refl;
        unkept = refl;
        guards = refl;
        calls = ap (λ (h : HostView). h.calls) c.report.ensures.view;
        out = ap (λ (h : HostView). h.out) c.report.ensures.view;
        stdout = ap (stream_of g.O.Sink) c.report.ensures.still.1;
        fails = ap (λ (h : HostView). h.fails) c.report.ensures.view;
      };
    })
    (c.report.ensures.refuses lockfiles lockfiles unkept locks guards).0

pub returns-in-Err-Memory-clause-goes : goal.returns-in-Err-Memory-clause-goes
returns-in-Err-Memory-clause-goes g c =
    let lockfiles : FilesView = files_view g.L.Files c.args.lockfiles in
    let unkept = g.U.Unkept.told c.args.unkept in
    let locks = g.K.Locks.shown c.args.keepers.now.locks in
    let guards = g.G.Guards.shown c.args.keepers.now.guards in
    starved
    (record {
      files = record { same = c.in-Err-Memory.ensures.same; untraced = c.in-Err-Memory.ensures.untraced };
      lockfiles = refl;
      unkept = refl;
      guards = refl;
      calls = ap (λ (h : HostView). h.calls) c.report-status.ensures.view;
      out = ap (λ (h : HostView). h.out) c.report-status.ensures.view;
      stdout = ap (stream_of g.O.Sink) c.report-status.ensures.still.1;
      fails = ap (λ (h : HostView). h.fails) c.report-status.ensures.view;
    })
    (rw c.in-Err-Memory.field-0-is at c.in-Err-Memory.ensures.halted) refl (c.report-status.ensures.refuses lockfiles lockfiles unkept locks guards).0

pub returns-in-Err-Prints-clause-goes : goal.returns-in-Err-Prints-clause-goes
returns-in-Err-Prints-clause-goes g c =
    let halted = rw c.in-Err-Prints.field-0-is at c.in-Err-Prints.ensures.halted in
    let lockfiles : FilesView = files_view g.L.Files c.args.lockfiles in
    printed halted.1 (rw halted.0 at (c.unjournaled-status.ensures.runs lockfiles (g.U.Unkept.told c.args.unkept) (g.K.Locks.shown c.args.keepers.now.locks) (g.G.Guards.shown c.args.keepers.now.guards)))

pub returns-in-Err-Unseen-clause-goes : goal.returns-in-Err-Unseen-clause-goes
returns-in-Err-Unseen-clause-goes g c =
    let asked = c.in-Err-Unseen.asked in
    let halted = rw c.in-Err-Unseen.field-0-is at c.in-Err-Unseen.ensures.halted in
    let came = c.blindly-status.ensures in
    let term : Term = c.args.host.now.term.now in
    let seen : FilesView = files_view g.F.Files c.begin.new.files in
    let lockfiles : FilesView = files_view g.L.Files c.args.lockfiles in
    let unkept = g.U.Unkept.told c.args.unkept in
    let locks = g.K.Locks.shown c.args.keepers.now.locks in
    let guards = g.G.Guards.shown c.args.keepers.now.guards in
    let old : Scene = scene_of g.F.Files g.L.Files g.U.Unkept g.C.Caller g.O.Sink g.E.Sink c.args.files c.args.lockfiles c.args.unkept locks guards c.args.host.now in
    let out = c.blindly-status.new.host.out.now in
    let err = c.blindly-status.new.host.err.now in
    let Unseen : Scene → Type 0 = CannotSee g.F.Files g.K.Locks.tells (g.K.Locks.real c.args.keepers.now.locks) (names_of c.args.words.now) c.args.host.now.env.now asked.edits old in
    let unseen : (now : Term) (told : Stream) → Unseen (scene_with seen now told old) = λ now told. record {
      prints_nothing = halted.5;
      path = optional_text asked.manifest_path;
      asked = halted.2;
      failed = halted.0;
      looked = string_bytes c.in-Err-Unseen.path;
      at = halted.4;
      unseen = halted.1;
      untouched = record {
        files = record { same = c.in-Err-Unseen.ensures.same; untraced = c.in-Err-Unseen.ensures.untraced };
        lockfiles = refl;
        unkept = refl;
        guards = refl;
        calls = refl;
        out = refl;
        stdout = refl;
        fails = refl;
      };
      locks = refl;
    } in
    unseen_course g.F.Files g.L.Files g.U.Unkept _ _ _ _ _ _ _ asked.edits (is_change asked.edits) old _ refl
    (λ on. subst (λ (x : Scene). (cannot : Unseen x) × (x.host.term ≡ record term { error = true }) × SaysUnseen term.coloring cannot.looked old.streams.err x.streams.err)
    (sym (ap (λ files. scene_by (files_view g.F.Files files) lockfiles unkept locks guards (host_view g.C.Caller g.O.Sink c.blindly-status.new.host) (streams g.O.Sink g.E.Sink out err)) (came.refused on).0
    ∙ (ap (λ (host : HostView). scene_by seen lockfiles unkept locks guards host (streams g.O.Sink g.E.Sink out err)) (came.refused on).1
    ∙ ap (λ o. scene_by seen lockfiles unkept locks guards (record (host_view g.C.Caller g.O.Sink c.args.host.now) { term = record term { error = true } }) (streams g.O.Sink g.E.Sink o err)) (came.still on).1)))
    (unseen (record term { error = true }) (stream_of g.E.Sink err), refl, rw c.as_str.ensures.value at (came.said on)))
    (λ off.
    let ran = came.runs off in
    (scene_with seen (record term { warn = true }) ran.0 old, unseen (record term { warn = true }) ran.0, refl, rw c.as_str.ensures.value at ran.1, ran.2 lockfiles unkept locks guards))

pub returns-in-Ok-Plain-clause-in_lanes : goal.returns-in-Ok-Plain-clause-in_lanes
returns-in-Ok-Plain-clause-in_lanes g c =
    let begun = c.in-Ok.begun in
    let words = names_of c.args.words.now in
    let env = c.args.host.now.env.now in
    let at : Both = (files_view g.F.Files c.begin.new.files, files_view g.L.Files c.args.lockfiles) in
    in_lanes_or_not g.C.Starts.did g.C.Caller.course g.C.Caller.tells g.C.Caller.calls g.F.Files g.L.Files _ _ _ words env _ at _ _ (is_restore begun.edits) (is_restore begun.edits) refl
    (λ on. inr (c.in-Ok.ensures.begun.path, subst (λ (does : Edits). AsksForEdits env words does c.in-Ok.ensures.begun.path) (restore_is begun.edits on) c.in-Ok.ensures.begun.asked))
    (λ on. (c.plainly-status.ensures.still on).0)
    (looked_at (record { same = c.in-Ok.ensures.same; untraced = c.in-Ok.ensures.untraced }) refl) c.plainly-status.ensures.in_lanes

pub returns-in-Ok-Guarded-clause-in_lanes : goal.returns-in-Ok-Guarded-clause-in_lanes
returns-in-Ok-Guarded-clause-in_lanes g c =
    let words = names_of c.args.words.now in
    let env = c.args.host.now.env.now in
    let at : Both = (files_view g.F.Files c.begin.new.files, files_view g.L.Files c.args.lockfiles) in
    behind g.C.Starts.did g.C.Caller.course g.C.Caller.tells g.C.Caller.calls g.F.Files g.L.Files _ _ _ words env _ at _ _
    (looked_at (record { same = c.in-Ok.ensures.same; untraced = c.in-Ok.ensures.untraced }) refl)
    (asked_to g.C.Starts.did g.C.Caller.course g.C.Caller.tells g.C.Caller.calls g.F.Files g.L.Files _ _ _ _ _ words env at _ _
    (λ is. (c.in-Ok.ensures.begun.path, subst (λ (does : Edits). AsksForEdits env words does c.in-Ok.ensures.begun.path) is c.in-Ok.ensures.begun.asked))
    (λ places own. (c.in-Ok.begun.edits, c.in-Ok.begun.is_left, subst (λ (p : PlacesAt). Begins g.F.Files.tells g.K.Locks.tells (g.K.Locks.real c.args.keepers.now.locks) words env c.in-Ok.begun.edits p c.in-Ok.begun.is_left (files_view g.F.Files c.args.files)) (sym own) c.in-Ok.ensures.begun)) c.guarded.ensures.in_lanes)

pub returns-in-Err-clause-in_lanes : goal.returns-in-Err-clause-in_lanes
returns-in-Err-clause-in_lanes g c = unperformed (inl (ap (λ (t : Term). not t.error) c.report.ensures.noted)) c.report.ensures.still.0

pub returns-in-Err-Memory-clause-in_lanes : goal.returns-in-Err-Memory-clause-in_lanes
returns-in-Err-Memory-clause-in_lanes g c = unperformed (inl (ap (λ (t : Term). not t.error) c.report-status.ensures.noted)) c.report-status.ensures.still.0

pub returns-in-Err-Prints-clause-in_lanes : goal.returns-in-Err-Prints-clause-in_lanes
returns-in-Err-Prints-clause-in_lanes g c =
    let halted = rw c.in-Err-Prints.field-0-is at c.in-Err-Prints.ensures.halted in
    plain (files_view g.F.Files c.args.files, files_view g.L.Files c.args.lockfiles) (ready_now g.F.Files g.L.Files _ _ _) (rw halted.0 at c.unjournaled-status.ensures.in_lanes)

pub returns-in-Err-Unseen-clause-in_lanes : goal.returns-in-Err-Unseen-clause-in_lanes
returns-in-Err-Unseen-clause-in_lanes g c =
    let edits = c.in-Err-Unseen.asked.edits in
    let at : Both = (files_view g.F.Files c.begin.new.files, files_view g.L.Files c.args.lockfiles) in
    in_lanes_or_not g.C.Starts.did g.C.Caller.course g.C.Caller.tells g.C.Caller.calls g.F.Files g.L.Files _ _ _ _ c.args.host.now.env.now _ at _ _ (is_change edits) (is_change edits) refl
    (λ on. inl (ap (λ (h : HostView). not h.term.error) (c.blindly-status.ensures.refused on).1))
    (λ on. (c.blindly-status.ensures.still on).0)
    (looked_at (record { same = c.in-Err-Unseen.ensures.same; untraced = c.in-Err-Unseen.ensures.untraced }) refl) c.blindly-status.ensures.in_lanes
