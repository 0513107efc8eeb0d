use Rattle.std.proofs.Common.{◌≡◌, ◌∙◌, ◌+◌, ℕ, List, None, ap, length, true, false, arith, inl, inr, refl, string_bytes, subst, sym}
use Rattle.hack_base.specs.Names.{names_of}
use Rattle.hack_files.specs.Files.{Contents, KeepsAll, by_kind}
use Rattle.hack_files.specs.declared.fs.Files.{Ghosts as Filing}
use Rattle.hack_journal.specs.FailedCalls.{CannotEnd}
use Rattle.hack_journal.specs.FileCalls.{spot_in}
use Rattle.hack_journal.proofs.RowLemmas.{apart_from}
use Rattle.hack_journal.proofs.SafeLemmas.{without_same}
use Rattle.hack_journal.specs.LockfilesApart.{KeepsLockfiles, KeepsOtherFiles, apart, is_lockfile}
use Rattle.hack_journal.specs.Rows.{AreEach, Noted, Spot, spot_of}
use Rattle.hack_journal.specs.SafeFiles.{trace_besides, without}
use Rattle.hack_journal.specs.SafeLaws.{stays_join}
use Rattle.hack_journaled.specs.Journals.{IsAtEnd, IsWhyItStays, contents_seen, files_seen, world_seen}
use Rattle.hack_files.specs.View.{FilesView, files_view}
use Rattle.hack_run.specs.Worlds.{host_view}
use Rattle.hack_journaled.proofs.JournalLemmas.{accounted, edits_between, entries_back, leaves_end, leaves_nothing, none_before, one_at_most, only_end, others_same, refused_once, seen_same, spoilt_end, traced_same, why_it_stays}
use Rattle.hack_run.proofs.ChangeLemmas.{changes_on}
use Rattle.hack_run.proofs.TraceLemmas.{call_moved, keeps_same, unended}
use Rattle.hack_journaled.proofs.journaled.run_journaled.Goals as goal

pub returns-clause-done : goal.returns-clause-done
returns-clause-done g c = λ quiet t.
    let named : c.new.result.notes.journal ≡ string_bytes c.args.place.journal = ap (λ (s : Spot). s.journal) c.new.ensures.place in
    let mid = c.run-status.new.files in
    let bytes = g.F.Files.bytes_at in
    let ran = rw c.new-files.ensures.files at c.run-status.ensures.stays in
    let same : string_bytes c.args.place.journal ≡ mid.files.notes.journal = sym named ∙ ap (λ (s : Spot). s.journal) ran.0.0 in
    let did = rw (c.new-files.ensures.files, c.new-files.ensures.lockfiles, c.new-files.ensures.failures, named, c.new.ensures.files) at (c.run-status.ensures.done quiet t) in
    let seen : FilesView = record { held = apart (without mid.files.notes.journal (bytes mid.files.files)) (g.L.Files.bytes_at mid.lockfiles); trace = by_kind is_lockfile (g.L.Files.trace mid.lockfiles) (trace_besides mid.files.notes.journal (g.F.Files.trace mid.files.files)); failed = mid.failures } in
    let last = files_seen (string_bytes c.args.place.journal) (files_view g.F.Files c.into_inner-below.result.0) (files_view g.L.Files mid.lockfiles) c.end_journal-failed.result in
    call_moved true (g.F.Files.tells × g.L.Files.tells) (names_of c.args.words.now) c.args.host.now.env.now (world_seen (string_bytes c.args.place.journal) (files_view g.F.Files c.args.files) (files_view g.L.Files c.args.lockfiles) 0 (host_view g.C.Caller g.O.Sink c.args.host.now))
    (record { files = seen; host = host_view g.C.Caller g.O.Sink c.run-status.new.host }) last c.run-status.new.host.term.now
    (λ d told. keeps_same seen.held last.held (seen_same (string_bytes c.args.place.journal) mid.files.notes.journal (length mid.files.notes.entries + 1) (bytes mid.files.files) (bytes c.end_journal-failed.new.files.files) (bytes c.into_inner-below.result.0) (g.L.Files.bytes_at mid.lockfiles) same (c.end_journal-failed.ensures.others told.0) (rw c.into_inner-below.ensures.files refl)))
    (λ d. refl) did

pub returns-clause-traced : goal.returns-clause-traced
returns-clause-traced g c = λ quiet t tells whole lockfiles.
    let named : c.new.result.notes.journal ≡ string_bytes c.args.place.journal = ap (λ (s : Spot). s.journal) c.new.ensures.place in
    let mid = c.run-status.new.files in
    let bytes = g.F.Files.bytes_at in
    let trace = g.F.Files.trace in
    let ran = rw c.new-files.ensures.files at c.run-status.ensures.stays in
    let same : string_bytes c.args.place.journal ≡ mid.files.notes.journal = sym named ∙ ap (λ (s : Spot). s.journal) ran.0.0 in
    let did = rw (c.new-files.ensures.files, c.new-files.ensures.lockfiles, c.new-files.ensures.failures, named, c.new.ensures.files) at (c.run-status.ensures.traced quiet t ((tells, whole), lockfiles)) in
    let seen : FilesView = record { held = apart (without mid.files.notes.journal (bytes mid.files.files)) (g.L.Files.bytes_at mid.lockfiles); trace = by_kind is_lockfile (g.L.Files.trace mid.lockfiles) (trace_besides mid.files.notes.journal (trace mid.files.files)); failed = mid.failures } in
    changes_on (g.F.Files.tells × g.L.Files.tells) (names_of c.args.words.now) c.args.host.now.env.now (world_seen (string_bytes c.args.place.journal) (files_view g.F.Files c.args.files) (files_view g.L.Files c.args.lockfiles) 0 (host_view g.C.Caller g.O.Sink c.args.host.now))
    (record { files = seen; host = host_view g.C.Caller g.O.Sink c.run-status.new.host }) (files_seen (string_bytes c.args.place.journal) (files_view g.F.Files c.into_inner-below.result.0) (files_view g.L.Files mid.lockfiles) c.end_journal-failed.result)
    (traced_same (string_bytes c.args.place.journal) mid.files.notes.journal (trace mid.files.files) (trace c.end_journal-failed.new.files.files) (g.L.Files.trace mid.lockfiles) (trace c.into_inner-below.result.0) (bytes mid.files.files) (bytes c.end_journal-failed.new.files.files) (bytes c.into_inner-below.result.0) (g.L.Files.bytes_at mid.lockfiles) same
    (c.end_journal-failed.ensures.only whole) (rw c.into_inner-below.ensures.files refl) (rw c.into_inner-below.ensures.files refl)) did

pub returns-clause-made : goal.returns-clause-made
returns-clause-made g c = λ t.
    let named : c.new.result.notes.journal ≡ string_bytes c.args.place.journal = ap (λ (s : Spot). s.journal) c.new.ensures.place in
    let mid = c.run-status.new.files in
    let bytes = g.F.Files.bytes_at in
    let did = rw (c.new-files.ensures.files, c.new-files.ensures.lockfiles, c.new-files.ensures.failures, named, c.new.ensures.files) at (c.run-status.ensures.made t) in
    let seen : FilesView = record { held = apart (without mid.files.notes.journal (bytes mid.files.files)) (g.L.Files.bytes_at mid.lockfiles); trace = by_kind is_lockfile (g.L.Files.trace mid.lockfiles) (trace_besides mid.files.notes.journal (g.F.Files.trace mid.files.files)); failed = mid.failures } in
    call_moved false (g.F.Files.tells × g.L.Files.tells) (names_of c.args.words.now) c.args.host.now.env.now (world_seen (string_bytes c.args.place.journal) (files_view g.F.Files c.args.files) (files_view g.L.Files c.args.lockfiles) 0 (host_view g.C.Caller g.O.Sink c.args.host.now))
    (record { files = seen; host = host_view g.C.Caller g.O.Sink c.run-status.new.host }) (files_seen (string_bytes c.args.place.journal) (files_view g.F.Files c.into_inner-below.result.0) (files_view g.L.Files mid.lockfiles) c.end_journal-failed.result)
    c.run-status.new.host.term.now (λ e. unended e) (λ e. unended e) did

pub returns-clause-clean : goal.returns-clause-clean
returns-clause-clean g c = λ quiet back files lockfiles.
    let named : c.new.result.notes.journal ≡ string_bytes c.args.place.journal = ap (λ (s : Spot). s.journal) c.new.ensures.place in
    let mid = c.run-status.new.files in
    let bytes = g.F.Files.bytes_at in
    let ran = rw c.new-files.ensures.files at c.run-status.ensures.stays in
    let same : string_bytes c.args.place.journal ≡ mid.files.notes.journal = sym named ∙ ap (λ (s : Spot). s.journal) ran.0.0 in
    let kept = rw (c.new-files.ensures.files, c.new-files.ensures.lockfiles, named, c.new.ensures.files) at ((c.run-status.ensures.clean quiet).1 back (files, lockfiles)) in
    subst (λ (last : Contents). KeepsAll (contents_seen (string_bytes c.args.place.journal) (bytes c.args.files) (g.L.Files.bytes_at c.args.lockfiles)) last)
    (seen_same (string_bytes c.args.place.journal) mid.files.notes.journal (length mid.files.notes.entries + 1) (bytes mid.files.files) (bytes c.end_journal-failed.new.files.files) (bytes c.into_inner-below.result.0) (g.L.Files.bytes_at mid.lockfiles) same (c.end_journal-failed.ensures.others files) (rw c.into_inner-below.ensures.files refl)) kept

-- src/journaled.rt:19:1
pub returns-clause-safe : goal.returns-clause-safe
returns-clause-safe g c = λ tells whole absent.
    let first = c.new.result in
    let mid = c.run-status.new.files.files in
    let last = c.end_journal-failed.new.files in
    let trace = g.F.Files.trace in
    let bytes = g.F.Files.bytes_at in
    let ran = rw c.new-files.ensures.files at c.run-status.ensures.stays in
    let both = stays_join (spot_in first) (spot_in mid) first.notes.entries mid.notes.entries last.notes.entries
    (trace first.files) (trace mid.files) (trace last.files) (bytes first.files) (bytes mid.files) (bytes last.files)
    ran.0.0 (ran.0.1 tells whole) (c.end_journal-failed.ensures.stays tells whole) (bytes c.args.files) (c.new.ensures.begun absent) in
    let placed = rw c.new.ensures.place at both.0 in
    let from = rw c.new.ensures.files at placed in
    rw c.into_inner-below.ensures.files from

pub returns-clause-back : goal.returns-clause-back
returns-clause-back g c = λ back files lockfiles.
    let named : c.new.result.notes.journal ≡ string_bytes c.args.place.journal = ap (λ (s : Spot). s.journal) c.new.ensures.place in
    let mid = c.run-status.new.files in
    let bytes = g.F.Files.bytes_at in
    let ran = rw c.new-files.ensures.files at c.run-status.ensures.stays in
    let same : string_bytes c.args.place.journal ≡ mid.files.notes.journal = sym named ∙ ap (λ (s : Spot). s.journal) ran.0.0 in
    let left = rw (c.new-files.ensures.files, c.new-files.ensures.lockfiles, c.new-files.ensures.failures, named, c.new.ensures.files, sym c.failures-known.ensures) at (c.run-status.ensures.back back (files, lockfiles)) in
    leaves_end (contents_seen (string_bytes c.args.place.journal) (bytes c.args.files) (g.L.Files.bytes_at c.args.lockfiles)) _ _ c.failures-known.result c.end_journal-failed.result
    (seen_same (string_bytes c.args.place.journal) mid.files.notes.journal (length mid.files.notes.entries + 1) (bytes mid.files.files) (bytes c.end_journal-failed.new.files.files) (bytes c.into_inner-below.result.0) (g.L.Files.bytes_at mid.lockfiles) same (c.end_journal-failed.ensures.others files) (rw c.into_inner-below.ensures.files refl))
    (one_at_most _ _ c.end_journal-failed.ensures.failed) left

-- the cause by which the end leaves the journal there
stays-since : {F : Type 0} (f : Filing F) (place spot at : Spot) (first last : Contents) (noted : Noted) (old new : F) → place ≡ spot → spot ≡ at → at.journal ≡ noted.journal
    → (f.tells → f.whole → first place.journal ≡ None → AreEach spot (f.bytes_at old) 0 noted.entries) → IsAtEnd f noted.journal last old new → CannotEnd f noted old new → IsWhyItStays f place first last
stays-since f place spot at first last noted old new begun same named each ends cannot =
    let is : place.journal ≡ noted.journal = ap (λ (s : Spot). s.journal) (begun ∙ same) ∙ named in
    why_it_stays f place first last noted old new is
    (λ tells whole absent. subst (λ (s : Spot). AreEach s (f.bytes_at old) 0 noted.entries) (sym begun) (each tells whole absent)) (subst (λ (j : List ℕ). IsAtEnd f j last old new) (sym is) ends) cannot

pub returns-clause-few : goal.returns-clause-few
returns-clause-few g c = λ quiet.
    let first = c.new.result in
    let mid = c.run-status.new.files.files in
    let bytes = g.F.Files.bytes_at in
    let ran = rw c.new-files.ensures.files at c.run-status.ensures.stays in
    let ends : IsAtEnd g.F.Files mid.notes.journal (bytes c.into_inner-below.result.0) mid.files c.end_journal-failed.new.files.files = record { ended = rw c.into_inner-below.ensures.files refl; only = c.end_journal-failed.ensures.only } in
    only_end c.failures-known.result c.end_journal-failed.result
    (omega (arith, c.failures-known.ensures, c.new-files.ensures.failures, (c.run-status.ensures.clean quiet).0 (omega (arith, c.new-files.ensures.failures))))
    (stays-since g.F.Files (spot_of c.args.place) (spot_in first) (spot_in mid) (bytes c.args.files) (bytes c.into_inner-below.result.0) mid.notes mid.files c.end_journal-failed.new.files.files (sym c.new.ensures.place) ran.0.0 refl
    (λ tells whole absent. (ran.0.1 tells whole (bytes c.args.files) (c.new.ensures.begun absent)).1.each) ends)
    c.end_journal-failed.ensures.failed

pub returns-clause-gone : goal.returns-clause-gone
returns-clause-gone g c = λ back tells whole lockfiles none absent.
    let first = c.new.result in
    let begun : c.new.result.notes.journal ≡ string_bytes c.args.place.journal = ap (λ (s : Spot). s.journal) c.new.ensures.place in
    let mid = c.run-status.new.files in
    let bytes = g.F.Files.bytes_at in
    let j = string_bytes c.args.place.journal in
    let ran = rw c.new-files.ensures.files at c.run-status.ensures.stays in
    let kept = (ran.0.1 tells whole (bytes c.args.files) (c.new.ensures.begun absent)).1 in
    let left = rw (c.new-files.ensures.files, c.new-files.ensures.lockfiles, c.new-files.ensures.failures, begun, c.new.ensures.files, sym c.failures-known.ensures) at (c.run-status.ensures.back back (tells, lockfiles)) in
    let named : mid.files.notes.journal ≡ j = sym (ap (λ (s : Spot). s.journal) ran.0.0) ∙ begun in
    let all = leaves_nothing _ _ c.failures-known.result (none_before c.failures-known.result c.end_journal-failed.result none (one_at_most _ _ c.end_journal-failed.ensures.failed)) left in
    let others = others_same (without j (bytes c.args.files)) (without j (bytes mid.files.files)) (g.L.Files.bytes_at c.args.lockfiles) (g.L.Files.bytes_at mid.lockfiles) (rw named at all) in
    let is_back = entries_back j (bytes c.args.files) (bytes mid.files.files) mid.files.notes.entries kept.more (rw begun at kept.keeps) others (rw (c.new.ensures.files, begun, named) at (ran.2 tells)) in
    rw (c.into_inner-below.ensures.files, sym named) (c.end_journal-failed.ensures.gone none tells is_back)

pub returns-clause-ended : goal.returns-clause-ended
returns-clause-ended g c = λ tells whole same absent.
    let first = c.new.result in
    let begun : c.new.result.notes.journal ≡ string_bytes c.args.place.journal = ap (λ (s : Spot). s.journal) c.new.ensures.place in
    let mid = c.run-status.new.files in
    let bytes = g.F.Files.bytes_at in
    let j = string_bytes c.args.place.journal in
    let ran = rw c.new-files.ensures.files at c.run-status.ensures.stays in
    let kept = (ran.0.1 tells whole (bytes c.args.files) (c.new.ensures.begun absent)).1 in
    let named : mid.files.notes.journal ≡ j = sym (ap (λ (s : Spot). s.journal) ran.0.0) ∙ begun in
    let end = without_same mid.files.notes.journal (bytes mid.files.files) (bytes c.end_journal-failed.new.files.files) (λ q out. c.end_journal-failed.ensures.others tells q (λ i lt. apart_from mid.files.notes.journal i q out)) in
    let others = subst (λ (m : Contents). KeepsOtherFiles (without j (bytes c.args.files)) m) (rw named at end) (rw c.into_inner-below.ensures.files at same) in
    let is_back = entries_back j (bytes c.args.files) (bytes mid.files.files) mid.files.notes.entries kept.more (rw begun at kept.keeps) others (rw (c.new.ensures.files, begun, named) at (ran.2 tells)) in
    let ends : IsAtEnd g.F.Files mid.files.notes.journal (bytes c.into_inner-below.result.0) mid.files.files c.end_journal-failed.new.files.files = record { ended = rw c.into_inner-below.ensures.files refl; only = c.end_journal-failed.ensures.only } in
    elim (c.end_journal-failed.ensures.ended tells is_back) [
      | inl gone ↦ inl (rw (c.into_inner-below.ensures.files, sym named) gone)
      | inr cannot ↦ inr (stays-since g.F.Files (spot_of c.args.place) (spot_in first) (spot_in mid.files) (bytes c.args.files) (bytes c.into_inner-below.result.0) mid.files.notes mid.files.files c.end_journal-failed.new.files.files (sym c.new.ensures.place) ran.0.0 refl
          (λ tells whole absent. (ran.0.1 tells whole (bytes c.args.files) (c.new.ensures.begun absent)).1.each) ends cannot)
    ]

pub returns-clause-stays : goal.returns-clause-stays
returns-clause-stays g c =
    let ran = rw (c.new-files.ensures.files, c.new-files.ensures.lockfiles, c.new.ensures.files) at c.run-status.ensures.stays in
    (rw c.into_inner-below.ensures.files (g.F.Files.stays_more _ _ _ ran.0.2 c.end_journal-failed.ensures.handed), ran.1)

pub returns-clause-spoilt : goal.returns-clause-spoilt
returns-clause-spoilt g c = λ back.
    let named : c.new.result.notes.journal ≡ string_bytes c.args.place.journal = ap (λ (s : Spot). s.journal) c.new.ensures.place in
    let mid = c.run-status.new.files in
    let bytes = g.F.Files.bytes_at in
    let ran = rw c.new-files.ensures.files at c.run-status.ensures.stays in
    let same : string_bytes c.args.place.journal ≡ mid.files.notes.journal = sym named ∙ ap (λ (s : Spot). s.journal) ran.0.0 in
    let kept = rw (c.new-files.ensures.files, c.new-files.ensures.lockfiles, c.new-files.ensures.failures, named, c.new.ensures.files, sym c.failures-known.ensures) at (c.run-status.ensures.spoilt back) in
    spoilt_end _ _ _ (contents_seen (string_bytes c.args.place.journal) (bytes c.args.files) (g.L.Files.bytes_at c.args.lockfiles)) _ _ c.failures-known.result c.end_journal-failed.result
    (λ p. refused_once _ g.F.Files g.U.Unkept g.L.Files p (λ x y ps r. r.each))
    (λ tells. seen_same (string_bytes c.args.place.journal) mid.files.notes.journal (length mid.files.notes.entries + 1) (bytes mid.files.files) (bytes c.end_journal-failed.new.files.files) (bytes c.into_inner-below.result.0) (g.L.Files.bytes_at mid.lockfiles) same (c.end_journal-failed.ensures.others tells.0) (rw c.into_inner-below.ensures.files refl))
    (one_at_most _ _ c.end_journal-failed.ensures.failed) kept

pub returns-clause-number : goal.returns-clause-number
returns-clause-number g c =
    let ran = rw (c.new-files.ensures.files, c.new-files.ensures.lockfiles, c.new-files.ensures.failures, c.new.ensures.files, c.new.ensures.unkept, c.new.ensures.failures) at c.run-status.ensures.stays in
    rw (c.into_inner-below.ensures.files, c.into_inner-below.ensures.unkept, c.end_journal-failed.ensures.unkept)
    (accounted _ _ _ _ _ _ _ _ _ _ ran.0.3 ran.3 (rw c.failures-known.ensures at c.end_journal-failed.ensures.counted))

pub returns-clause-apart : goal.returns-clause-apart
returns-clause-apart g c = λ tells.
    let j = string_bytes c.args.place.journal in
    let named : c.new.result.notes.journal ≡ j = ap (λ (s : Spot). s.journal) c.new.ensures.place in
    let mid = c.run-status.new.files in
    let bytes = g.F.Files.bytes_at in
    let ran = rw c.new-files.ensures.files at c.run-status.ensures.stays in
    let same : j ≡ mid.files.notes.journal = sym named ∙ ap (λ (s : Spot). s.journal) ran.0.0 in
    let end = without_same mid.files.notes.journal (bytes mid.files.files) (bytes c.end_journal-failed.new.files.files) (λ q out. c.end_journal-failed.ensures.others tells q (λ i lt. apart_from mid.files.notes.journal i q out)) in
    let kept = rw (c.new.ensures.files, named) at (ran.2 tells) in
    rw c.into_inner-below.ensures.files (subst (λ (k : List ℕ). KeepsLockfiles (without j (bytes c.args.files)) (without k (bytes c.end_journal-failed.new.files.files))) (sym same)
    (subst (λ (m : Contents). KeepsLockfiles (without j (bytes c.args.files)) m) (sym end) kept))

pub returns-clause-stood : goal.returns-clause-stood
returns-clause-stood g c = λ quiet.
    let j = string_bytes c.args.place.journal in
    let named : c.new.result.notes.journal ≡ j = ap (λ (s : Spot). s.journal) c.new.ensures.place in
    let bytes = g.F.Files.bytes_at in
    let stood = rw (c.new-files.ensures.files, c.new-files.ensures.lockfiles, named, c.new.ensures.files) at (c.run-status.ensures.stood quiet) in
    edits_between _ _ _ _ _ _ _ _ (λ held was.
    let at = was.0 in
    let first = was.1 in
    let later = was.2 in (
      at.files.files,
      at.lockfiles,
      first.0.2,
      rw c.into_inner-below.ensures.files (g.F.Files.stays_more _ _ _ later.0.2 c.end_journal-failed.ensures.handed),
      first.1,
      later.1,
      was.3 ∙ ap (λ (k : List ℕ). contents_seen k (bytes at.files.files) (g.L.Files.bytes_at at.lockfiles)) (sym (ap (λ (s : Spot). s.journal) first.0.0)),
    )) stood

pub returns-clause-shown : goal.returns-clause-shown
returns-clause-shown g c = λ t.
    let named : c.new.result.notes.journal ≡ string_bytes c.args.place.journal = ap (λ (s : Spot). s.journal) c.new.ensures.place in
    let mid = c.run-status.new.files in
    let bytes = g.F.Files.bytes_at in
    let trace = g.F.Files.trace in
    let ran = rw c.new-files.ensures.files at c.run-status.ensures.stays in
    let same : string_bytes c.args.place.journal ≡ mid.files.notes.journal = sym named ∙ ap (λ (s : Spot). s.journal) ran.0.0 in
    record {
      before = c.new-files.result;
      after = mid;
      held = rw (c.new-files.ensures.files, c.new-files.ensures.lockfiles, named, c.new.ensures.files) refl;
      shown = rw (c.new-files.ensures.files, c.new-files.ensures.lockfiles, named, c.new.ensures.files) refl;
      unchanged = λ whole. traced_same (string_bytes c.args.place.journal) mid.files.notes.journal (trace mid.files.files) (trace c.end_journal-failed.new.files.files) (g.L.Files.trace mid.lockfiles) (trace c.into_inner-below.result.0) (bytes mid.files.files) (bytes c.end_journal-failed.new.files.files) (bytes c.into_inner-below.result.0) (g.L.Files.bytes_at mid.lockfiles) same
          (c.end_journal-failed.ensures.only whole.0.1) (rw c.into_inner-below.ensures.files refl) (rw c.into_inner-below.ensures.files refl);
      left = λ tells. seen_same (string_bytes c.args.place.journal) mid.files.notes.journal (length mid.files.notes.entries + 1) (bytes mid.files.files) (bytes c.end_journal-failed.new.files.files) (bytes c.into_inner-below.result.0) (g.L.Files.bytes_at mid.lockfiles) same (c.end_journal-failed.ensures.others tells.0) (rw c.into_inner-below.ensures.files refl);
      said = c.run-status.ensures.shown t;
    }

pub returns-clause-lanes : goal.returns-clause-lanes
returns-clause-lanes g c = λ quiet.
    let named : c.new.result.notes.journal ≡ string_bytes c.args.place.journal = ap (λ (s : Spot). s.journal) c.new.ensures.place in
    rw (c.new-files.ensures.files, c.new-files.ensures.lockfiles, named, c.new.ensures.files) at (c.run-status.ensures.lanes quiet)

pub returns-clause-in_lanes : goal.returns-clause-in_lanes
returns-clause-in_lanes g c =
    let named : c.new.result.notes.journal ≡ string_bytes c.args.place.journal = ap (λ (s : Spot). s.journal) c.new.ensures.place in
    rw (c.new-files.ensures.files, c.new-files.ensures.lockfiles, named, c.new.ensures.files) at c.run-status.ensures.in_lanes

pub returns-clause-unwritten : goal.returns-clause-unwritten
returns-clause-unwritten g c = rw (c.new-files.ensures.lockfiles, c.new-files.ensures.is_unwritten) at c.run-status.ensures.stays.5
