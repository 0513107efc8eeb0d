use Rattle.std.proofs.Common.{◌∙◌, ap, refl, sym}
use Rattle.std.specs.Option.{option_map}
use Rattle.hack_journal.specs.Journal.{edit_of}
use Rattle.hack_journal.specs.Rows.{spot_of}
use Rattle.hack_files.specs.View.{FilesView, files_view}
use Rattle.hack_recovery.specs.Restoring.Restores.{strange, trusted, unread}
use Rattle.hack_recovery.proofs.StrangerLemmas.{never_strange, none_named, one_named}
use Rattle.hack_recovery.proofs.TellingLemmas.{look_failed}
use Rattle.hack_base.specs.Streams.{stream_of}
use Rattle.hack_recovery.proofs.restore.restore.Goals as goal

pub returns-in-Some : goal.returns-in-Some
returns-in-Some g c =
    let spot = spot_of c.args.place.now in
    let held = g.F.Files.bytes_at c.args.files.now in
    let named = one_named g.F.Files.tells spot held c.in-Ok.row (edit_of c.in-Some.entry.now) c.in-Ok.ensures.some
    (sym (ap (option_map (λ entry. edit_of entry.now)) c.in-Some.is) ∙ c.stranger_in.ensures) in
    strange (edit_of c.in-Some.entry.now).path (record { same = c.in-Ok.ensures.same; untraced = c.in-Ok.ensures.untraced }) c.in-Ok.ensures.failures
    (record { before = c.args.files.now; after = c.row_at.new.files; first = refl; last = refl; none = c.in-Ok.ensures.calls })
    named (never_strange g.F.Files.tells spot held (edit_of c.in-Some.entry.now).path named)
    c.tell_stranger.ensures.never c.tell_stranger.ensures.told (rw (c.as_str-journal.ensures.value, c.as_str-path.ensures.value) at c.tell_stranger.ensures.said)

pub returns-in-Ok : goal.returns-in-Ok
returns-in-Ok g c =
    let at : FilesView = files_view g.F.Files c.row_at.new.files in
    trusted at (record { same = c.in-Ok.ensures.same; untraced = c.in-Ok.ensures.untraced }) c.in-Ok.ensures.failures
    (record { before = c.args.files.now; after = c.row_at.new.files; first = refl; last = refl; none = c.in-Ok.ensures.calls })
    (none_named g.F.Files.tells (spot_of c.args.place.now) (g.F.Files.bytes_at c.args.files.now) c.in-Ok.row c.in-Ok.ensures.none c.in-Ok.ensures.some
    (sym c.stranger_in.ensures ∙ ap (option_map (λ entry. edit_of entry.now)) c.in-None.is))
    c.bring_back.ensures.came c.bring_back.ensures.told

pub returns : goal.returns
returns g c =
    let spot = spot_of c.args.place.now in
    let held = g.F.Files.bytes_at c.args.files.now in
    let why = c.in-Err.ensures.why in
    let counts = c.in-Err.ensures.failures in
    let told = c.tell_fault.ensures.told_as in
    unread c.in-Err.fault (record { same = c.in-Err.ensures.same; untraced = c.in-Err.ensures.untraced }) counts
    (record { before = c.args.files.now; after = c.row_at.new.files; first = refl; last = refl; failed = c.in-Err.ensures.calls }) why
    (λ t first safe off. look_failed spot g.F.Files.tells first held (g.F.Files.failed c.args.files.now) (g.F.Files.failed c.row_at.new.files) c.in-Err.fault c.tell_fault.result t why counts told safe off) told c.tell_fault.ensures.told
    (stream_of g.E.Sink c.tell_why.new.err, c.tell_why.ensures, c.tell_fault.ensures.said)
