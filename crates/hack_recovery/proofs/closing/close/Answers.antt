use Rattle.std.proofs.Common.{None, refl, string_bytes, sym}
use Rattle.hack_base.specs.Streams.{stream_of}
use Rattle.hack_files.specs.View.{files_view}
use Rattle.hack_journal.proofs.FinishLemmas.{none_of}
use Rattle.hack_journal.proofs.RecoverLemmas.{put_or_not}
use Rattle.hack_recovery.specs.CallCourses.IsJournalClosed.{ended, stays, unseen}
use Rattle.hack_recovery.proofs.closing.close.Goals.{in-Err, in-Ok-true}
use Rattle.hack_recovery.proofs.closing.close.Goals as goal

pub returns-in-Ok-false-clause-told : goal.returns-in-Ok-false-clause-told
returns-in-Ok-false-clause-told g c =
    let there = rw c.as_str-journal.ensures.value at c.in-Ok-false.ensures.there in
    ended (files_view g.F.Files c.exists.new.self) c.in-Ok-false.ensures.counted (λ t. none_of c.in-Ok-false.field-0 _ (there t) c.in-Ok-false.field-0-test)
    (record { same = c.exists.ensures.same; untraced = c.exists.ensures.untraced }) (rw c.as_str-copy.ensures.value at c.end_copy.ensures.told)

pub returns-clause-told : goal.returns-clause-told
returns-clause-told g c =
    let said = stream_of g.E.Sink c.match-exists.err in
    let told = rw c.as_str-copy.ensures.value at c.tell_copy.ensures.told in
    elim c.match-exists.branch [
      | in-Ok-true w ↦
          let there = rw c.as_str-journal.ensures.value at w.in-Ok-true.ensures.there in
          stays (files_view g.F.Files c.exists.new.self) c.match-exists.term said (rw (w.term-is, w.err-is) (rw c.as_str-journal.ensures.value at w.tell_stay.ensures)) w.in-Ok-true.ensures.counted
          (λ t. (there t).0 w.in-Ok-true.field-0-test) (record { same = c.exists.ensures.same; untraced = c.exists.ensures.untraced }) told
      | in-Err w ↦
          unseen (files_view g.F.Files c.exists.new.self) c.match-exists.term said (rw (w.term-is, w.err-is) (rw c.as_str-journal.ensures.value at w.tell_stay-in-Err.ensures)) w.in-Err.ensures.counted
          (rw (sym c.as_str-journal.ensures.value) (record { before = c.args.files.now; after = c.exists.new.self; unseen = w.in-Err.ensures.unseen_path })) (record { same = c.exists.ensures.same; untraced = c.exists.ensures.untraced }) told
    ]

pub returns-in-Ok-false-clause-made : goal.returns-in-Ok-false-clause-made
returns-in-Ok-false-clause-made g c = λ whole.
    put_or_not (string_bytes c.args.places.now.copy) _ None _ _ _ _ _ _ _ c.as_str-copy.ensures.value refl (c.exists.ensures.untraced whole) (c.end_copy.ensures.made whole)
