use Rattle.std.proofs.Common.{refl}
use Rattle.hack_journal.proofs.FinishLemmas.{none_of}
use Rattle.hack_recovery.specs.CallCourses.IsCopyTold.{absent, there, unsure}
use Rattle.hack_recovery.proofs.closing.tell_copy.Goals as goal

pub returns-then-not-unwritten-clause-told : goal.returns-then-not-unwritten-clause-told
returns-then-not-unwritten-clause-told g c = rw c.if-not-unwritten.true (refl, refl, refl)

pub returns-in-Ok-true-clause-told : goal.returns-in-Ok-true-clause-told
returns-in-Ok-true-clause-told g c =
    rw c.if-not-unwritten.false (there c.tell_stay.ensures c.in-Ok-true.ensures.counted (λ t. (c.in-Ok-true.ensures.there t).0 c.in-Ok-true.field-0-test) (record { same = c.exists.ensures.same; untraced = c.exists.ensures.untraced }))

pub returns-in-Ok-false-clause-told : goal.returns-in-Ok-false-clause-told
returns-in-Ok-false-clause-told g c =
    rw c.if-not-unwritten.false (absent refl refl c.in-Ok-false.ensures.counted (λ t. none_of c.in-Ok-false.field-0 _ (c.in-Ok-false.ensures.there t) c.in-Ok-false.field-0-test) (record { same = c.exists.ensures.same; untraced = c.exists.ensures.untraced }))

pub returns-in-Err-clause-told : goal.returns-in-Err-clause-told
returns-in-Err-clause-told g c =
    rw c.if-not-unwritten.false (unsure c.tell_stay-in-Err.ensures c.in-Err.ensures.counted (record { before = c.args.files.now; after = c.exists.new.self; unseen = c.in-Err.ensures.unseen_path }) (record { same = c.exists.ensures.same; untraced = c.exists.ensures.untraced }))
