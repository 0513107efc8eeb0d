use Rattle.std.proofs.Common.{refl}
use Rattle.hack_recovery.specs.CallCourses.IsCopyDropped.{gone, refused}
use Rattle.hack_recovery.proofs.closing.end_copy.Goals as goal

pub returns-then-unwritten-clause-told : goal.returns-then-unwritten-clause-told
returns-then-unwritten-clause-told g c = rw c.if-unwritten.true (rw c.if-unwritten.true at c.tell_copy.ensures.told)

pub returns-in-Ok-clause-told : goal.returns-in-Ok-clause-told
returns-in-Ok-clause-told g c = rw c.if-unwritten.false (gone refl refl c.in-Ok.ensures.counted c.in-Ok.ensures.removed)

pub returns-in-Err-clause-told : goal.returns-in-Err-clause-told
returns-in-Err-clause-told g c =
    rw c.if-unwritten.false (refused c.tell_stay.ensures c.in-Err.ensures.counted (record { before = c.args.files.now; after = c.remove.new.self; refused = c.in-Err.ensures.refused_path }))
