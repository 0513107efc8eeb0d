use Rattle.std.proofs.Common.{refl}
use Rattle.hack_base.specs.Names.{names_of}
use Rattle.hack_base.specs.Streams.{stream_of}
use Rattle.hack_recovery.specs.Restoring.IsBroughtBack.{brought, stopped}
use Rattle.hack_recovery.proofs.restore.bring_back.Goals as goal

pub returns-in-Ok-clause-came : goal.returns-in-Ok-clause-came
returns-in-Ok-clause-came g c =
    let came = c.in-Ok.ensures in
    brought (names_of c.in-Ok.paths.items) (record { failures = came.failures; none = record { before = c.args.files.now; after = c.recover.new.files; first = refl; last = refl; none = came.calls }; restored = came.restored; still = came.still; nearer = came.nearer; comes_back = came.comes_back; safe = came.safe; safe_after_cut = came.safe_after_cut })
    refl (rw c.deref.ensures.value at c.tell_all.ensures)

pub returns-in-Err-clause-came : goal.returns-in-Err-clause-came
returns-in-Err-clause-came g c =
    let came = c.in-Err.ensures in
    stopped c.in-Err.fault (record { failures = came.failures; cause = record { before = c.args.files.now; after = c.recover.new.files; first = refl; last = refl; failed = came.calls }; why = came.why; still = came.still; spared = came.spared; nearer = came.nearer; refused = came.refused; never = came.never; safe = came.safe; safe_after_cut = came.safe_after_cut }) c.tell_fault.ensures.told_as
    (stream_of g.E.Sink c.tell_why.new.err, c.tell_why.ensures, c.tell_fault.ensures.said)
