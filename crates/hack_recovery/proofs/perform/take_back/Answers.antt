use Rattle.std.proofs.Common.{ap, refl}
use Rattle.hack_base.specs.Streams.{stream_of}
use Rattle.hack_files.specs.View.{files_view}
use Rattle.hack_run.specs.Worlds.{HostView}
use Rattle.hack_recovery.specs.Restoring.TakesBack.{older_unrestored, settled, unrestored}
use Rattle.hack_recovery.proofs.WayLemmas.{done_true, not_done}
use Rattle.hack_recovery.proofs.perform.take_back.Goals as goal

pub returns-then-not-is_done-clause-goes : goal.returns-then-not-is_done-clause-goes
returns-then-not-is_done-clause-goes g c = λ unkept locks guards.
    unrestored (rw c.as_str-dir.ensures.value at c.restore-journal.ensures) (not_done _ _ c.is_done.ensures c.if-not-is_done.true) refl

pub returns-then-not-is_done-2-clause-goes : goal.returns-then-not-is_done-2-clause-goes
returns-then-not-is_done-2-clause-goes g c = λ unkept locks guards.
    older_unrestored (files_view g.F.Files c.restore-journal.new.files) c.restore-journal.new.term (stream_of g.E.Sink c.restore-journal.new.err)
    (rw (c.as_str-dir.ensures.value, done_true _ _ c.is_done.ensures c.if-not-is_done.false) at c.restore-journal.ensures)
    (rw c.as_str-dir.ensures.value at c.restore-older.ensures) (not_done _ _ c.is_done-2.ensures c.if-not-is_done-2.true) refl

pub returns-clause-goes : goal.returns-clause-goes
returns-clause-goes g c = λ unkept locks guards.
    let settled-by = c.settle.ensures in
    settled (files_view g.F.Files c.restore-journal.new.files) (files_view g.F.Files c.restore-older.new.files) c.restore-journal.new.term c.restore-older.new.term
    (stream_of g.E.Sink c.restore-journal.new.err) (stream_of g.E.Sink c.restore-older.new.err)
    (rw (c.as_str-dir.ensures.value, done_true _ _ c.is_done.ensures c.if-not-is_done.false) at c.restore-journal.ensures)
    (rw (c.as_str-dir.ensures.value, done_true _ _ c.is_done-2.ensures c.if-not-is_done-2.false) at c.restore-older.ensures)
    (record {
      gone = settled-by.gone;
      counted = λ done. (settled-by.counted done, settled-by.lockfiles_counted done);
      failed = (settled-by.failed, settled-by.lockfiles_failed);
      others = settled-by.others;
      made = settled-by.made;
      given = settled-by.given;
      kept = settled-by.kept;
      only = settled-by.only;
      left = λ off. record { same = settled-by.left off; untraced = settled-by.untraced off };
      wrote = settled-by.wrote;
      none = settled-by.none;
      apart = settled-by.apart;
      told = settled-by.told;
      said = settled-by.said;
      quiet = record {
        calls = ap (λ (h : HostView). h.calls) settled-by.view;
        out = ap (λ (h : HostView). h.out) settled-by.view;
        stdout = ap (stream_of g.O.Sink) settled-by.still.1;
        fails = ap (λ (h : HostView). h.fails) settled-by.view;
        unkept = refl;
        locks = refl;
        guards = refl;
      };
    })
