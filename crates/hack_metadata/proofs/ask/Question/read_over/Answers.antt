use Rattle.std.proofs.Common.{inl, inr, refl, Err}
use Rattle.std.proofs.lemmas.Result.{err_from_is_err_and}
use Rattle.hack_files.specs.FailedCalls.{WriteFailed}
use Rattle.hack_files.specs.Restore.{Kept, registered_files}
use Rattle.hack_files.proofs.FailedLemmas.{none_then, write_then}
use Rattle.hack_files.proofs.RefusalLemmas.{but_same, but_then}
use Rattle.hack_metadata.proofs.AskWays.{held-back, held-or-not, restored, unread-over}
use Rattle.hack_metadata.proofs.FailedLemmas.{path-then, write-of}
use Rattle.hack_metadata.proofs.SpoiltLemmas.{but_one, left-grows}
use Rattle.hack_metadata.proofs.ask.Question.read_over.Goals as goal

pub returns-in_err-keep-clause-err : goal.returns-in_err-keep-clause-err
returns-in_err-keep-clause-err g c =
    let p = err_from_is_err_and c.from_residual.result c.from_residual.ensures.1 in
    rw (p.1, p.2) (unread-over c.args.over.now.lockfile.now _ _ c.in_err-keep.field-0.0 (λ told. refl) (λ told. inl refl) c.in_err-keep.ensures.fault)

pub returns-in-Ok-clause-left : goal.returns-in-Ok-clause-left
returns-in-Ok-clause-left g c =
    restored c.args.over.now.lockfile.now g.F.Files.tells (g.F.Files.bytes_at c.args.files.now) (g.F.Files.bytes_at c.keep.new.files) (g.F.Files.bytes_at c.put_back.new.files) (g.F.Files.failed c.args.files.now) (g.F.Files.failed c.keep.new.files) (g.F.Files.failed c.put_back.new.files)
    (registered_files c.args.manager.now) (registered_files c.keep.new.manager) c.in_ok-keep.ensures.left c.in_ok-keep.ensures.ok c.in_ok-put_back.ensures.back

pub returns-in-Ok-clause-back : goal.returns-in-Ok-clause-back
returns-in-Ok-clause-back g c =
    held-back g.F.Files.tells g.F.Files.whole c.args.over.now.lockfile.now (g.F.Files.bytes_at c.args.files.now) (g.F.Files.bytes_at c.keep.new.files) (g.F.Files.bytes_at c.put_back.new.files) (g.F.Files.trace c.args.files.now) (g.F.Files.trace c.keep.new.files) (g.F.Files.trace c.put_back.new.files)
    (registered_files c.args.manager.now) (registered_files c.keep.new.manager) c.in_ok-keep.ensures.ok c.in_ok-keep.ensures.untraced c.in_ok-put_back.ensures.traced

pub returns-in-Err-clause-left : goal.returns-in-Err-clause-left
returns-in-Err-clause-left g c =
    inl (restored c.args.over.now.lockfile.now g.F.Files.tells (g.F.Files.bytes_at c.args.files.now) (g.F.Files.bytes_at c.keep.new.files) (g.F.Files.bytes_at c.put_back.new.files) (g.F.Files.failed c.args.files.now) (g.F.Files.failed c.keep.new.files) (g.F.Files.failed c.put_back.new.files)
    (registered_files c.args.manager.now) (registered_files c.keep.new.manager) c.in_ok-keep.ensures.left c.in_ok-keep.ensures.ok c.in_ok-put_back.ensures.back)

pub returns-in_err-keep-clause-spoilt : goal.returns-in_err-keep-clause-spoilt
returns-in_err-keep-clause-spoilt g c =
    but_same (g.F.Files.refuses c.args.files.now c.keep.new.files) _ _ _ (g.F.Files.refuses_some _ _ (left-grows {X = Unit {0}} _ _ _ _ _ _ (Err c.in_err-keep.field-0.0) c.in_err-keep.ensures.left)) c.in_err-keep.ensures.same

pub returns-in_err-put_back-clause-spoilt : goal.returns-in_err-put_back-clause-spoilt
returns-in_err-put_back-clause-spoilt g c =
    let kept = c.in_ok-keep.ensures.ok in
    let path = c.args.over.now.lockfile.now in
    but_then (g.F.Files.refuses c.args.files.now c.keep.new.files) (g.F.Files.refuses c.keep.new.files c.put_back.new.files) (g.F.Files.refuses c.args.files.now c.put_back.new.files) _ _ _ _ (λ ps qs one other. g.F.Files.refuses_more _ _ _ ps qs one other)
    (but_same _ _ _ _ (g.F.Files.refuses_some _ _ (0, c.in_ok-keep.ensures.left.0)) c.in_ok-keep.ensures.same)
    (but_one _ _ path _ _ (c.in_err-put_back.ensures.refused_path (record { path = path; bytes = kept.0 }) _ kept.1) (c.in_err-put_back.ensures.back (record { path = path; bytes = kept.0 }) _ kept.1).1.1)

pub returns-in-Ok-clause-spoilt : goal.returns-in-Ok-clause-spoilt
returns-in-Ok-clause-spoilt g c =
    let whole = restored c.args.over.now.lockfile.now g.F.Files.tells (g.F.Files.bytes_at c.args.files.now) (g.F.Files.bytes_at c.keep.new.files) (g.F.Files.bytes_at c.put_back.new.files) (g.F.Files.failed c.args.files.now) (g.F.Files.failed c.keep.new.files) (g.F.Files.failed c.put_back.new.files)
    (registered_files c.args.manager.now) (registered_files c.keep.new.manager) c.in_ok-keep.ensures.left c.in_ok-keep.ensures.ok c.in_ok-put_back.ensures.back in
    but_same (g.F.Files.refuses c.args.files.now c.put_back.new.files) _ _ _ (g.F.Files.refuses_some _ _ (0, whole.0)) whole.1

pub returns-in-Err-clause-spoilt : goal.returns-in-Err-clause-spoilt
returns-in-Err-clause-spoilt g c =
    let whole = restored c.args.over.now.lockfile.now g.F.Files.tells (g.F.Files.bytes_at c.args.files.now) (g.F.Files.bytes_at c.keep.new.files) (g.F.Files.bytes_at c.put_back.new.files) (g.F.Files.failed c.args.files.now) (g.F.Files.failed c.keep.new.files) (g.F.Files.failed c.put_back.new.files)
    (registered_files c.args.manager.now) (registered_files c.keep.new.manager) c.in_ok-keep.ensures.left c.in_ok-keep.ensures.ok c.in_ok-put_back.ensures.back in
    but_same (g.F.Files.refuses c.args.files.now c.put_back.new.files) _ _ _ (g.F.Files.refuses_some _ _ (0, whole.0)) whole.1

pub returns-in_err-put_back-clause-calls : goal.returns-in_err-put_back-clause-calls
returns-in_err-put_back-clause-calls g c =
    let p = err_from_is_err_and c.from_residual-in_err-put_back.result c.from_residual-in_err-put_back.ensures.1 in
    let path = c.args.over.now.lockfile.now in
    let kept = c.in_ok-keep.ensures.ok in
    let file : Kept = record { path = path; bytes = kept.0 } in
    let refused : WriteFailed g.F.Files path c.keep.new.files c.put_back.new.files = record { unseen = c.in_err-put_back.ensures.unseen_none; refused = c.in_err-put_back.ensures.refused_path file _ kept.1 } in
    rw (p.1, p.2) (path-then g.F.Files path c.args.files.now c.keep.new.files c.put_back.new.files c.in_err-put_back.field-0.0 c.in_ok-keep.ensures.calls c.in_ok-keep.ensures.same (write-of g.F.Files path _ _ c.in_err-put_back.field-0.0 (c.in_err-put_back.ensures.back file _ kept.1).0 refused))

pub returns-in_err-put_back-clause-undone : goal.returns-in_err-put_back-clause-undone
returns-in_err-put_back-clause-undone g c =
    let path = c.args.over.now.lockfile.now in
    let kept = c.in_ok-keep.ensures.ok in
    inr (inl (write_then g.F.Files path _ _ _ c.in_ok-keep.ensures.calls (record { unseen = c.in_err-put_back.ensures.unseen_none; refused = c.in_err-put_back.ensures.refused_path (record { path = path; bytes = kept.0 }) _ kept.1 })))

pub returns-in-Ok-clause-calls : goal.returns-in-Ok-clause-calls
returns-in-Ok-clause-calls g c =
    let kept = c.in_ok-keep.ensures.ok in
    none_then g.F.Files _ _ _ c.in_ok-keep.ensures.calls (record { unseen = c.in_ok-put_back.ensures.unseen_none; refused = c.in_ok-put_back.ensures.refused_path (record { path = c.args.over.now.lockfile.now; bytes = kept.0 }) _ kept.1 })

pub returns-in-Ok-clause-undone : goal.returns-in-Ok-clause-undone
returns-in-Ok-clause-undone g c = inr (inr (returns-in-Ok-clause-calls g c, returns-in-Ok-clause-back g c))

pub returns-in-Err-clause-calls : goal.returns-in-Err-clause-calls
returns-in-Err-clause-calls g c =
    let kept = c.in_ok-keep.ensures.ok in
    inl (none_then g.F.Files _ _ _ c.in_ok-keep.ensures.calls (record { unseen = c.in_ok-put_back.ensures.unseen_none; refused = c.in_ok-put_back.ensures.refused_path (record { path = c.args.over.now.lockfile.now; bytes = kept.0 }) _ kept.1 }))

pub returns-in-Err-clause-undone : goal.returns-in-Err-clause-undone
returns-in-Err-clause-undone g c =
    let kept = c.in_ok-keep.ensures.ok in
    inr (inr (
      none_then g.F.Files _ _ _ c.in_ok-keep.ensures.calls (record { unseen = c.in_ok-put_back.ensures.unseen_none; refused = c.in_ok-put_back.ensures.refused_path (record { path = c.args.over.now.lockfile.now; bytes = kept.0 }) _ kept.1 }),
      held-back g.F.Files.tells g.F.Files.whole c.args.over.now.lockfile.now (g.F.Files.bytes_at c.args.files.now) (g.F.Files.bytes_at c.keep.new.files) (g.F.Files.bytes_at c.put_back.new.files) (g.F.Files.trace c.args.files.now) (g.F.Files.trace c.keep.new.files) (g.F.Files.trace c.put_back.new.files)
          (registered_files c.args.manager.now) (registered_files c.keep.new.manager) c.in_ok-keep.ensures.ok c.in_ok-keep.ensures.untraced c.in_ok-put_back.ensures.traced,
    ))

pub returns-in_err-put_back-clause-refused : goal.returns-in_err-put_back-clause-refused
returns-in_err-put_back-clause-refused g c =
    let p = err_from_is_err_and c.from_residual-in_err-put_back.result c.from_residual-in_err-put_back.ensures.1 in
    rw p.1 (held-or-not g.F.Files.tells g.F.Files.whole c.args.over.now.lockfile.now (g.F.Files.bytes_at c.args.files.now) (g.F.Files.bytes_at c.keep.new.files) (g.F.Files.bytes_at c.put_back.new.files) (g.F.Files.trace c.args.files.now) (g.F.Files.trace c.keep.new.files) (g.F.Files.trace c.put_back.new.files)
    (registered_files c.args.manager.now) (registered_files c.keep.new.manager) c.in_ok-keep.ensures.ok c.in_ok-keep.ensures.untraced c.in_err-put_back.ensures.refused)

pub returns-in-Err-clause-refused : goal.returns-in-Err-clause-refused
returns-in-Err-clause-refused g c = λ w.
    let put = held-back g.F.Files.tells g.F.Files.whole c.args.over.now.lockfile.now (g.F.Files.bytes_at c.args.files.now) (g.F.Files.bytes_at c.keep.new.files) (g.F.Files.bytes_at c.put_back.new.files) (g.F.Files.trace c.args.files.now) (g.F.Files.trace c.keep.new.files) (g.F.Files.trace c.put_back.new.files)
    (registered_files c.args.manager.now) (registered_files c.keep.new.manager) c.in_ok-keep.ensures.ok c.in_ok-keep.ensures.untraced c.in_ok-put_back.ensures.traced in
    inr (put.0, put.1, put.2 w)
