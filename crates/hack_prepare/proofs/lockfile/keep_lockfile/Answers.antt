use Rattle.std.proofs.Common.{◌≡◌, ◌∙◌, inr, refl, Some, IfSome, true, ap, subst, sym}
use Rattle.hack_files.specs.Restore.{is_kept, registered_files}
use Rattle.std.specs.Prelude.{IsSome}
use Rattle.hack_prepare.proofs.FailedLemmas.{calls-on, look-fails, unseen-there}
use Rattle.hack_prepare.specs.Internal.{Nowhere, Only}
use Rattle.hack_prepare.proofs.OrderLemmas.{next-one}
use Rattle.hack_prepare.proofs.StepLemmas.{locked, locked_now}
use Rattle.hack_prepare.proofs.lockfile.keep_lockfile.Goals as goal

pub returns-clause-step : goal.returns-clause-step
returns-clause-step g c =
    let path = c.args.path.now in
    locked g.F.Files.tells (record { path = path; bytes = c.deref.result.now }) c.args.manager.now c.register_once.new.self
    (g.F.Files.bytes_at c.args.files.now) (g.F.Files.bytes_at c.read.new.files)
    c.in_ok-register_once-in-Ok.ensures.ok c.register_once.ensures.needs
    (λ t. sym (c.exists.ensures.same t path) ∙ c.in-Ok.ensures.bytes t ∙ ap Some (sym c.deref.ensures.value)) (λ t q. c.read.ensures.same t q ∙ c.exists.ensures.same t q)

pub returns-clause-kept : goal.returns-clause-kept
returns-clause-kept g c = λ t e.
    let path = c.args.path.now in
    subst (λ o. IfSome o (λ _. is_kept (registered_files c.register_once.new.self) path ≡ true)) (sym (c.in-Ok.ensures.bytes t) ∙ c.exists.ensures.same t path)
    (locked_now (record { path = path; bytes = c.deref.result.now }) c.args.manager.now c.register_once.new.self c.in_ok-register_once-in-Ok.ensures.ok e)

pub returns-clause-order : goal.returns-clause-order
returns-clause-order g c =
    inr (next-one (record { path = c.args.path.now; bytes = c.deref.result.now }) c.args.manager.now c.register_once.new.self c.in_ok-register_once-in-Ok.ensures.ok)

pub returns-in-Err-read-clause-calls : goal.returns-in-Err-read-clause-calls
returns-in-Err-read-clause-calls g c =
    look-fails g.F.Files Nowhere (Only c.args.path.now) Nowhere c.args.path.now c.in-Err-read.fault c.of_file-in-Err-read.result c.args.files.now c.read.new.files refl c.in-Err-read.ensures.fault c.of_file-in-Err-read.ensures
    (unseen-there g.F.Files c.args.path.now c.args.files.now c.exists.new.files c.read.new.files
    (λ t. subst IsSome (sym (c.exists.ensures.same t c.args.path.now)) ((c.in-Ok-true.ensures.there t).0 c.in-Ok-true.field-0-test))
    (record { unseen = c.in-Ok-true.ensures.unseen_path; refused = c.exists.ensures.refused_none }) c.read.ensures.refused_none c.in-Err-read.ensures.unseen)

pub returns-clause-calls : goal.returns-clause-calls
returns-clause-calls g c =
    calls-on g.F.Files c.args.files.now c.exists.new.files c.read.new.files
    (record { unseen = c.in-Ok-true.ensures.unseen_path; refused = c.exists.ensures.refused_none })
    (record { unseen = c.in-Ok.ensures.unseen; refused = c.read.ensures.refused_none })

pub returns-in-Err-clause-calls : goal.returns-in-Err-clause-calls
returns-in-Err-clause-calls g c =
    look-fails g.F.Files Nowhere (Only c.args.path.now) Nowhere c.args.path.now c.in-Err.fault c.of_file.result c.args.files.now c.exists.new.files refl c.in-Err.ensures.fault c.of_file.ensures
    (record { unseen = c.in-Err.ensures.unseen_path; refused = c.exists.ensures.refused_none })
