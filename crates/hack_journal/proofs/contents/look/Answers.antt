use Rattle.std.proofs.Common.{subst, sym}
use Rattle.std.specs.Prelude.{IsSome}
use Rattle.std.proofs.lemmas.Result.{err_from_is_err_and}
use Rattle.hack_files.proofs.FailedLemmas.{none_then}
use Rattle.hack_journal.proofs.FailedLemmas.{unseen_there}
use Rattle.hack_journal.proofs.contents.look.Goals as goal

pub returns-in_err-read-clause-unseen : goal.returns-in_err-read-clause-unseen
returns-in_err-read-clause-unseen g c =
    let p = err_from_is_err_and c.from_residual-in_err-read.result c.from_residual-in_err-read.ensures.1 in
    rw p.1 (unseen_there g.F.Files c.args.path.now c.args.files.now c.exists.new.self c.read.new.self
    (λ tells. subst IsSome (sym (c.in_ok-exists.ensures.same tells c.args.path.now)) ((c.in_ok-exists.ensures.there tells).0 c.if-branch.true))
    (record { unseen = c.in_ok-exists.ensures.unseen_path; refused = c.in_ok-exists.ensures.refused_none }) c.in_err-read.ensures.refused_none c.in_err-read.ensures.unseen)

pub returns-in_ok-read-clause-unseen : goal.returns-in_ok-read-clause-unseen
returns-in_ok-read-clause-unseen g c =
    none_then g.F.Files c.args.files.now c.exists.new.self c.read.new.self
    (record { unseen = c.in_ok-exists.ensures.unseen_path; refused = c.in_ok-exists.ensures.refused_none })
    (record { unseen = c.in_ok-read.ensures.unseen; refused = c.in_ok-read.ensures.refused_none })
