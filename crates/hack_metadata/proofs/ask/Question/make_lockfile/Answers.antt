use Rattle.std.proofs.Common.{◌≡◌, [], inl, refl, subst, rules}
use Rattle.std.proofs.lemmas.Bool.{iff_false}
use Rattle.std.proofs.lemmas.Result.{err_from_is_err_and, on_ok_weaker, IfErr-weaker}
use Rattle.hack_process.specs.CommandTexts.{text_of}
use Rattle.hack_process.specs.Commands.{asked_of, command_of}
use Rattle.std.specs.Prelude.{true}
use Rattle.hack_metadata.specs.InternalAskView.{question_of}
use Rattle.hack_metadata.specs.QuestionCalls.{Runs, first, is_there, is_made, is_missing, missing}
use Rattle.hack_metadata.specs.Requests.{lock_command}
use Rattle.hack_metadata.specs.declared.ask.fault.AskFault.TheVariants.{Memory}
use Rattle.hack_metadata.proofs.AskWays.{command-stops, run-fails, there-stops}
use Rattle.hack_metadata.proofs.FailedLemmas.{look-first, look-of, missing-ends, run-looks}
use Rattle.hack_metadata.proofs.ask.Question.make_lockfile.Goals as goal

pub returns-in_err-is_there-clause-err : goal.returns-in_err-is_there-clause-err
returns-in_err-is_there-clause-err g c =
    let p = err_from_is_err_and c.from_residual.result c.from_residual.ensures.1 in
    let e = c.in_err-is_there.field-0.0 in
    let looked = look-of g.F.Files c.args.lockfile.now c.args.files.now c.is_there.new.files e c.in_err-is_there.ensures.fault (record { unseen = c.in_err-is_there.ensures.unseen; refused = c.in_err-is_there.ensures.refused_none }) in
    rw (p.1, p.2) (λ called start minor text lock way. (
      first minor text,
      g.C.Caller.calls c.args.caller.now,
      [],
      way,
      there-stops (question_of c.args.self.now) (g.C.Caller.calls c.args.caller.now) minor text c.args.lockfile.now e lock c.in_err-is_there.ensures.fault,
      c.in_err-is_there.ensures.untraced,
      look-first g.F.Files text c.args.lockfile.now c.args.files.now c.is_there.new.files e lock looked,
    ))

pub returns-then-branch-clause-ok : goal.returns-then-branch-clause-ok
returns-then-branch-clause-ok g c = λ called start minor text lock way. is_there c.args.lockfile.now way lock (λ told. (c.in_ok-is_there.ensures.there told).0 c.if-branch.true)

pub returns-clause-ok : goal.returns-clause-ok
returns-clause-ok g c =
    let is : command_of c.in_ok-asked.asked ≡ lock_command (question_of c.args.self.now) = search rules in
    on_ok_weaker c.run.result (λ h called start minor text lock way.
    is_made (is_missing c.args.lockfile.now way lock (λ told. iff_false (c.in_ok-is_there.ensures.there told) c.if-branch.false))
    (subst (λ k. Runs k (g.C.Caller.calls c.args.caller.now) (g.C.Caller.calls c.run.new.caller)) is (h called)))
    c.run.ensures.ok

pub returns-in_err-rest-clause-err : goal.returns-in_err-rest-clause-err
returns-in_err-rest-clause-err g c =
    let p = err_from_is_err_and c.from_residual-in_err-rest.result c.from_residual-in_err-rest.ensures.1 in
    let files = c.is_there.new.files in
    let calls = g.C.Caller.calls c.args.caller.now in
    rw (p.1, p.2) (λ called start minor text lock way. missing-ends g.F.Files (question_of c.args.self.now) c.args.files.now files start calls
    (record { unseen = c.in_ok-is_there.ensures.unseen; refused = c.in_ok-is_there.ensures.refused_none }) calls minor text Memory
    (is_missing c.args.lockfile.now way lock (λ told. iff_false (c.in_ok-is_there.ensures.there told) c.if-branch.false)) c.in_ok-is_there.ensures.untraced (inl refl))

pub returns-in_err-asked-clause-err : goal.returns-in_err-asked-clause-err
returns-in_err-asked-clause-err g c =
    let p = err_from_is_err_and c.from_residual-in_err-asked.result c.from_residual-in_err-asked.ensures.1 in
    let files = c.is_there.new.files in
    let calls = g.C.Caller.calls c.args.caller.now in
    rw (p.1, p.2) (λ called start minor text lock way. missing-ends g.F.Files (question_of c.args.self.now) c.args.files.now files start calls
    (record { unseen = c.in_ok-is_there.ensures.unseen; refused = c.in_ok-is_there.ensures.refused_none }) calls minor text Memory
    (is_missing c.args.lockfile.now way lock (λ told. iff_false (c.in_ok-is_there.ensures.there told) c.if-branch.false)) c.in_ok-is_there.ensures.untraced (inl refl))

pub returns-clause-err : goal.returns-clause-err
returns-clause-err g c =
    let is : command_of c.in_ok-asked.asked ≡ lock_command (question_of c.args.self.now) = search rules in
    let old = g.C.Caller.calls c.args.caller.now in
    let new = g.C.Caller.calls c.run.new.caller in
    let q = question_of c.args.self.now in
    let asked = command_of c.in_ok-asked.asked in
    IfErr-weaker c.run.result _ _ (λ e h called start minor text lock way. missing-ends g.F.Files q c.args.files.now c.is_there.new.files start new
    (record { unseen = c.in_ok-is_there.ensures.unseen; refused = c.in_ok-is_there.ensures.refused_none }) old minor text e
    (is_missing c.args.lockfile.now way lock (λ told. iff_false (c.in_ok-is_there.ensures.there told) c.if-branch.false)) c.in_ok-is_there.ensures.untraced
    (command-stops g.C.Caller.tells q old new (missing minor text) asked e called tt is (run-fails _ g.C.Caller.tells (asked_of true asked) (text_of true q.dir asked) old new e h)))
    c.run.ensures.err

pub returns-in_err-is_there-clause-looked : goal.returns-in_err-is_there-clause-looked
returns-in_err-is_there-clause-looked g c =
    let p = err_from_is_err_and c.from_residual.result c.from_residual.ensures.1 in
    rw (p.1, p.2) (look-of g.F.Files c.args.lockfile.now _ _ c.in_err-is_there.field-0.0 c.in_err-is_there.ensures.fault (record { unseen = c.in_err-is_there.ensures.unseen; refused = c.in_err-is_there.ensures.refused_none }))

pub returns-then-branch-clause-none : goal.returns-then-branch-clause-none
returns-then-branch-clause-none g c = record { unseen = c.in_ok-is_there.ensures.unseen; refused = c.in_ok-is_there.ensures.refused_none }

pub returns-in_err-rest-clause-looked : goal.returns-in_err-rest-clause-looked
returns-in_err-rest-clause-looked g c =
    let p = err_from_is_err_and c.from_residual-in_err-rest.result c.from_residual-in_err-rest.ensures.1 in
    rw (p.1, p.2) (inl (record { unseen = c.in_ok-is_there.ensures.unseen; refused = c.in_ok-is_there.ensures.refused_none }))

pub returns-in_err-asked-clause-looked : goal.returns-in_err-asked-clause-looked
returns-in_err-asked-clause-looked g c =
    let p = err_from_is_err_and c.from_residual-in_err-asked.result c.from_residual-in_err-asked.ensures.1 in
    rw (p.1, p.2) (inl (record { unseen = c.in_ok-is_there.ensures.unseen; refused = c.in_ok-is_there.ensures.refused_none }))

pub returns-clause-none : goal.returns-clause-none
returns-clause-none g c =
    on_ok_weaker c.run.result (λ h. record { unseen = c.in_ok-is_there.ensures.unseen; refused = c.in_ok-is_there.ensures.refused_none }) c.run.ensures.ok

pub returns-clause-looked : goal.returns-clause-looked
returns-clause-looked g c =
    IfErr-weaker c.run.result _ _ (λ e h. run-looks g.F.Files _ _ c.args.lockfile.now _ _ e h (record { unseen = c.in_ok-is_there.ensures.unseen; refused = c.in_ok-is_there.ensures.refused_none })) c.run.ensures.err
