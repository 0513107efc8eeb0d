use Rattle.std.proofs.Common.{◌≡◌, inl, inr, refl, subst, string_bytes, rules}
use Rattle.std.proofs.lemmas.Result.{err_from_is_err_and}
use Rattle.hack_process.specs.CommandTexts.{text_of}
use Rattle.hack_process.specs.Commands.{command_of}
use Rattle.hack_metadata.specs.InternalAskView.{question_of}
use Rattle.hack_metadata.specs.QuestionCalls.{ReadsOutput, first, newer, root_of}
use Rattle.hack_metadata.specs.InternalQuestionCalls.{IsTextFault}
use Rattle.hack_metadata.specs.Requests.{first_command}
use Rattle.hack_metadata.proofs.AskWays.{command-stops, text-stops}
use Rattle.hack_metadata.proofs.ask.Question.first.Goals as goal

pub returns-in_err-text-clause-err : goal.returns-in_err-text-clause-err
returns-in_err-text-clause-err g c =
    let p = err_from_is_err_and c.from_residual-in_err-text.result c.from_residual-in_err-text.ensures.1 in
    let is : command_of c.in_ok-command.command ≡ first_command (question_of c.args.self.now) = search rules in
    rw (p.1, p.2) (λ told minor. inl (command-stops g.C.Caller.tells (question_of c.args.self.now) (g.C.Caller.calls c.args.caller.now) (g.C.Caller.calls c.read.new.caller) (newer minor) (command_of c.in_ok-command.command) c.in_err-text.field-0.0 told tt is c.in_err-text.ensures.err))

pub returns-in_err-root-clause-err : goal.returns-in_err-root-clause-err
returns-in_err-root-clause-err g c =
    let p = err_from_is_err_and c.from_residual-in_err-root.result c.from_residual-in_err-root.ensures.1 in
    let q = question_of c.args.self.now in
    let asked = command_of c.in_ok-command.command in
    let is : command_of c.in_ok-command.command ≡ first_command (question_of c.args.self.now) = search rules in
    let old = g.C.Caller.calls c.args.caller.now in
    let new = g.C.Caller.calls c.read.new.caller in
    let text = string_bytes c.in_ok-text.text in
    rw (p.1, p.2) (λ told minor. inr (
      text,
      subst (λ k. ReadsOutput k text old new) is (c.in_ok-text.ensures.ok told),
      text-stops q new (first minor text) asked text root_of c.in_err-root.field-0.0
          (is, refl) (λ name ms o f. (ms, o, f)) (subst (λ t. IsTextFault root_of t (text_of q.verbose q.dir asked) c.in_err-root.field-0.0) c.as_str-2.ensures.value c.in_err-root.ensures.err),
    ))

pub returns-in_err-lockfile-clause-err : goal.returns-in_err-lockfile-clause-err
returns-in_err-lockfile-clause-err g c =
    let p = err_from_is_err_and c.from_residual-in_err-lockfile.result c.from_residual-in_err-lockfile.ensures.1 in
    let is : command_of c.in_ok-command.command ≡ first_command (question_of c.args.self.now) = search rules in
    let old = g.C.Caller.calls c.args.caller.now in
    let new = g.C.Caller.calls c.read.new.caller in
    let text = string_bytes c.in_ok-text.text in
    rw (p.1, p.2) (λ told minor. inr (text, subst (λ k. ReadsOutput k text old new) is (c.in_ok-text.ensures.ok told), inl refl))

pub returns-clause-ok : goal.returns-clause-ok
returns-clause-ok g c =
    let is : command_of c.in_ok-command.command ≡ first_command (question_of c.args.self.now) = search rules in
    λ told. subst (λ k. ReadsOutput k (string_bytes c.in_ok-text.text) (g.C.Caller.calls c.args.caller.now) (g.C.Caller.calls c.read.new.caller)) is (c.in_ok-text.ensures.ok told)
