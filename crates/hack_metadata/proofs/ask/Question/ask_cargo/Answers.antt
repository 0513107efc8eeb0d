use Rattle.std.proofs.Common.{◌≡◌, inl, inr, refl, subst, map, string_bytes, rules, []}
use Rattle.std.proofs.lemmas.Result.{err_from_is_err_and}
use Rattle.hack_process.specs.Commands.{command_of, plain_command}
use Rattle.hack_metadata.specs.InternalAskView.{question_of}
use Rattle.hack_metadata.specs.QuestionCalls.{ReadsOutput, to_cargo}
use Rattle.hack_metadata.proofs.AskWays.{asked-counts, command-stops}
use Rattle.hack_metadata.proofs.ask.Question.ask_cargo.Goals as goal

pub returns-in_err-text-clause-asked : goal.returns-in_err-text-clause-asked
returns-in_err-text-clause-asked g c =
    let p = err_from_is_err_and c.from_residual-in_err-text.result c.from_residual-in_err-text.ensures.1 in
    let q = question_of c.args.self.now in
    let words = map string_bytes c.args.self.now.full.items in
    let is : command_of c.in_ok-asked.asked ≡ plain_command (question_of c.args.self.now).cargo [] (map string_bytes c.args.self.now.full.items) = search rules in
    rw (p.1, p.2) (λ told. inl (c.in_err-text.field-0.0, refl, command-stops g.C.Caller.tells q (g.C.Caller.calls c.args.caller.now) (g.C.Caller.calls c.read.new.caller) to_cargo (command_of c.in_ok-asked.asked) c.in_err-text.field-0.0 told tt (words, refl, is) c.in_err-text.ensures.err))

pub returns-clause-asked : goal.returns-clause-asked
returns-clause-asked g c =
    let q = question_of c.args.self.now in
    let words = map string_bytes c.args.self.now.full.items in
    let is : command_of c.in_ok-asked.asked ≡ plain_command (question_of c.args.self.now).cargo [] (map string_bytes c.args.self.now.full.items) = search rules in
    let old = g.C.Caller.calls c.args.caller.now in
    let new = g.C.Caller.calls c.read.new.caller in
    let text = string_bytes c.in_ok-text.text in
    λ told. inr (
      words,
      text,
      refl,
      subst (λ k. ReadsOutput k text old new) is (c.in_ok-text.ensures.ok told),
      asked-counts q new (plain_command q.cargo [] words) (command_of c.in_ok-asked.asked) text c.as_str-2.result.now q.cargo_version c.metadata_in.result is c.as_str-2.ensures.value c.metadata_in.ensures.ok c.metadata_in.ensures.err,
    )
