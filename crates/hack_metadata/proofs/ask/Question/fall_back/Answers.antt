use Rattle.std.proofs.Common.{inl, inr, refl, string_bytes}
use Rattle.hack_process.specs.Commands.{command_of}
use Rattle.hack_metadata.specs.InternalAskView.{question_of}
use Rattle.hack_metadata.specs.Requests.{first_command}
use Rattle.hack_metadata.proofs.AskWays.{asked-counts}
use Rattle.hack_metadata.proofs.ask.Question.fall_back.Goals as goal

pub returns-then-self-clause-fell : goal.returns-then-self-clause-fell
returns-then-self-clause-fell g c = λ told first. inr (c.if-self.true, c.ask_cargo.ensures.asked told)

pub returns-clause-fell : goal.returns-clause-fell
returns-clause-fell g c =
    let q = question_of c.args.self.now in
    λ told first. inl (
      c.if-self.false,
      refl,
      asked-counts q (g.C.Caller.calls c.args.caller.now) (first_command q) (command_of c.args.first.now.command) (string_bytes c.args.first.now.text) c.as_str-text.result.now q.cargo_version c.metadata_in.result first c.as_str-text.ensures.value
          c.metadata_in.ensures.ok c.metadata_in.ensures.err,
    )
