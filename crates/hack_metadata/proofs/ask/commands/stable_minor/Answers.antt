use Rattle.std.proofs.Common.{ap, ◌∙◌, string_bytes}
use Rattle.std.proofs.lemmas.Result.{IfOk-weaker}
use Rattle.hack_process.specs.Commands.{command_of}
use Rattle.hack_metadata.specs.QuestionCalls.{MinorOf, TellsStableMinor}
use Rattle.hack_metadata.specs.Requests.{version_command}
use Rattle.hack_metadata.proofs.AskLemmas.{told-stable, failed-stable}
use Rattle.hack_metadata.proofs.ask.commands.stable_minor.Goals as goal

pub returns-in-Some-clause-ok : goal.returns-in-Some-clause-ok
returns-in-Some-clause-ok g c =
    let old = g.C.Caller.calls c.args.caller.now in
    let new = g.C.Caller.calls c.try_read.new.caller in
    let rustup = string_bytes c.args.env.now.rustup in
    IfOk-weaker c.told_minor.result (MinorOf c.as_str-in-Some.result.now) (λ minor. g.C.Caller.tells → TellsStableMinor rustup minor old new)
    (λ minor of. told-stable g.C.Caller.tells rustup (command_of c.in_ok-asked.asked) c.in_ok-answer.field-0 c.in-Some.answer c.as_str-in-Some.result.now minor old new
    (c.in_ok-asked.ensures ∙ ap version_command c.as_str.ensures.value) c.in-Some.is c.as_str-in-Some.ensures.value c.in_ok-answer.ensures.ok of)
    c.told_minor.ensures

pub returns-clause-ok : goal.returns-clause-ok
returns-clause-ok g c =
    failed-stable g.C.Caller.tells (string_bytes c.args.env.now.rustup) (command_of c.in_ok-asked.asked) c.in_ok-answer.field-0 (g.C.Caller.calls c.args.caller.now) (g.C.Caller.calls c.try_read.new.caller)
    (c.in_ok-asked.ensures ∙ ap version_command c.as_str.ensures.value) c.in-None.is c.in_ok-answer.ensures.ok
