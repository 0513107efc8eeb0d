use Rattle.std.proofs.Common.{◌≡◌, string_bytes, rules}
use Rattle.std.proofs.lemmas.Result.{IfOk-weaker}
use Rattle.hack_process.specs.Commands.{command_of}
use Rattle.hack_load.specs.CargoQuestions.{self_command}
use Rattle.hack_load.proofs.AskLemmas.{self-failed}
use Rattle.hack_load.proofs.cargo_version.CargoVersion.ask.Goals as goal

pub returns-clause-ok : goal.returns-clause-ok
returns-clause-ok g c =
    let is : command_of c.in_ok-asked.asked ≡ self_command (string_bytes c.args.env.now.cargo) = search rules in
    IfOk-weaker c.of_failure.result _ _ (λ t h told.
    self-failed g.C.Caller.tells c.args.args.now c.args.env.now (command_of c.in_ok-asked.asked) c.as_str.result.now (g.C.Caller.calls c.args.caller.now) (g.C.Caller.calls c.read.new.caller)
    c.in-Err.fault _ _ is c.as_str.ensures.value c.in-Err.ensures.err told h) c.of_failure.ensures
