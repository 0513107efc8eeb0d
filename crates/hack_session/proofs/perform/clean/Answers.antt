use Rattle.std.proofs.Common.{ap, ◌∙◌, Err, inr}
use Rattle.std.proofs.lemmas.Result.{err_from_is_err_and}
use Rattle.hack_process.specs.Commands.{command_of}
use Rattle.hack_session.specs.StepEffects.{cleaning_task, scene_of}
use Rattle.hack_session.specs.StepOutput.{manner_on}
use Rattle.hack_session.proofs.EffectLemmas.{refused_task}
use Rattle.hack_session.proofs.perform.clean.Goals as goal

pub returns-in_err-tell_cleaning-clause-does : goal.returns-in_err-tell_cleaning-clause-does
returns-in_err-tell_cleaning-clause-does g c =
    let p = err_from_is_err_and c.from_residual.result c.from_residual.ensures.1 in
    refused_task g.C.Caller.tells c.from_residual.result (cleaning_task (manner_on c.args.screen.now) c.args.dir.now (command_of c.args.command.now)) (scene_of g.C.Caller g.O.Sink g.E.Sink c.args.caller.now c.args.screen.now) (scene_of g.C.Caller g.O.Sink g.E.Sink c.args.caller.now c.tell_cleaning.new.self) (p.1 ∙ ap Err p.2) (ap (scene_of g.C.Caller g.O.Sink g.E.Sink c.args.caller.now) c.in_err-tell_cleaning.ensures.err)

pub returns-clause-does : goal.returns-clause-does
returns-clause-does g c = inr (c.in_ok-tell_cleaning.ensures.ok, c.call.ensures.comes)
