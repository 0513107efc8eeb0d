use Rattle.std.proofs.Common.{ap, ◌∙◌, Err, None, refl}
use Rattle.std.proofs.lemmas.Result.{err_from_is_err_and}
use Rattle.hack_process.specs.Commands.{command_of}
use Rattle.hack_plan.specs.Commands.{clean_command}
use Rattle.hack_session.specs.StepEffects.{cleaning_task, scene_of}
use Rattle.hack_session.specs.StepOutput.{manner_on}
use Rattle.hack_session.proofs.EffectLemmas.{cleaned_as, refused_task}
use Rattle.hack_session.proofs.perform.clean_all.Goals as goal

pub returns-in_err-command-clause-does : goal.returns-in_err-command-clause-does
returns-in_err-command-clause-does g c =
    let p = err_from_is_err_and c.from_residual.result c.from_residual.ensures.1 in
    refused_task g.C.Caller.tells c.from_residual.result (cleaning_task (manner_on c.args.screen.now) c.args.plan.now.call.dir (clean_command c.args.plan.now.call None)) (scene_of g.C.Caller g.O.Sink g.E.Sink c.args.caller.now c.args.screen.now) (scene_of g.C.Caller g.O.Sink g.E.Sink c.args.caller.now c.args.screen.now) (p.1 ∙ ap Err p.2) refl

pub returns-clause-does : goal.returns-clause-does
returns-clause-does g c = cleaned_as g.C.Caller.tells c.clean.result (manner_on c.args.screen.now) (manner_on c.args.screen.now) c.dir.result.now c.args.plan.now.call.dir (command_of c.in_ok-command.command) (clean_command c.args.plan.now.call None) (scene_of g.C.Caller g.O.Sink g.E.Sink c.args.caller.now c.args.screen.now) (scene_of g.C.Caller g.O.Sink g.E.Sink c.clean.new.caller c.clean.new.screen) refl c.dir.ensures c.in_ok-command.ensures c.clean.ensures.does
