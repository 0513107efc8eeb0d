use Rattle.std.proofs.Common.{ap, ◌∙◌, Err, codes, refl}
use Rattle.std.proofs.lemmas.Result.{err_from_is_err_and}
use Rattle.hack_process.specs.Commands.{command_of}
use Rattle.hack_plan.specs.Commands.{command_of_entry}
use Rattle.hack_session.specs.StepEffects.{own_task, scene_of}
use Rattle.hack_session.specs.StepOutput.{manner_on}
use Rattle.hack_session.specs.Statuses.{place_status}
use Rattle.hack_session.proofs.EffectLemmas.{grouped_as, refused_task}
use Rattle.hack_session.proofs.perform.run_own.Goals as goal

pub returns-in_err-text-clause-does : goal.returns-in_err-text-clause-does
returns-in_err-text-clause-does g c =
    let p = err_from_is_err_and c.from_residual.result c.from_residual.ensures.1 in
    refused_task g.C.Caller.tells c.from_residual.result (own_task (manner_on c.args.screen.now) c.args.plan.now c.args.place c.args.run.now.entry) (scene_of g.C.Caller g.O.Sink g.E.Sink c.args.caller.now c.args.screen.now) (scene_of g.C.Caller g.O.Sink g.E.Sink c.args.caller.now c.args.screen.now) (p.1 ∙ ap Err p.2) refl

pub returns-clause-does : goal.returns-clause-does
returns-clause-does g c =
    grouped_as g.C.Caller.tells c.call_in_group.result (manner_on c.args.screen.now) c.deref.result.now (place_status (codes "running") c.args.screen.now.term.now.verbose c.args.plan.now c.args.place c.args.run.now.entry) c.dir.result.now c.args.plan.now.call.dir (command_of c.args.run.now.command) (command_of_entry c.args.plan.now c.args.run.now.entry) (scene_of g.C.Caller g.O.Sink g.E.Sink c.args.caller.now c.args.screen.now) (scene_of g.C.Caller g.O.Sink g.E.Sink c.call_in_group.new.caller c.call_in_group.new.screen)
    (c.deref.ensures ∙ c.in_ok-text.ensures) c.dir.ensures c.requires.command c.call_in_group.ensures.does
