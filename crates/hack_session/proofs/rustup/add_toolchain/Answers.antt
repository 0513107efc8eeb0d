use Rattle.std.proofs.Common.{Err, ap, refl, ◌∙◌}
use Rattle.std.proofs.lemmas.Result.{err_from_is_err_and}
use Rattle.hack_process.specs.Commands.{command_of}
use Rattle.hack_session.specs.StepEffects.{adding_task, scene_of}
use Rattle.hack_session.specs.StepOutput.{manner_on, streams_of}
use Rattle.hack_session.proofs.EffectLemmas.{added, added_quiet, refused_task}
use Rattle.hack_session.proofs.rustup.add_toolchain.Goals as goal

pub returns-then-not-print_output-clause-does : goal.returns-then-not-print_output-clause-does
returns-then-not-print_output-clause-does g c =
    added_quiet g.C.Caller.tells c.call.result c.args.print_output (manner_on c.args.screen.now) c.args.dir.now (command_of c.args.add.now) (g.C.Caller.calls c.args.caller.now) (g.C.Caller.calls c.call.new.caller) (streams_of g.O.Sink g.E.Sink c.args.screen.now) c.if-not-print_output.true c.call.ensures.comes

pub returns-in_err-text-clause-does : goal.returns-in_err-text-clause-does
returns-in_err-text-clause-does g c =
    let p = err_from_is_err_and c.from_residual.result c.from_residual.ensures.1 in
    refused_task g.C.Caller.tells c.from_residual.result (adding_task c.args.print_output (manner_on c.args.screen.now) c.args.dir.now (command_of c.args.add.now)) (scene_of g.C.Caller g.O.Sink g.E.Sink c.args.caller.now c.args.screen.now) (scene_of g.C.Caller g.O.Sink g.E.Sink c.args.caller.now c.args.screen.now) (p.1 ∙ ap Err p.2) refl

pub returns-clause-does : goal.returns-clause-does
returns-clause-does g c =
    added g.C.Caller.tells c.call_in_group.result c.args.print_output (manner_on c.args.screen.now) c.deref.result.now c.args.dir.now (command_of c.args.add.now) (scene_of g.C.Caller g.O.Sink g.E.Sink c.args.caller.now c.args.screen.now) (scene_of g.C.Caller g.O.Sink g.E.Sink c.call_in_group.new.caller c.call_in_group.new.screen) c.if-not-print_output.false (c.deref.ensures ∙ c.in_ok-text.ensures) c.call_in_group.ensures.does
