use Rattle.std.proofs.Common.{[], Err, Ok, true}
use Rattle.hack_process.specs.Commands.{command_of}
use Rattle.hack_session.specs.StepEffects.{adding_task, scene_of, task_of}
use Rattle.hack_session.specs.StepOutput.{manner_on, streams_of}
use Rattle.hack_session.proofs.RunLemmas.{not_memory}
use Rattle.hack_session.proofs.EffectLemmas.{is_want, spoken, tried_cut, tried_ok, tried_then}
use Rattle.hack_session.proofs.rustup.try_toolchain.Goals as goal

pub returns-in-Ok-clause-does : goal.returns-in-Ok-clause-does
returns-in-Ok-clause-does g c = tried_ok g.C.Caller.tells (task_of [] true c.args.dir.now (command_of c.args.commands.now.trial)) (adding_task c.args.print_output (manner_on c.args.screen.now) c.args.dir.now (command_of c.args.commands.now.add)) (scene_of g.C.Caller g.O.Sink g.E.Sink c.args.caller.now c.args.screen.now) (scene_of g.C.Caller g.O.Sink g.E.Sink c.call.new.caller c.args.screen.now) (spoken g.C.Caller.tells (Ok tt) true c.args.dir.now (command_of c.args.commands.now.trial) (g.C.Caller.calls c.args.caller.now) (g.C.Caller.calls c.call.new.caller) (streams_of g.O.Sink g.E.Sink c.args.screen.now) c.in-Ok.ensures.comes)

pub returns-then-is_memory-clause-does : goal.returns-then-is_memory-clause-does
returns-then-is_memory-clause-does g c =
    tried_cut g.C.Caller.tells c.in-Err.fault (task_of [] true c.args.dir.now (command_of c.args.commands.now.trial)) (adding_task c.args.print_output (manner_on c.args.screen.now) c.args.dir.now (command_of c.args.commands.now.add)) (scene_of g.C.Caller g.O.Sink g.E.Sink c.args.caller.now c.args.screen.now) (scene_of g.C.Caller g.O.Sink g.E.Sink c.call.new.caller c.args.screen.now) (is_want c.in-Err.fault c.if-is_memory.ensures) (spoken g.C.Caller.tells (Err c.in-Err.fault) true c.args.dir.now (command_of c.args.commands.now.trial) (g.C.Caller.calls c.args.caller.now) (g.C.Caller.calls c.call.new.caller) (streams_of g.O.Sink g.E.Sink c.args.screen.now) c.in-Err.ensures.comes)

pub returns-else-is_memory-clause-does : goal.returns-else-is_memory-clause-does
returns-else-is_memory-clause-does g c =
    tried_then g.C.Caller.tells c.in-Err.fault c.add_toolchain.result (task_of [] true c.args.dir.now (command_of c.args.commands.now.trial)) (adding_task c.args.print_output (manner_on c.args.screen.now) c.args.dir.now (command_of c.args.commands.now.add)) (scene_of g.C.Caller g.O.Sink g.E.Sink c.args.caller.now c.args.screen.now) (scene_of g.C.Caller g.O.Sink g.E.Sink c.call.new.caller c.args.screen.now) (scene_of g.C.Caller g.O.Sink g.E.Sink c.add_toolchain.new.caller c.add_toolchain.new.screen) (not_memory c.in-Err.fault c.if-is_memory.ensures) (spoken g.C.Caller.tells (Err c.in-Err.fault) true c.args.dir.now (command_of c.args.commands.now.trial) (g.C.Caller.calls c.args.caller.now) (g.C.Caller.calls c.call.new.caller) (streams_of g.O.Sink g.E.Sink c.args.screen.now) c.in-Err.ensures.comes) c.add_toolchain.ensures.does
