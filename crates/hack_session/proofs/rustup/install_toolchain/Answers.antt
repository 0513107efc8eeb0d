use Rattle.std.proofs.Common.{◌≡◌, [], Err, true, ap, ◌∙◌, map, string_bytes}
use Rattle.std.proofs.lemmas.Result.{err_from_is_err_and}
use Rattle.hack_process.specs.Commands.{command_of}
use Rattle.hack_session.specs.StepEffects.{adding_task, scene_of, task_of}
use Rattle.hack_session.specs.StepOutput.{manner_on}
use Rattle.hack_session.specs.Toolchains.{addition_of, toolchain_name, trial_of}
use Rattle.hack_session.proofs.EffectLemmas.{first_as, refused_toolchain, task_as, with_targets, without_targets}
use Rattle.hack_session.proofs.rustup.install_toolchain.Goals as goal

pub returns-in_err-commands-clause-does : goal.returns-in_err-commands-clause-does
returns-in_err-commands-clause-does g c =
    let p = err_from_is_err_and c.from_residual.result c.from_residual.ensures.1 in
    refused_toolchain g.C.Caller.tells c.from_residual.result (map string_bytes c.args.target.now) (task_of [] true c.args.dir.now (trial_of c.args.rustup.now (toolchain_name c.args.toolchain.now))) (adding_task c.args.print_output (manner_on c.args.screen.now) c.args.dir.now (addition_of c.args.rustup.now (toolchain_name c.args.toolchain.now) (map string_bytes c.args.target.now))) (scene_of g.C.Caller g.O.Sink g.E.Sink c.args.caller.now c.args.screen.now) (p.1 ∙ ap Err p.2)

pub returns-then-not-is_empty-clause-does : goal.returns-then-not-is_empty-clause-does
returns-then-not-is_empty-clause-does g c =
    let add : command_of c.in_ok-commands.commands.add ≡ addition_of c.args.rustup.now (toolchain_name c.args.toolchain.now) (map string_bytes c.args.target.now)
    = c.in_ok-commands.ensures.add ∙ ap (λ name. addition_of c.args.rustup.now name (map string_bytes c.args.target.now)) c.without_plus.ensures in
    with_targets g.C.Caller.tells c.add_toolchain.result c.args.target.now (task_of [] true c.args.dir.now (trial_of c.args.rustup.now (toolchain_name c.args.toolchain.now))) (adding_task c.args.print_output (manner_on c.args.screen.now) c.args.dir.now (addition_of c.args.rustup.now (toolchain_name c.args.toolchain.now) (map string_bytes c.args.target.now))) (scene_of g.C.Caller g.O.Sink g.E.Sink c.args.caller.now c.args.screen.now) (scene_of g.C.Caller g.O.Sink g.E.Sink c.add_toolchain.new.caller c.add_toolchain.new.screen) c.if-not-is_empty.ensures
    (task_as g.C.Caller.tells c.add_toolchain.result (adding_task c.args.print_output (manner_on c.args.screen.now) c.args.dir.now (command_of c.in_ok-commands.commands.add)) (adding_task c.args.print_output (manner_on c.args.screen.now) c.args.dir.now (addition_of c.args.rustup.now (toolchain_name c.args.toolchain.now) (map string_bytes c.args.target.now))) (scene_of g.C.Caller g.O.Sink g.E.Sink c.args.caller.now c.args.screen.now) (scene_of g.C.Caller g.O.Sink g.E.Sink c.add_toolchain.new.caller c.add_toolchain.new.screen) (ap (adding_task c.args.print_output (manner_on c.args.screen.now) c.args.dir.now) add) c.add_toolchain.ensures.does)

pub returns-clause-does : goal.returns-clause-does
returns-clause-does g c =
    let add : command_of c.in_ok-commands.commands.add ≡ addition_of c.args.rustup.now (toolchain_name c.args.toolchain.now) (map string_bytes c.args.target.now)
    = c.in_ok-commands.ensures.add ∙ ap (λ name. addition_of c.args.rustup.now name (map string_bytes c.args.target.now)) c.without_plus.ensures in
    let trial : command_of c.in_ok-commands.commands.trial ≡ trial_of c.args.rustup.now (toolchain_name c.args.toolchain.now)
    = c.in_ok-commands.ensures.trial ∙ ap (trial_of c.args.rustup.now) c.without_plus.ensures in
    without_targets g.C.Caller.tells c.try_toolchain.result c.args.target.now (task_of [] true c.args.dir.now (trial_of c.args.rustup.now (toolchain_name c.args.toolchain.now))) (adding_task c.args.print_output (manner_on c.args.screen.now) c.args.dir.now (addition_of c.args.rustup.now (toolchain_name c.args.toolchain.now) (map string_bytes c.args.target.now))) (scene_of g.C.Caller g.O.Sink g.E.Sink c.args.caller.now c.args.screen.now) (scene_of g.C.Caller g.O.Sink g.E.Sink c.try_toolchain.new.caller c.try_toolchain.new.screen) c.if-not-is_empty.ensures
    (first_as g.C.Caller.tells c.try_toolchain.result (task_of [] true c.args.dir.now (command_of c.in_ok-commands.commands.trial)) (task_of [] true c.args.dir.now (trial_of c.args.rustup.now (toolchain_name c.args.toolchain.now))) (adding_task c.args.print_output (manner_on c.args.screen.now) c.args.dir.now (command_of c.in_ok-commands.commands.add)) (adding_task c.args.print_output (manner_on c.args.screen.now) c.args.dir.now (addition_of c.args.rustup.now (toolchain_name c.args.toolchain.now) (map string_bytes c.args.target.now))) (scene_of g.C.Caller g.O.Sink g.E.Sink c.args.caller.now c.args.screen.now) (scene_of g.C.Caller g.O.Sink g.E.Sink c.try_toolchain.new.caller c.try_toolchain.new.screen) (ap (task_of [] true c.args.dir.now) trial)
    (ap (adding_task c.args.print_output (manner_on c.args.screen.now) c.args.dir.now) add) c.try_toolchain.ensures.does)
