use Rattle.std.proofs.Common.{Err, Ok, ap, false, not, sym, true}
use Rattle.hack_process.specs.Commands.{asked_of, command_of}
use Rattle.hack_process.specs.CommandTexts.{text_of}
use Rattle.hack_session.proofs.EffectLemmas.{comes_as, comes_err, comes_ok, comes_run}
use Rattle.hack_session.proofs.calls.call.Goals as goal

pub returns-then-print_output-clause-comes : goal.returns-then-print_output-clause-comes
returns-then-print_output-clause-comes g c =
    comes_as g.C.Caller.tells c.run.result false (not c.args.print_output) (command_of c.args.command.now) (text_of true c.args.dir.now (command_of c.args.command.now)) _ _ (sym (ap not c.if-print_output.true))
    (comes_run g.C.Caller.tells c.run.result (asked_of false (command_of c.args.command.now)) (text_of true c.args.dir.now (command_of c.args.command.now)) _ _ c.run.ensures.ok c.run.ensures.named c.run.ensures.err c.run.ensures.bare)

pub returns-in-Ok-clause-comes : goal.returns-in-Ok-clause-comes
returns-in-Ok-clause-comes g c =
    comes_as g.C.Caller.tells (Ok tt) true (not c.args.print_output) (command_of c.args.command.now) (text_of true c.args.dir.now (command_of c.args.command.now)) _ _ (sym (ap not c.if-print_output.false))
    (comes_ok g.C.Caller.tells (asked_of true (command_of c.args.command.now)) (text_of true c.args.dir.now (command_of c.args.command.now)) _ _ _ c.in-Ok.ensures.named c.in-Ok.ensures.success c.in-Ok.ensures.ok)

pub returns-clause-comes : goal.returns-clause-comes
returns-clause-comes g c =
    comes_as g.C.Caller.tells (Err c.in-Err.fault) true (not c.args.print_output) (command_of c.args.command.now) (text_of true c.args.dir.now (command_of c.args.command.now)) _ _ (sym (ap not c.if-print_output.false))
    (comes_err g.C.Caller.tells c.in-Err.fault (command_of c.args.command.now) (text_of true c.args.dir.now (command_of c.args.command.now)) _ _ c.in-Err.ensures.err)
