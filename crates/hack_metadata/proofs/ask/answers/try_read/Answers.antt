use Rattle.hack_process.specs.Commands.{command_of}
use Rattle.hack_metadata.proofs.AskLemmas.{no-text}
use Rattle.hack_metadata.proofs.ask.answers.try_read.Goals as goal

pub returns-clause-ok : goal.returns-clause-ok
returns-clause-ok g c = no-text g.C.Caller.tells (command_of c.args.asked.now) _ (g.C.Caller.calls c.args.caller.now) (g.C.Caller.calls c.read.new.caller) c.in-Err-NotText.field-0 c.in-Err-NotText.field-0-0 c.in-Err-NotText.field-0-is c.in-Err-NotText.ensures.err
