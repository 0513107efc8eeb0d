use Rattle.std.proofs.Common.{take}
use Rattle.hack_base.specs.Names.{names_of}
use Rattle.hack_process.specs.SystemCommands.{Orders}
use Rattle.hack_process.proofs.child.system_command.Given as goal

abbrev pub invariant-loop-word : goal.invariant-loop-word
invariant-loop-word l = Orders l.program (names_of (take l.word-index l.words)) l.command
