use Rattle.std.proofs.Common.{◌≡◌, [], map, string_bytes, take}
use Rattle.hack_process.specs.Commands.{command_of, plain_command}
use Rattle.hack_plan.specs.View.{call_view}
use Rattle.hack_plan.specs.Commands.{program_of}
use Rattle.hack_plan.proofs.parts.CommandParts.program.Given as goal

abbrev pub invariant-loop-word : goal.invariant-loop-word
invariant-loop-word l = command_of l.command ≡ plain_command (program_of (call_view l.fn.self) l.fn.version) (map string_bytes (take l.word-index l.word-items)) []
