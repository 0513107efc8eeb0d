use Rattle.std.proofs.Common.{true, []}
use Rattle.hack_plan.specs.Entries.{AddsEntries}
use Rattle.hack_plan.specs.Parts.{InVersion}
use Rattle.hack_plan.proofs.blocks.Blocks.add_single.Given as goal

abbrev pub invariant-loop-slot : goal.invariant-loop-slot
invariant-loop-slot l = AddsEntries (InVersion true l.version l.slot [] []) l.fn.self l.self
