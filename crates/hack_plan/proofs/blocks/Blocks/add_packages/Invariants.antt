use Rattle.std.proofs.Common.{false}
use Rattle.hack_plan.specs.Entries.{AddsEntries}
use Rattle.hack_plan.specs.Parts.{InSlotsOf}
use Rattle.hack_plan.proofs.blocks.Blocks.add_packages.Given as goal

abbrev pub invariant-loop-slot : goal.invariant-loop-slot
invariant-loop-slot l = AddsEntries (InSlotsOf false l.uses l.slot) l.fn.self l.self
