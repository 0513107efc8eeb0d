use Rattle.std.proofs.Common.{take}
use Rattle.hack_plan.specs.Entries.{AddsEntries}
use Rattle.hack_plan.specs.Internal.{InSlot}
use Rattle.hack_plan.proofs.blocks.Blocks.add_slot.Given as goal

abbrev pub invariant-loop-member : goal.invariant-loop-member
invariant-loop-member l = AddsEntries (InSlot l.uses.version l.slot (take l.member-index l.member-items) l.uses.counts.now) l.fn.self l.self
