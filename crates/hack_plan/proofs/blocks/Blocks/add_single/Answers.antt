use Rattle.std.proofs.Common.{inl, inr}
use Rattle.hack_plan.proofs.Growth.{single-more, single-over}
use Rattle.hack_plan.proofs.blocks.Blocks.add_single.Goals as goal

pub loop-slot-preserved : goal.loop-slot-preserved
loop-slot-preserved c = single-more c.args.version c.loop-slot.slot _ _ _ c.loop-slot.invariant c.in_default.ensures.ok

pub returns-in-Err-clause-err : goal.returns-in-Err-clause-err
returns-in-Err-clause-err c = elim c.in-Err.ensures.err [
  | inl e ↦ inl e
  | inr w ↦ inr (w.0, single-over c.args.version c.loop-slot.slot c.args.slots _ _ c.loop-slot-test.true c.loop-slot.invariant w.1)
]
