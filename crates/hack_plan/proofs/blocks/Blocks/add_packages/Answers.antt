use Rattle.std.proofs.Common.{inl, inr}
use Rattle.hack_plan.proofs.Growth.{version-more, version-over}
use Rattle.hack_plan.proofs.blocks.Blocks.add_packages.Goals as goal

pub loop-slot-preserved : goal.loop-slot-preserved
loop-slot-preserved c = version-more c.args.uses.now.version c.loop-slot.slot c.args.uses.now.packages.now c.args.uses.now.counts.now _ _ _ c.loop-slot.invariant c.in_default.ensures.ok

pub returns-in-Err-clause-err : goal.returns-in-Err-clause-err
returns-in-Err-clause-err c = elim c.in-Err.ensures.err [
  | inl e ↦ inl e
  | inr w ↦ inr (w.0, version-over c.args.uses.now.version c.loop-slot.slot c.args.slots c.args.uses.now.packages.now c.args.uses.now.counts.now _ _ c.loop-slot-test.true c.loop-slot.invariant w.1)
]
