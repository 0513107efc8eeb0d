use Rattle.std.proofs.Common.{refl, inl, inr}
use Rattle.hack_plan.proofs.Growth.{slot-more, slot-over}
use Rattle.hack_plan.proofs.blocks.Blocks.add_slot.Goals as goal

pub loop-member-preserved : goal.loop-member-preserved
loop-member-preserved c = slot-more c.args.uses.now.version c.args.slot c.loop-member.member-index _ c.args.uses.now.packages.now c.args.uses.now.counts.now _ _ _ c.requires.increasing c.loop-member-test.true refl c.loop-member.invariant c.in_default.ensures.ok

pub returns-in-Err-clause-err : goal.returns-in-Err-clause-err
returns-in-Err-clause-err c = elim c.in-Err.ensures.err [
  | inl e ↦ inl e
  | inr w ↦ inr (w.0, slot-over c.args.uses.now.version c.args.slot c.loop-member.member-index _ c.args.uses.now.packages.now c.args.uses.now.counts.now _ _ c.requires.increasing c.loop-member-test.true refl c.loop-member.invariant w.1)
]
