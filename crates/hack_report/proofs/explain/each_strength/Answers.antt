use Rattle.std.proofs.Common.{refl}
use Rattle.hack_report.proofs.StrengthLemmas.{strength_next}
use Rattle.hack_report.proofs.explain.each_strength.Goals as goal

pub loop-strength-preserved : goal.loop-strength-preserved
loop-strength-preserved c = strength_next c.args.strengths.now c.loop-strength.strength-index _ _ c.loop-strength.each.items _ c.loop-strength-test.true refl c.in_ok-add_strength.ensures c.loop-strength.invariant
