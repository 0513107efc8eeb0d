use Rattle.hack_planner.proofs.KindLemmas.{candidates-next}
use Rattle.hack_planner.proofs.found.all_of.Goals as goal

pub loop-feature-preserved : goal.loop-feature-preserved
loop-feature-preserved c = candidates-next c.loop-feature.all.items c.push.new.self.items c.args.features.now c.loop-feature.feature-index _ c.in_ok-push.ensures.items c.loop-feature.invariant c.loop-feature-test.true c.feature-item.is
