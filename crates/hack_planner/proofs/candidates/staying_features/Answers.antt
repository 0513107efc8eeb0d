use Rattle.std.specs.Prelude.{◌&&◌}
use Rattle.hack_features.specs.Feature.{group_of}
use Rattle.hack_planner.specs.Candidates.{stays}
use Rattle.hack_planner.specs.PackageRules.{rules_in}
use Rattle.hack_planner.proofs.Growth.{filter-next}
use Rattle.hack_planner.proofs.candidates.staying_features.Goals as goal

pub loop-feature-preserved : goal.loop-feature-preserved
loop-feature-preserved c = filter-next (λ names. c.args.wanted && stays (rules_in c.args.asked.now) names) group_of c.args.features.now c.loop-feature.feature-index c.feature-item.result c.stays_if-taken.result _ _
    c.loop-feature-test.true c.feature-item.is c.stays_if-taken.ensures c.in_ok-add_if.ensures c.loop-feature.invariant
