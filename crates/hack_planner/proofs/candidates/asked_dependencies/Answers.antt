use Rattle.std.specs.Prelude.{◌&&◌}
use Rattle.hack_features.specs.Feature.{group_of}
use Rattle.hack_planner.specs.Candidates.{stays, is_asked}
use Rattle.hack_planner.specs.PackageRules.{rules_in}
use Rattle.hack_planner.proofs.Growth.{filter-next}
use Rattle.hack_planner.proofs.candidates.asked_dependencies.Goals as goal

pub loop-feature-preserved : goal.loop-feature-preserved
loop-feature-preserved c = filter-next (λ names. is_asked (rules_in c.args.asked.now) names && stays (rules_in c.args.asked.now) names) group_of c.args.features.now c.loop-feature.feature-index c.feature-item.result c.is_offered-taken.result _ _
    c.loop-feature-test.true c.feature-item.is c.is_offered-taken.ensures c.in_ok-add_if.ensures c.loop-feature.invariant
