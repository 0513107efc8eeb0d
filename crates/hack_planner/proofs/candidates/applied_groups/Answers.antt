use Rattle.hack_features.specs.Feature.{group_of}
use Rattle.hack_planner.specs.Candidates.{applies}
use Rattle.hack_planner.specs.PackageRules.{rules_in}
use Rattle.hack_planner.proofs.Growth.{filter-next}
use Rattle.hack_planner.proofs.candidates.applied_groups.Goals as goal

pub loop-group-preserved : goal.loop-group-preserved
loop-group-preserved c = filter-next (applies (rules_in c.args.asked.now) c.args.features.now) group_of c.deref-group-items.result.now c.loop-group.group-index c.group-item.result c.applies-taken.result _ _
    c.loop-group-test.true c.group-item.is c.applies-taken.ensures c.in_ok-add_if.ensures c.loop-group.invariant
