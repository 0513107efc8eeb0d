use Rattle.std.proofs.Common.{ap, not}
use Rattle.hack_features.specs.Feature.{group_of}
use Rattle.hack_planner.specs.PackageRules.{is_lifted}
use Rattle.hack_planner.proofs.Growth.{filter-next}
use Rattle.hack_planner.proofs.package_rules.held_groups.Goals as goal

pub loop-group-preserved : goal.loop-group-preserved
loop-group-preserved c = filter-next (λ group. not (is_lifted c.args.args.now c.args.name.now group)) group_of c.deref-group-items.result.now c.loop-group.group-index c.group-item.result _ _ _
    c.loop-group-test.true c.group-item.is (ap not c.is_lifted.ensures) c.in_ok-add_if.ensures c.loop-group.invariant
