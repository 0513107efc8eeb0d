use Rattle.std.proofs.Common.{◌∙◌, ap}
use Rattle.std.specs.List.{list_all}
use Rattle.hack_features.specs.Feature.{group_of}
use Rattle.hack_planner.specs.Candidates.{is_found}
use Rattle.hack_planner.proofs.Growth.{filter-next}
use Rattle.hack_planner.proofs.package_rules.known_groups.Goals as goal

pub loop-group-preserved : goal.loop-group-preserved
loop-group-preserved c = filter-next (list_all (is_found c.args.features.now)) group_of c.args.groups.now c.loop-group.group-index c.group-item.result c.are_found.result _ _
    c.loop-group-test.true c.group-item.is (c.are_found.ensures ∙ ap (list_all (is_found c.args.features.now)) c.as_group.ensures) c.in_ok-add_if.ensures c.loop-group.invariant
