use Rattle.std.proofs.Common.{◌≡◌, take}
use Rattle.std.specs.List.{list_all}
use Rattle.std.specs.Prelude.{filter}
use Rattle.hack_features.specs.Feature.{groups_of}
use Rattle.hack_planner.specs.Candidates.{is_found}
use Rattle.hack_planner.proofs.package_rules.known_groups.Given as goal

-- known has those of the groups so far of which the package has each name
abbrev pub invariant-loop-group : goal.invariant-loop-group
invariant-loop-group l = groups_of l.known.items ≡ filter (list_all (is_found l.features)) (take l.group-index (groups_of l.groups))
