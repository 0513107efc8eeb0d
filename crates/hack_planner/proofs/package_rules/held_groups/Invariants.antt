use Rattle.std.proofs.Common.{◌≡◌, take, not}
use Rattle.std.specs.Prelude.{filter}
use Rattle.hack_features.specs.Feature.{groups_of}
use Rattle.hack_planner.specs.PackageRules.{is_lifted}
use Rattle.hack_planner.proofs.package_rules.held_groups.Given as goal

-- held has those of the groups so far that aren't lifted
abbrev pub invariant-loop-group : goal.invariant-loop-group
invariant-loop-group l = groups_of l.held.items ≡ filter (λ group. not (is_lifted l.args l.name group)) (take l.group-index (groups_of l.group-items))
