use Rattle.std.proofs.Common.{◌≡◌, drop}
use Rattle.hack_base.specs.Names.{names_of}
use Rattle.hack_features.specs.Feature.{groups_of}
use Rattle.hack_planner.specs.RulesFor.{first_excluded}
use Rattle.hack_planner.proofs.tables.excluded_in_groups.Given as goal

-- no name of the groups so far is excluded
abbrev pub invariant-loop-group : goal.invariant-loop-group
invariant-loop-group l = first_excluded (names_of l.given) (names_of l.excluded) (groups_of (drop l.group-index l.groups)) ≡ first_excluded (names_of l.given) (names_of l.excluded) (groups_of l.groups)
