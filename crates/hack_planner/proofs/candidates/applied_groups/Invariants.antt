use Rattle.std.proofs.Common.{◌≡◌, take}
use Rattle.std.specs.Prelude.{filter}
use Rattle.hack_features.specs.Feature.{groups_of}
use Rattle.hack_planner.specs.Candidates.{applies}
use Rattle.hack_planner.specs.PackageRules.{rules_in}
use Rattle.hack_planner.proofs.candidates.applied_groups.Given as goal

-- found has those of the groups so far that are applied
abbrev pub invariant-loop-group : goal.invariant-loop-group
invariant-loop-group l = groups_of l.found.items ≡ filter (applies (rules_in l.asked) l.features) (take l.group-index (groups_of l.group-items))
