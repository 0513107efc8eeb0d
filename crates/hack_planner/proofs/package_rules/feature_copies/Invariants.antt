use Rattle.std.proofs.Common.{◌≡◌, take}
use Rattle.hack_features.specs.Feature.{groups_of}
use Rattle.hack_planner.proofs.package_rules.feature_copies.Given as goal

-- copies of the features so far
abbrev pub invariant-loop-feature : goal.invariant-loop-feature
invariant-loop-feature l = groups_of l.made.items ≡ take l.feature-index (groups_of l.features)
