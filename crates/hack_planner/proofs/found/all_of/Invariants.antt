use Rattle.std.proofs.Common.{◌≡◌, take}
use Rattle.hack_features.specs.Feature.{candidates_of, groups_of}
use Rattle.hack_planner.proofs.found.all_of.Given as goal

-- the features so far
abbrev pub invariant-loop-feature : goal.invariant-loop-feature
invariant-loop-feature l = candidates_of l.all.items ≡ take l.feature-index (groups_of l.features)
