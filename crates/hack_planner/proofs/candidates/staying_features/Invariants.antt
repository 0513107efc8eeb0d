use Rattle.std.proofs.Common.{◌≡◌, take}
use Rattle.std.specs.Prelude.{filter, ◌&&◌}
use Rattle.hack_features.specs.Feature.{groups_of}
use Rattle.hack_planner.specs.Candidates.{stays}
use Rattle.hack_planner.specs.PackageRules.{rules_in}
use Rattle.hack_planner.proofs.candidates.staying_features.Given as goal

-- found has those of the features so far that are wanted and stay candidates
abbrev pub invariant-loop-feature : goal.invariant-loop-feature
invariant-loop-feature l = groups_of l.found.items ≡ filter (λ names. l.wanted && stays (rules_in l.asked) names) (take l.feature-index (groups_of l.features))
