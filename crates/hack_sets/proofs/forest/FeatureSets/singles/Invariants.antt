use Rattle.std.proofs.Common.{◌≡◌, ◌∷◌, []}
use Rattle.hack_sets.specs.Forest.{sets_of}
use Rattle.hack_sets.specs.Sets.{singles}
use Rattle.hack_sets.proofs.forest.FeatureSets.singles.Given as goal

abbrev pub invariant-loop-position : goal.invariant-loop-position
invariant-loop-position l = sets_of l.forest ≡ [] ∷ singles l.position
