use Rattle.std.proofs.Common.{◌∷◌, [], arith}
use Rattle.hack_sets.proofs.ForestLemmas.{length-grown}
use Rattle.hack_sets.proofs.forest.FeatureSets.at_places.Goals as goal

pub invariant_of-result : goal.invariant_of-result
invariant_of-result c = record { inside = λ k d lt. omega (arith, c.requires k d lt, length-grown ([] ∷ []) c.args.forest.links.items) }
