use Rattle.std.proofs.Common.{◌∷◌, [], arith}
use Rattle.hack_sets.proofs.ForestLemmas.{length-grown}
use Rattle.hack_sets.proofs.forest.Forest.len.Goals as goal

pub returns-clause-same : goal.returns-clause-same
returns-clause-same c = omega (arith, length-grown ([] ∷ []) c.args.self.now.links.items)
