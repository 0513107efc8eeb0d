use Rattle.std.proofs.Common.{◌≡◌, ◌<◌, take, map, All, length, get_or, []}
use Rattle.hack_samples.specs.Sets.{rows_of}
use Rattle.hack_sets.specs.Forest.{sets_of}
use Rattle.hack_features.specs.Samples.{positions_of}
use Rattle.hack_features.proofs.samples.sets_from.Given as goal

abbrev pub invariant-loop-set : goal.invariant-loop-set
invariant-loop-set l = record {
  within : All (λ p. p < length (sets_of l.forest)) l.places.items;
  same : map (λ p. get_or (sets_of l.forest) p []) l.places.items ≡ map positions_of (take l.set-index (rows_of l.sets));
}
