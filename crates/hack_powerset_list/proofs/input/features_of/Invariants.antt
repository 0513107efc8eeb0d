use Rattle.std.proofs.Common.{◌≡◌, ◌++◌, [], ◌∷◌, map}
use Rattle.hack_base.specs.Names.{names_of}
use Rattle.hack_features.specs.Feature.{groups_of, name_of}
use Rattle.hack_routes.specs.FeatureMap.{feature_map}
use Rattle.hack_powerset_list.specs.Input.{keys_of}
use Rattle.hack_powerset_list.proofs.input.features_of.Given as goal

abbrev pub invariant-loop-name : goal.invariant-loop-name
invariant-loop-name l = record {
  names : map name_of l.features.items ++ names_of l.name-iterator ≡ keys_of (feature_map l.found);
  groups : groups_of l.features.items ≡ map (λ name. name ∷ []) (map name_of l.features.items);
}
