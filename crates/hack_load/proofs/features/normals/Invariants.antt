use Rattle.std.specs.List.{AllZip}
use Rattle.hack_features.specs.Feature.{IsNormal}
use Rattle.std.proofs.Common.{◌≡◌, ◌++◌}
use Rattle.std.specs.Map.{keys_of}
use Rattle.hack_routes.specs.FeatureMap.{feature_map}
use Rattle.hack_base.specs.Names.{names_of}
use Rattle.hack_load.specs.Features.{texts_of}
use Rattle.hack_load.proofs.features.normals.Given as goal

-- the names of the features so far, and then the keys left, are all keys
abbrev pub invariant-loop-name : goal.invariant-loop-name
invariant-loop-name l = record {
  are : AllZip IsNormal (texts_of l.found.items) l.found.items;
  all : texts_of l.found.items ++ names_of l.name-iterator ≡ keys_of (feature_map l.features);
}
