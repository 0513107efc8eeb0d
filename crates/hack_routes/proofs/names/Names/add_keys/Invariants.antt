use Rattle.std.proofs.Common.{◌⊎◌, Contains}
use Rattle.hack_base.specs.Names.{Name, names_of}
use Rattle.hack_routes.specs.FeatureMap.{feature_map, IsKey}
use Rattle.hack_routes.specs.InternalNamesView.{table, IsInStep}
use Rattle.hack_routes.proofs.names.Names.add_keys.Given as goal

abbrev pub invariant-loop-key : goal.invariant-loop-key
invariant-loop-key l = record {
  step : IsInStep l.self;
  known : (x : Name) → IsKey (feature_map l.map) x → Contains (table l.self) x ⊎ Contains (names_of l.key-iterator) x;
}
