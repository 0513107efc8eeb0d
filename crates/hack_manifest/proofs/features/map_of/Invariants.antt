use Rattle.toml.specs.View.{table_view}
use Rattle.hack_routes.specs.FeatureMap.{feature_map}
use Rattle.hack_manifest.specs.Manifest.{feature_map_in}
use Rattle.hack_manifest.proofs.FeatureLemmas.{IsSoFar}
use Rattle.hack_manifest.proofs.features.map_of.Given as goal

abbrev pub invariant-features : goal.invariant-features
invariant-features l =
    goal.iterator-features.can_next l.name-iterator ×
    goal.iterator-features.is_finite l.name-iterator ×
    IsSoFar (feature_map_in (table_view l.table)) (feature_map l.map) l.name-iterator
