use Rattle.std.proofs.Common.{drop, map}
use Rattle.hack_routes.specs.FeatureMap.{feature_map}
use Rattle.hack_metadata.specs.RecordViews.{dependency_view}
use Rattle.hack_load.proofs.FeatureLemmas.{Picked}
use Rattle.hack_load.proofs.features.optionals.Given as goal

-- the features so far, and what is picked of the dependencies left, make up the whole
abbrev pub invariant-loop-dependency : goal.invariant-loop-dependency
invariant-loop-dependency l = Picked (feature_map l.features) (map dependency_view l.dependencies) (map dependency_view (drop l.dependency-index l.dependencies)) l.found.items
