use Rattle.hack_routes.specs.FeatureMap.{feature_map}
use Rattle.hack_load.proofs.FeatureLemmas.{Grown}
use Rattle.hack_load.proofs.features.add_paths.Given as goal

-- the features of the keys so far follow those from before
abbrev pub invariant-loop-feature : goal.invariant-loop-feature
invariant-loop-feature l = Grown l.dep (feature_map l.features) l.feature-iterator l.fn.found.items l.found.items
