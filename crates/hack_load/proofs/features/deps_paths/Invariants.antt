use Rattle.std.specs.List.{AllZip, flat_map}
use Rattle.hack_features.specs.Feature.{IsPath}
use Rattle.std.proofs.Common.{map, take}
use Rattle.hack_load.specs.Candidates.{node_paths}
use Rattle.hack_metadata.specs.RecordViews.{dependency_view, node_dep_view, package_view}
use Rattle.hack_load.proofs.features.deps_paths.Given as goal

-- the features of the dependencies so far
abbrev pub invariant-loop-dep : goal.invariant-loop-dep
invariant-loop-dep l = AllZip (λ path f. IsPath path.0 path.1 f) (flat_map (node_paths (map package_view l.metadata.packages.items) (map dependency_view l.dependencies)) (map node_dep_view (take l.dep-index l.dep-items))) l.found.items
