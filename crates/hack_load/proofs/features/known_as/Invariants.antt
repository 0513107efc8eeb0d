use Rattle.std.proofs.Common.{◌≡◌, drop, map}
use Rattle.hack_load.specs.Candidates.{name_among_dependencies}
use Rattle.hack_metadata.specs.RecordViews.{dependency_view}
use Rattle.hack_load.proofs.features.known_as.Given as goal

-- no dependency so far has the name
abbrev pub invariant-loop-dependency : goal.invariant-loop-dependency
invariant-loop-dependency l = name_among_dependencies (map dependency_view (drop l.dependency-index l.dependencies)) l.name ≡ name_among_dependencies (map dependency_view l.dependencies) l.name
