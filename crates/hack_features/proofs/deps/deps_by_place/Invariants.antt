use Rattle.hack_routes.specs.FeatureMap.{FeatureMap}
use Rattle.hack_routes.specs.RoutesView.{routed_names}
use Rattle.hack_routes.specs.InternalRoutesView.{AreRoutesOf}
use Rattle.hack_routes.specs.declared.reach.Edges.TheVariants.{Enabling}
use Rattle.hack_features.proofs.RouteDeps.{Tabling}
use Rattle.hack_features.proofs.deps.deps_by_place.Given as goal

abbrev pub invariant-loop-place : goal.invariant-loop-place
invariant-loop-place l = (m : FeatureMap) → AreRoutesOf Enabling m l.routes → Tabling m (routed_names l.routes) l.deps l.place
