-- What only private functions of the crate promise each other.
use Rattle.hack_routes.specs.FeatureMap.{FeatureMap}
use Rattle.hack_samples.specs.Sets.{rows_of}
use Rattle.hack_routes.specs.Places.{AreRoutes}
use Rattle.hack_routes.specs.declared.routes.Routes.{Routes}
use Rattle.hack_routes.specs.declared.reach.Edges.{Edges}
use Rattle.hack_routes.specs.RoutesView.{routed_names}

-- the routes say what the map says
abbrev pub AreRoutesOf : Edges → FeatureMap → Routes → Type 0
AreRoutesOf edges m routes = AreRoutes edges m (routed_names routes) routes.keys.items (rows_of routes.marks.items)
