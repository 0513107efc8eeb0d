-- What `Placed` shows: the candidates and groups, as places of names.
use Rattle.std.specs.Prelude.{List}
use Rattle.hack_base.specs.Names.{Name}
use Rattle.hack_routes.specs.FeatureMap.{FeatureMap}
use Rattle.hack_samples.specs.Sets.{rows_of}
use Rattle.hack_routes.specs.Places.{ArePlaced}
use Rattle.hack_routes.specs.RoutesView.{routed_names}
use Rattle.hack_features.specs.declared.placed.Placed.{Placed}
use Rattle.hack_routes.specs.declared.reach.Edges.{Edges}

-- p has what the map says of these candidates and groups
abbrev pub IsPlaced : Edges → FeatureMap → List (List Name) → List (List Name) → Placed → Type 0
IsPlaced edges m candidates groups p = ArePlaced edges m candidates groups (routed_names p.routes) p.routes.keys.items (rows_of p.routes.marks.items) (rows_of p.candidates.items) (rows_of p.groups.items)
