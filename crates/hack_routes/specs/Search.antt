-- What a search through a feature map follows, and what it has found so far.
use Rattle.hack_base.specs.Names.{Name}
use Rattle.hack_routes.specs.FeatureMap.{FeatureMap, HasEdge, HasCutEdge}
use Rattle.hack_routes.specs.declared.reach.Edges.{Edges}
use Rattle.hack_routes.specs.declared.reach.Edges.TheVariants.{Enabling, Reaching}

-- the edges that a search follows
abbrev pub edge_of : Edges → FeatureMap → Name → Name → Type 0
edge_of Enabling m = HasEdge m
edge_of Reaching m = HasCutEdge m
