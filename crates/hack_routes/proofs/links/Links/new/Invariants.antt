use Rattle.std.proofs.Common.{◌++◌, ◌-◌, length}
use Rattle.hack_routes.specs.FeatureMap.{feature_map}
use Rattle.hack_routes.specs.InternalPlaces.{IsGrown}
use Rattle.hack_routes.specs.InternalNamesView.{table}
use Rattle.hack_routes.specs.InternalLinksView.{IsLinking, table_of}
use Rattle.hack_routes.proofs.ReachLemmas.{all_targets}
use Rattle.hack_routes.proofs.links.Links.new.Given as goal

abbrev pub invariant-rows : goal.invariant-rows
invariant-rows l = record {
  linking : IsLinking l.edges (feature_map l.map) l.links;
  grown : IsGrown l.edges (feature_map l.map) (table l.fn.names) (table_of l.links);
}

abbrev pub decreases-rows : goal.decreases-rows
decreases-rows l = length (table l.fn.names ++ all_targets (feature_map l.map)) - length l.links.rows.items
