use Rattle.std.proofs.Common.{◌-◌, ◌∷◌, length}
use Rattle.hack_base.specs.Names.{names_behind}
use Rattle.hack_routes.specs.FeatureMap.{feature_map}
use Rattle.hack_routes.specs.Search.{edge_of}
use Rattle.hack_routes.specs.InternalSearch.{HasJust}
use Rattle.hack_routes.proofs.ReachLemmas.{Searching, all_targets}
use Rattle.hack_routes.proofs.reach.names_from.Given as goal

abbrev pub invariant-loop-next : goal.invariant-loop-next
invariant-loop-next l = record {
  just : HasJust l.found.seen (names_behind l.found.order.items);
  searching : Searching (edge_of l.edges (feature_map l.map)) l.name (names_behind l.found.order.items) l.next;
}

abbrev pub decreases-loop-next : goal.decreases-loop-next
decreases-loop-next l = length (l.name ∷ all_targets (feature_map l.map)) - l.next
