use Rattle.std.proofs.Common.{take}
use Rattle.hack_base.specs.Names.{names_of, names_behind}
use Rattle.hack_routes.specs.InternalSearch.{HasJust, Adds, IsTarget}
use Rattle.hack_routes.proofs.reach.Found.add_targets.Given as goal

abbrev pub invariant-loop-value : goal.invariant-loop-value
invariant-loop-value l = record {
  just : HasJust l.self.seen (names_behind l.self.order.items);
  adds : Adds (IsTarget l.edges (take l.value-index (names_of l.values))) (names_behind l.fn.self.order.items) (names_behind l.self.order.items);
}
