use Rattle.std.proofs.Common.{take}
use Rattle.hack_base.specs.Names.{names_of}
use Rattle.hack_routes.specs.InternalSearch.{Adds, IsTarget}
use Rattle.hack_routes.specs.Places.{AreAt}
use Rattle.hack_routes.specs.InternalPlaces.{targets_of}
use Rattle.hack_routes.specs.InternalNamesView.{table, IsInStep}
use Rattle.hack_routes.proofs.names.Names.targets.Given as goal

abbrev pub invariant-loop-value : goal.invariant-loop-value
invariant-loop-value l = record {
  step : IsInStep l.self;
  row : AreAt (table l.self) l.row.items (targets_of l.edges (take l.value-index (names_of l.values)));
  adds : Adds (IsTarget l.edges (take l.value-index (names_of l.values))) (table l.fn.self) (table l.self);
}
