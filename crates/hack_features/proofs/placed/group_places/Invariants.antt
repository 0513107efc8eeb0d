use Rattle.std.proofs.Common.{take}
use Rattle.hack_samples.specs.Sets.{rows_of}
use Rattle.hack_features.specs.Feature.{groups_of}
use Rattle.hack_routes.specs.Places.{AreAllAt}
use Rattle.hack_routes.specs.InternalPlaces.{IsMore}
use Rattle.hack_routes.specs.InternalNamesView.{table, IsInStep}
use Rattle.hack_features.proofs.placed.group_places.Given as goal

abbrev pub invariant-loop-group : goal.invariant-loop-group
invariant-loop-group l = record {
  step : IsInStep l.names;
  rows : AreAllAt (table l.names) (rows_of l.rows.items) (take l.group-index (groups_of l.groups));
  kept : IsMore (table l.fn.names) (table l.names);
}
