use Rattle.std.proofs.Common.{take}
use Rattle.hack_samples.specs.Sets.{rows_of}
use Rattle.hack_features.specs.Feature.{candidates_of}
use Rattle.hack_routes.specs.Places.{AreAllAt}
use Rattle.hack_routes.specs.InternalPlaces.{IsMore}
use Rattle.hack_routes.specs.InternalNamesView.{table, IsInStep}
use Rattle.hack_features.proofs.placed.candidate_places.Given as goal

abbrev pub invariant-loop-candidate : goal.invariant-loop-candidate
invariant-loop-candidate l = record {
  step : IsInStep l.names;
  rows : AreAllAt (table l.names) (rows_of l.rows.items) (take l.candidate-index (candidates_of l.candidates));
  kept : IsMore (table l.fn.names) (table l.names);
}
