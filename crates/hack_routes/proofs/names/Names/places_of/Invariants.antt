use Rattle.std.proofs.Common.{take}
use Rattle.hack_base.specs.Names.{names_of}
use Rattle.hack_routes.specs.Places.{AreAt}
use Rattle.hack_routes.specs.InternalPlaces.{IsMore}
use Rattle.hack_routes.specs.InternalNamesView.{table, IsInStep}
use Rattle.hack_routes.proofs.names.Names.places_of.Given as goal

abbrev pub invariant-loop-text : goal.invariant-loop-text
invariant-loop-text l = record {
  step : IsInStep l.self;
  row : AreAt (table l.self) l.row.items (take l.text-index (names_of l.texts));
  kept : IsMore (table l.fn.self) (table l.self);
}
