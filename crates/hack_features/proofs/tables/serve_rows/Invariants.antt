use Rattle.std.proofs.Common.{List, take}
use Rattle.hack_base.specs.Names.{Name}
use Rattle.hack_routes.specs.FeatureMap.{FeatureMap}
use Rattle.hack_samples.specs.Sets.{rows_of}
use Rattle.hack_features.specs.InternalTables.{RowsServe}
use Rattle.hack_features.specs.PlacedView.{IsPlaced}
use Rattle.hack_routes.specs.declared.reach.Edges.TheVariants.{Enabling}
use Rattle.hack_features.proofs.tables.serve_rows.Given as goal

abbrev pub invariant-loop-group : goal.invariant-loop-group
invariant-loop-group l = (m : FeatureMap) (candidates groups : List (List Name)) → IsPlaced Enabling m candidates groups l.placed → RowsServe m candidates (take l.group-index groups) (rows_of l.rows.items)
