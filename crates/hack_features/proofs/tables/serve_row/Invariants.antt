use Rattle.std.proofs.Common.{◌≡◌, ◌<◌, ℕ, [], length, get_or}
use Rattle.std.specs.List.{list_any}
use Rattle.hack_samples.specs.Sets.{rows_of}
use Rattle.hack_routes.specs.Rows.{bit}
use Rattle.hack_features.specs.InternalTables.{serves_test}
use Rattle.hack_features.proofs.tables.serve_row.Given as goal

abbrev pub invariant-loop-names : goal.invariant-loop-names
invariant-loop-names l = record {
  len : length l.row.items ≡ l.names-index;
  says : (q : ℕ) → q < l.names-index → bit l.row.items q ≡ list_any (serves_test l.placed.routes.keys.items (rows_of l.placed.routes.marks.items) l.group) (get_or (rows_of l.placed.candidates.items) q []);
}
