use Rattle.std.proofs.Common.{◌≡◌, ◌<◌, ℕ, [], false, length, get_or}
use Rattle.hack_samples.specs.Sets.{rows_of}
use Rattle.hack_routes.specs.Rows.{bit}
use Rattle.hack_features.specs.InternalTables.{spares_test}
use Rattle.hack_features.proofs.tables.spare_row.Given as goal

abbrev pub invariant-loop-others : goal.invariant-loop-others
invariant-loop-others l = record {
  len : length l.row.items ≡ l.others-index;
  says : (q : ℕ) → q < l.others-index → bit l.row.items q ≡ spares_test l.routes.keys.items (rows_of l.routes.marks.items) l.names (get_or (rows_of l.candidates) q []);
  unless : l.some ≡ false → (q : ℕ) → q < l.others-index → bit l.row.items q ≡ false;
}
