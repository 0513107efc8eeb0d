use Rattle.std.proofs.Common.{◌≡◌, ◌<◌, ℕ, [], length, get_or}
use Rattle.hack_samples.specs.Sets.{rows_of}
use Rattle.hack_routes.specs.Rows.{cell}
use Rattle.hack_features.specs.InternalTables.{spares_test}
use Rattle.hack_features.proofs.tables.spare_rows.Given as goal

abbrev pub invariant-loop-names : goal.invariant-loop-names
invariant-loop-names l = record {
  len : length l.rows.items ≡ l.names-index;
  says : (p : ℕ) → p < l.names-index → (q : ℕ) → q < length l.placed.candidates.items → cell (rows_of l.rows.items) p q ≡ spares_test l.placed.routes.keys.items (rows_of l.placed.routes.marks.items) (get_or (rows_of l.placed.candidates.items) p []) (get_or (rows_of l.placed.candidates.items) q []);
}
