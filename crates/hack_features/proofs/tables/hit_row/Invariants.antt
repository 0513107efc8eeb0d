use Rattle.std.proofs.Common.{◌≡◌, ◌<◌, ℕ, [], length, get_or, IsTrue}
use Rattle.std.specs.List.{list_any}
use Rattle.hack_samples.specs.Sets.{rows_of}
use Rattle.hack_features.specs.Tables.{count_at}
use Rattle.hack_routes.specs.Rows.{leads}
use Rattle.hack_features.specs.InternalTables.{Counts}
use Rattle.hack_features.proofs.tables.hit_row.Given as goal

abbrev pub invariant-loop-names : goal.invariant-loop-names
invariant-loop-names l = record {
  len : length l.row.items ≡ l.names-index;
  counts : (q : ℕ) → q < l.names-index → Counts (λ x. IsTrue (list_any (leads (rows_of l.placed.routes.marks.items) x) l.group)) (get_or (rows_of l.placed.candidates.items) q []) (count_at l.row.items q);
}
