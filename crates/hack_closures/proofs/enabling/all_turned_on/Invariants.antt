use Rattle.std.proofs.Common.{◌≡◌, ℕ, ◌<◌, [], length, get_or}
use Rattle.hack_conflicts.specs.Sets.{rows_of}
use Rattle.hack_features.specs.View.{choice_of}
use Rattle.hack_closures.specs.Closures.{candidate_at}
use Rattle.hack_closures.specs.Internal.{AreTurnedOn}
use Rattle.hack_closures.proofs.enabling.all_turned_on.Given as goal

abbrev pub invariant-loop-p : goal.invariant-loop-p
invariant-loop-p l = record {
  count : length (rows_of l.rows.items) ≡ l.p-index;
  each : (x : ℕ) → x < l.p-index → AreTurnedOn (choice_of l.rules) l.alone (candidate_at l.alone x) (get_or (rows_of l.rows.items) x []);
}
