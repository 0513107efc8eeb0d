use Rattle.std.proofs.Common.{◌≡◌, ℕ, ◌<◌, [], length, get_or}
use Rattle.hack_conflicts.specs.Sets.{rows_of}
use Rattle.hack_features.specs.View.{choice_of}
use Rattle.hack_closures.specs.Internal.{AreReaching}
use Rattle.hack_closures.proofs.excluding.groups.Given as goal

abbrev pub invariant-loop-group : goal.invariant-loop-group
invariant-loop-group l = record {
  count : length (rows_of l.rows.items) ≡ l.group;
  each : (k : ℕ) → k < l.group → AreReaching (choice_of l.rules) l.alone (get_or (choice_of l.rules).exclusive k []) (get_or (rows_of l.rows.items) k []);
}
