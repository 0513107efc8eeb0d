use Rattle.std.proofs.Common.{◌≡◌, ℕ, ◌<◌, ◌↔◌, length, get_or, false}
use Rattle.std.specs.Prelude.{IsTrue}
use Rattle.hack_features.specs.View.{choice_of}
use Rattle.hack_closures.specs.Closures.{TurnsOn, candidate_at}
use Rattle.hack_closures.proofs.enabling.turned_on.Given as goal

abbrev pub invariant-loop-q : goal.invariant-loop-q
invariant-loop-q l = record {
  count : length l.row.items ≡ l.q-index;
  each : (y : ℕ) → y < l.q-index → IsTrue (get_or l.row.items y false) ↔ TurnsOn (choice_of l.rules) l.p (candidate_at l.alone y);
}
