use Rattle.std.proofs.Common.{ℕ, ◌<◌, List, Bool, All, Contains}
use Rattle.hack_conflicts.specs.Sets.{rows_of, Has}
use Rattle.hack_closures.specs.Internal.{IsPair}
use Rattle.hack_closures.proofs.excluding.pairs.Given as goal

abbrev pub invariant-loop-x : goal.invariant-loop-x
invariant-loop-x l = record {
  only : All (λ row. (x : ℕ) × (x < l.last) × (¬ Has l.row x) × IsPair x l.last row) (rows_of l.rows.items);
  each : (x : ℕ) → x < l.x → ¬ Has l.row x → (row : List Bool) × Contains (rows_of l.rows.items) row × IsPair x l.last row;
}
