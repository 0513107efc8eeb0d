use Rattle.std.proofs.Common.{ℕ, List, Bool, ◌<◌, ◌≤◌}
use Rattle.hack_conflicts.specs.Sets.{Has, IsWithin}
use Rattle.hack_conflicts.specs.Rules.{IsClosed}
use Rattle.hack_conflicts.proofs.rules.Rules.without_block.Given as goal

abbrev pub invariant-loop-x : goal.invariant-loop-x
invariant-loop-x l = record {
  within : IsWithin l.left.items l.set;
  closed : IsClosed l.self l.left.items;
  around : (s : List Bool) → IsClosed l.self s → IsWithin s l.set → ((x : ℕ) → l.from ≤ x → x < l.x → ¬ Has s x) → IsWithin s l.left.items;
  lacks : (x : ℕ) → l.from ≤ x → x < l.x → ¬ Has l.left.items x;
}
