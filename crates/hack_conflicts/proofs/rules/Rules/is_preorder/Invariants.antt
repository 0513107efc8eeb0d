use Rattle.std.proofs.Common.{ℕ, ◌<◌, IsTrue}
use Rattle.hack_conflicts.specs.Sets.{IsWithin}
use Rattle.hack_conflicts.specs.Rules.{enables, row_of, size_of}
use Rattle.hack_conflicts.proofs.rules.Rules.is_preorder.Given as goal

abbrev pub invariant-loop-x : goal.invariant-loop-x
invariant-loop-x l = record {
  reflexive : (x : ℕ) → x < l.x → IsTrue (enables l.self x x);
  whole : (x : ℕ) → x < l.x → (y : ℕ) → IsTrue (enables l.self x y) → (y < size_of l.self) × IsWithin (row_of l.self y) (row_of l.self x);
}
