use Rattle.std.proofs.Common.{◌≡◌, ℕ, ◌<◌, ◌&&◌, not, length}
use Rattle.hack_conflicts.specs.Sets.{mark}
use Rattle.hack_conflicts.specs.Rules.{enables}
use Rattle.hack_conflicts.proofs.rules.Rules.without.Given as goal

abbrev pub invariant-loop-p : goal.invariant-loop-p
invariant-loop-p l = record {
  size : length l.left.items ≡ l.p;
  marks : (p : ℕ) → p < l.p → mark l.left.items p ≡ (mark l.set p && not (enables l.self p l.x));
}
