use Rattle.std.proofs.Common.{ℕ, ◌<◌, ◌≤◌}
use Rattle.hack_conflicts.specs.Sets.{Has}
use Rattle.hack_conflicts.proofs.sets.has_any.Given as goal

abbrev pub invariant-loop-x : goal.invariant-loop-x
invariant-loop-x l = (x : ℕ) → l.from ≤ x → x < l.x → ¬ Has l.set x
