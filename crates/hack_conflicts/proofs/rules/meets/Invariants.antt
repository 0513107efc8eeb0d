use Rattle.std.proofs.Common.{ℕ, ◌<◌}
use Rattle.hack_conflicts.specs.Sets.{Has}
use Rattle.hack_conflicts.proofs.rules.meets.Given as goal

abbrev pub invariant-loop-p : goal.invariant-loop-p
invariant-loop-p l = (p : ℕ) → p < l.p → Has l.group p → Has l.set p → ⊥
