use Rattle.std.proofs.Common.{ℕ, ◌<◌}
use Rattle.hack_conflicts.specs.Sets.{Has}
use Rattle.hack_conflicts.proofs.sets.is_within.Given as goal

abbrev pub invariant-loop-p : goal.invariant-loop-p
invariant-loop-p l = (p : ℕ) → p < l.p → Has l.small p → Has l.large p
