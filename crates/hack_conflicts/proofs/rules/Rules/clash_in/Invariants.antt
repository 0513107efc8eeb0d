use Rattle.std.proofs.Common.{ℕ, ◌<◌}
use Rattle.hack_conflicts.specs.Sets.{Has}
use Rattle.hack_conflicts.specs.Rules.{HasAbove}
use Rattle.hack_conflicts.proofs.rules.Rules.clash_in.Given as goal

abbrev pub invariant-loop-p : goal.invariant-loop-p
invariant-loop-p l = (p : ℕ) → p < l.p → Has l.set p → Has l.group p → (q : ℕ) → Has l.set q → Has l.group q → HasAbove l.self l.set p q
