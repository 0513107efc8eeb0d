use Rattle.std.proofs.Common.{ℕ, ◌<◌}
use Rattle.hack_conflicts.specs.Sets.{Has}
use Rattle.hack_conflicts.specs.Rules.{HasAbove}
use Rattle.hack_conflicts.proofs.rules.Rules.clash_with.Given as goal

abbrev pub invariant-loop-q : goal.invariant-loop-q
invariant-loop-q l = (q : ℕ) → q < l.q → Has l.set q → Has l.group q → HasAbove l.self l.set l.p q
