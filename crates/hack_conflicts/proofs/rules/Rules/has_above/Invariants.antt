use Rattle.std.proofs.Common.{ℕ, ◌<◌, IsTrue}
use Rattle.hack_conflicts.specs.Sets.{Has}
use Rattle.hack_conflicts.specs.Rules.{enables}
use Rattle.hack_conflicts.proofs.rules.Rules.has_above.Given as goal

abbrev pub invariant-loop-t : goal.invariant-loop-t
invariant-loop-t l = (t : ℕ) → t < l.t → Has l.set t → IsTrue (enables l.self t l.p) → IsTrue (enables l.self t l.q) → ⊥
