use Rattle.std.proofs.Common.{ℕ, ◌<◌, [], get_or}
use Rattle.hack_conflicts.specs.Sets.{rows_of}
use Rattle.hack_conflicts.specs.Rules.{HasOneOf}
use Rattle.hack_conflicts.proofs.rules.Rules.clash.Given as goal

abbrev pub invariant-loop-place : goal.invariant-loop-place
invariant-loop-place l = (k : ℕ) → k < l.place → HasOneOf l.self l.set (get_or (rows_of l.self.exclusive.items) k [])
