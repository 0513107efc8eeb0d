use Rattle.std.proofs.Common.{ℕ, ◌<◌, [], get_or}
use Rattle.hack_conflicts.specs.Sets.{rows_of}
use Rattle.hack_conflicts.specs.Rules.{Meets}
use Rattle.hack_conflicts.proofs.rules.meets_all.Given as goal

abbrev pub invariant-loop-place : goal.invariant-loop-place
invariant-loop-place l = (k : ℕ) → k < l.place → Meets l.set (get_or (rows_of l.groups) k [])
