use Rattle.std.proofs.Common.{ℕ, List, ◌<◌, get_or}
use Rattle.hack_samples.specs.Sets.{rows_of}
use Rattle.hack_suspects.specs.Suspects.{IsPatternBefore}
use Rattle.hack_samples.specs.declared.sets.Setting.{Setting}
use Rattle.hack_suspects.proofs.patterns.place_of.Given as goal

abbrev pub invariant-loop-place : goal.invariant-loop-place
invariant-loop-place l = (k : ℕ) (d : List Setting) → k < l.place → IsPatternBefore (get_or (rows_of l.found) k d) l.pattern
