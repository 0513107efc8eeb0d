use Rattle.std.proofs.Common.{ℕ, ◌+◌, ◌<◌}
use Rattle.hack_manifest.specs.PieceFronts.{IsFrontTo}
use Rattle.hack_edits.proofs.arrays.first_front.Given as goal

abbrev pub invariant-loop-i : goal.invariant-loop-i
invariant-loop-i l = (m : ℕ) → m < l.i + 1 → IsFrontTo l.byte l.more l.piece m → ⊥
