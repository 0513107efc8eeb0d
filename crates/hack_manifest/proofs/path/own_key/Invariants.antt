use Rattle.std.proofs.Common.{ℕ, ◌+◌, ◌<◌, [], ◌∷◌}
use Rattle.hack_manifest.specs.PieceFronts.{IsFrontTo}
use Rattle.hack_manifest.proofs.path.own_key.Given as goal

-- no such prefix so far
abbrev pub invariant-loop-i : goal.invariant-loop-i
invariant-loop-i l = (m : ℕ) → m < l.i + 1 → IsFrontTo 61 (48 ∷ []) l.piece m → ⊥
