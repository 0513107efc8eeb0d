-- Counts of failures, one after another.
use Rattle.std.proofs.Common.{ℕ, arith}
use Rattle.hack_base.specs.Counters.{GrowsBy}

pub grows_then : (k x y z : ℕ) → GrowsBy 0 x y → GrowsBy k y z → GrowsBy k x z
grows_then k x y z f g = λ low. let first = f low in let second = g (omega (arith, first)) in omega (arith, first, second)
