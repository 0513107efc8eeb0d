-- Counts of what failed.
use Rattle.std.specs.Prelude.{ℕ, ◌≡◌, ◌<◌, ◌+◌, ◌-◌, ◌^◌, min}

-- a count of 64 bits has gone up by k, but not above its greatest value
abbrev pub GrowsBy : ℕ → ℕ → ℕ → Type 0
GrowsBy k old new = old < 2 ^ 64 → new ≡ min (old + k) (2 ^ 64 - 1)
