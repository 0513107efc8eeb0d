-- How many patterns there are of some candidates.
use Rattle.std.specs.Prelude.{◌≡◌, ◌<◌, ◌+◌, ◌*◌, ◌-◌, ◌^◌, ℕ, zero, suc, List, length, min}
use Rattle.std.specs.List.{slice_index_or}

-- how many patterns there are of exactly t of n candidates, each of them on or off: those without the last candidate, and those with it on, and with it off
abbrev pub patterns : ℕ → ℕ → ℕ
patterns zero zero = 1
patterns zero (suc t) = 0
patterns (suc n) zero = 1
patterns (suc n) (suc t) = patterns n (suc t) + 2 * patterns n t

-- a look for a sample is long where there are more of them
abbrev pub many_patterns : ℕ
many_patterns = 1000000

-- the count at k is of the patterns of exactly k + 1 of n candidates, capped at the greatest u128
abbrev pub CountsPatterns : ℕ → List ℕ → Type 0
CountsPatterns n counts = (k d : ℕ) → k < length counts → slice_index_or counts k d ≡ min (patterns n (suc k)) (2 ^ 128 - 1)
