-- Texts split at the first occurrence of a byte.
use Rattle.std.specs.Prelude.{ℕ, List, Option, Some, None, length, nat_lt, ◌==◌, if◌then◌else◌}
use Rattle.std.specs.List.{before_first, after_first, position_or_len}

-- the text before the first byte b, or all of it
abbrev pub front_of : ℕ → List ℕ → List ℕ
front_of b text = before_first (λ c. c == b) text

-- the text after the first byte b, if it has one
abbrev pub rest_of : ℕ → List ℕ → Option (List ℕ)
rest_of b text = if nat_lt (position_or_len (λ c. c == b) text) (length text) then Some (after_first (λ c. c == b) text) else None
