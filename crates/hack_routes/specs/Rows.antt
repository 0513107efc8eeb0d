-- Rows of marks, one for each place, and what they say.
use Rattle.std.specs.Prelude.{ℕ, List, [], Bool, false, ◌||◌, ◌==◌}
use Rattle.std.specs.List.{slice_index_or}

-- the entry of a row, false past its end
abbrev pub bit : List Bool → ℕ → Bool
bit row p = slice_index_or row p false

-- the entry of a table
abbrev pub cell : List (List Bool) → ℕ → ℕ → Bool
cell rows p q = bit (slice_index_or rows p []) q

-- a chain leads from a place to another, as the marks say; a place leads to itself
abbrev pub leads : List (List Bool) → ℕ → ℕ → Bool
leads marks from to = from == to || cell marks from to
