-- What only private functions of the crate promise each other.
use Rattle.std.specs.Prelude.{ℕ, ◌<◌, List, Bool, length, IsTrue}
use Rattle.std.specs.List.{remove}

-- a permitted set is still permitted after a position is taken out
abbrev pub IsClosed : (List ℕ → Bool) → Type 0
IsClosed may = (s : List ℕ) (i : ℕ) → i < length s → IsTrue (may s) → IsTrue (may (remove s i))
