-- Prefixes of a piece that end in a given byte and, followed by a few more bytes, parse alone.
use Rattle.std.specs.Prelude.{◌≡◌, ℕ, ◌-◌, ◌<◌, ◌≤◌, true, List, ◌++◌, length, take, slice_index}
use Rattle.hack_manifest.specs.LineRuns.{stands}

-- the first n bytes end in this byte, and parse alone when followed by `more`
pub record IsFrontTo (byte : ℕ) (more piece : List ℕ) (n : ℕ) : Type 0 where
  pub some : 0 < n
  pub within : n ≤ length piece
  pub ends : slice_index piece (n - 1) ≡ byte
  pub reads : stands (take n piece ++ more) ≡ true
