-- What is left of a manifest's pieces, as pieces again.
use Rattle.std.specs.Prelude.{◌≡◌, ℕ, ◌-◌, false, List, length, slice_index}
use Rattle.hack_base.specs.Names.{Name}
use Rattle.hack_manifest.specs.Paths.{IsOwnKey, is_header}
use Rattle.hack_manifest.specs.LineRuns.{IsRun, IsShortest}

-- the text ends in a line feed
abbrev pub EndsInFeed : List ℕ → Type 0
EndsInFeed text = slice_index text (length text - 1) ≡ 10

-- a piece and what is left of it are a key with its value, of the same names, and what is left is one piece
pub record KeepsKey (piece part : List ℕ) : Type 0 where
  pub plain : is_header piece ≡ false
  pub still_plain : is_header part ≡ false
  pub key : List Name
  pub own : IsOwnKey piece key
  pub kept : IsOwnKey part key
  pub run : IsShortest (IsRun part) (length part)
  pub feed : EndsInFeed piece → EndsInFeed part
