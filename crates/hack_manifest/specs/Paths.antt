-- The key paths of pieces.
use Rattle.std.specs.Prelude.{◌≡◌, ◌==◌, ℕ, Bool, true, false, if◌then◌else◌, map, List, [], ◌∷◌, ◌++◌, take, slice_index}
use Rattle.toml.specs.Parse.{skip_bom}
use Rattle.toml_parser.specs.Lexical.{skip_blank}
use Rattle.hack_base.specs.Names.{Name}
use Rattle.hack_manifest.specs.LineRuns.{chain_at, IsShortest, IsCutInto}
use Rattle.hack_manifest.specs.PieceFronts.{IsFrontTo}

-- the first line that is neither blank nor a comment begins with a bracket
abbrev pub is_header : List ℕ → Bool
is_header piece = slice_index (skip_blank (skip_bom piece)) 0 == 91

-- the names before the shortest prefix that ends in `=` and parses alone when followed by `0`;
-- empty where there is none
pub data IsOwnKey (piece : List ℕ) (key : List Name) : Type 0 where
  at_front : (n : ℕ) → IsShortest (IsFrontTo 61 (48 ∷ []) piece) n
      → key ≡ chain_at (take n piece ++ 48 ∷ []) → IsOwnKey piece key
  no_front : ((n : ℕ) → ¬ IsFrontTo 61 (48 ∷ []) piece n) → key ≡ [] → IsOwnKey piece key

-- a piece after the last header's path has this path: a header has its own, a key is appended to
-- the header's
pub record IsPathOfPiece (header : List Name) (piece : List ℕ) (path : List Name) : Type 0 where
  pub own : is_header piece ≡ true → path ≡ chain_at piece
  pub behind : is_header piece ≡ false → (key : List Name) × IsOwnKey piece key × (path ≡ header ++ key)

-- a piece, wherever it lies in memory
pub record View : Type 0 where
  pub text : List ℕ
  pub path : List Name

-- the header's path after a piece
abbrev pub next_header : List Name → View → List Name
next_header header p = if is_header p.text then p.path else header

-- each piece has its path, given the header's path before it
abbrev pub HavePaths : List Name → List View → Type 0
HavePaths header [] = Unit {0}
HavePaths header (p ∷ ps) = IsPathOfPiece header p.text p.path × HavePaths (next_header header p) ps

-- the pieces of a text with their paths, and the tail
pub record AreCut (text : List ℕ) (pieces : List View) (tail : List ℕ) : Type 0 where
  pub texts : IsCutInto (map (λ p. p.text) pieces) tail text
  pub paths : HavePaths [] pieces

-- the pieces, concatenated
abbrev pub joined_pieces : List View → List ℕ
joined_pieces [] = []
joined_pieces (p ∷ ps) = p.text ++ joined_pieces ps
