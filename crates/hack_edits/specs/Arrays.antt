-- An array of a manifest's piece, and elements cut out between its brackets.
use Rattle.std.specs.Prelude.{◌≡◌, ◌⊎◌, ◌==◌, ℕ, ◌-◌, ◌<◌, Bool, true, false, List, [], ◌∷◌, ◌++◌, All, length, take, drop, codes, Some}
use Rattle.std.specs.Option.{option_map_or}
use Rattle.std.specs.List.{flat_map}
use Rattle.toml.specs.Data.{Members, get_member}
use Rattle.toml.specs.Parse.{parse_document}
use Rattle.toml_parser.specs.Lexical.{skip_from}
use Rattle.toml_parser.specs.Strings.{quoted, starts_string}
use Rattle.hack_manifest.specs.LineRuns.{IsShortest}
use Rattle.hack_manifest.specs.PieceFronts.{IsFrontTo}
use Rattle.hack_edits.specs.Lookup.{items_in}

-- ---- what is left between the brackets

-- the tree has an array of one element at `a`
abbrev pub has_one : Members → Bool
has_one ms = length (items_in (get_member (codes "a") ms)) == 1

-- the text, between brackets, is read as an array of one element
abbrev pub is_element : List ℕ → Bool
is_element text = option_map_or has_one (parse_document (codes "a=[" ++ (text ++ codes "]"))) false

-- an element, with the blanks and comments around it, and its comma
abbrev pub IsWithComma : List ℕ → Type 0
IsWithComma text = (element : List ℕ) × (is_element element ≡ true) × (text ≡ element ++ 44 ∷ [])

-- new is old with some of its elements left out
abbrev pub IsThinned : {X : Type 0} → List X → List X → Type 0
IsThinned [] new = new ≡ []
IsThinned {X = X} (x ∷ old) new = IsThinned old new ⊎ ((rest : List X) × (new ≡ x ∷ rest) × IsThinned old rest)

-- texts, one after another
abbrev pub joined : List (List ℕ) → List ℕ
joined texts = flat_map (λ text. text) texts

-- all but the last byte
abbrev pub but_last : List ℕ → List ℕ
but_last text = take (length text - 1) text

-- a string, behind blanks and comments alone, and then `after`, which is blanks and comments alone
pub record EndsBefore (rest after : List ℕ) : Type 0 where
  pub value : List ℕ
  pub starts : starts_string (skip_from true false rest) ≡ true
  pub string : quoted (skip_from true false rest) ≡ Some (value, after)
  pub blank : skip_from true false after ≡ []

-- What is left between brackets: of the elements with their commas some, in order, and all that
-- follows them; or, where the last element goes, which has no comma, these but for the last comma,
-- and all that follows that element.
pub record IsLeftInside (inside new : List ℕ) : Type 0 where
  pub elements : List (List ℕ)
  pub kept : List (List ℕ)
  pub rest : List ℕ
  pub split : inside ≡ joined elements ++ rest
  pub single : All IsWithComma elements
  pub some : IsThinned elements kept
  pub end : (new ≡ joined kept ++ rest) ⊎ ((after : List ℕ) × EndsBefore rest after × (new ≡ but_last (joined kept) ++ after))

-- ---- the piece

-- The array of a piece begins after the shortest prefix that ends in `[` and parses alone when
-- followed by `]`, and closes with the shortest prefix that ends in `]` and parses alone.
pub record IsArray (piece : List ℕ) (n m : ℕ) : Type 0 where
  pub opens : IsShortest (IsFrontTo 91 (93 ∷ []) piece) n
  pub closes : IsShortest (IsFrontTo 93 [] piece) m
  pub ordered : n < m

-- new is the piece with elements cut out between the brackets of its array, and all other bytes
pub record IsCutInside (piece new : List ℕ) : Type 0 where
  pub n : ℕ
  pub m : ℕ
  pub inside : List ℕ
  pub brackets : IsArray piece n m
  pub left : IsLeftInside (take ((m - 1) - n) (drop n piece)) inside
  pub result : new ≡ take n piece ++ inside ++ drop (m - 1) piece
