-- A manifest without its development dependencies.
use Rattle.std.specs.Prelude.{◌≡◌, ◌⊎◌, ◌==◌, ℕ, ◌&&◌, ◌||◌, Bool, true, false, not, MatchBool, if◌then◌else◌, List, [], ◌∷◌, ◌++◌, length, Some, option_and_then}
use Rattle.std.specs.List.{list_any}
use Rattle.std.specs.Str.{bytes_eq}
use Rattle.toml.specs.Data.{Members, get_member}
use Rattle.toml.specs.Parse.{parse_document}
use Rattle.hack_base.specs.Names.{Name}
use Rattle.hack_manifest.specs.Manifest.{features_key, table_at}
use Rattle.hack_manifest.specs.Paths.{View, AreCut, is_header}
use Rattle.hack_edits.specs.Arrays.{IsCutInside}
use Rattle.hack_edits.specs.DevTree.{reads_as_left}
use Rattle.hack_edits.specs.KeyPaths.{target_key, path_name_at, is_dev}
use Rattle.hack_edits.specs.Parts.{AreParts}
use Rattle.hack_edits.specs.Lookup.{has_dev, has_target_dev, has_dev_under, item_goes, items_in}

-- ---- the pieces

-- some piece is one of development dependencies
abbrev pub some_dev : List View → Bool
some_dev ps = list_any (λ p. is_dev p.path) ps

-- the path is that of a feature from whose array texts are removed
abbrev pub loses_texts : Members → List Name → Bool
loses_texts old (top ∷ name ∷ []) =
    let value = option_and_then (get_member name) (table_at features_key old) in
    bytes_eq top features_key && list_any (item_goes old) (items_in value)
loses_texts old _ = false

-- a piece that stays loses texts
abbrev pub is_cut : Members → View → Bool
is_cut old p = not (is_dev p.path) && loses_texts old p.path

-- some piece that stays does
abbrev pub cuts_arrays : Members → List View → Bool
cuts_arrays old ps = list_any (is_cut old) ps

-- a key with its value at `target` or `target.X`, which holds development dependencies
abbrev pub holds_inline : Members → View → Bool
holds_inline old p = (not (is_header p.text) && bytes_eq (path_name_at p.path 0) target_key)
    && ((length p.path == 1 && has_target_dev old) || (length p.path == 2 && has_dev_under (path_name_at p.path 1) old))

-- some piece does
abbrev pub some_inline : Members → List View → Bool
some_inline old ps = list_any (holds_inline old) ps

-- what is left of a piece: nothing, the piece with slices cut out between its array's brackets, or the piece
abbrev pub IsLeft : Members → View → List ℕ → Type 0
IsLeft old p part = MatchBool (is_dev p.path) (part ≡ []) (MatchBool (loses_texts old p.path) (IsCutInside p.text part) (part ≡ p.text))

-- the pieces that stay, whole and in order, and the tail
abbrev pub kept_text : List View → List ℕ → List ℕ
kept_text [] tail = tail
kept_text (p ∷ ps) tail = if is_dev p.path then kept_text ps tail else p.text ++ kept_text ps tail

-- ---- the edit

-- no piece of the text is one of development dependencies
pub record HasNoDevPiece (text : List ℕ) : Type 0 where
  pub pieces : List View
  pub tail : List ℕ
  pub cut : AreCut text pieces tail
  pub none : some_dev pieces ≡ false

-- What is left of the pieces, which `toml` reads as what stays of the tree, and which has no piece
-- of development dependencies.
pub record IsEdit (old : Members) (ps : List View) (tail new : List ℕ) : Type 0 where
  pub left : AreParts (IsLeft old) ps tail new
  pub tree : reads_as_left old (parse_document new) ≡ true
  pub done : HasNoDevPiece new

-- What removing gives: the text where there is nothing to take out, neither a table in the tree nor
-- a piece, else an edit of it.
pub record IsWithoutDev (text new : List ℕ) : Type 0 where
  pub old : Members
  pub ps : List View
  pub tail : List ℕ
  pub read : parse_document text ≡ Some old
  pub cut : AreCut text ps tail
  pub edit : MatchBool (has_dev old || some_dev ps) (IsEdit old ps tail new) (new ≡ text)

-- the text has nothing to take out
pub record HasNoDev (text : List ℕ) : Type 0 where
  pub old : Members
  pub read : parse_document text ≡ Some old
  pub none : has_dev old ≡ false
  pub pieces : HasNoDevPiece text

-- ---- the refusals

-- an inline table at `target` or under it holds development dependencies
pub record HasInlineTarget (text : List ℕ) : Type 0 where
  pub old : Members
  pub ps : List View
  pub tail : List ℕ
  pub read : parse_document text ≡ Some old
  pub cut : AreCut text ps tail
  pub inline : some_inline old ps ≡ true

-- There is something to take out, no inline table holds it, and texts are removed from an array, or
-- the pieces that stay aren't read as what stays of the tree.
pub record IsMisread (text : List ℕ) : Type 0 where
  pub old : Members
  pub ps : List View
  pub tail : List ℕ
  pub read : parse_document text ≡ Some old
  pub cut : AreCut text ps tail
  pub work : (has_dev old || some_dev ps) ≡ true
  pub open_tables : some_inline old ps ≡ false
  pub cause : (cuts_arrays old ps ≡ true) ⊎ (reads_as_left old (parse_document (kept_text ps tail)) ≡ false)
