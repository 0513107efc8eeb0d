-- What only private functions of the crate promise each other.
use Rattle.std.specs.Prelude.{◌≡◌, ◌⊎◌, ℕ, Bool, true, false, MatchBool, List, [], ◌++◌}
use Rattle.toml.specs.Data.{Members}
use Rattle.hack_manifest.specs.Paths.{View}
use Rattle.hack_edits.specs.DevDeps.{IsLeft, is_cut}
use Rattle.hack_edits.specs.KeyPaths.{is_dev}
use Rattle.hack_edits.specs.Parts.{AreParts}
use Rattle.hack_edits.specs.LeftPieces.{KeepsKey}

-- what is left of a piece: nothing, the piece, or a piece with its key
abbrev pub IsRecut : View → List ℕ → Type 0
IsRecut p part = MatchBool (is_dev p.path) (part ≡ []) ((part ≡ p.text) ⊎ KeepsKey p.text part)

-- what is left of the pieces, in order, and the tail
abbrev pub AreRecut : List View → List ℕ → List ℕ → Type 0
AreRecut ps tail new = AreParts IsRecut ps tail new

-- what is left of a piece was appended to a text; where it isn't known to be a piece again, texts
-- are removed from it
pub record AppendsWhatIsLeft (old : Members) (p : View) (known : Bool) (before after : List ℕ) : Type 0 where
  pub part : List ℕ
  pub whole : after ≡ before ++ part
  pub left : IsLeft old p part
  pub recut : known ≡ true → IsRecut p part
  pub cut : known ≡ false → is_cut old p ≡ true
