-- The folders that are added to `workspace.exclude`.
use Rattle.std.specs.Prelude.{◌≡◌, ◌⊎◌, ◌==◌, ℕ, ◌-◌, ◌≤◌, ◌<◌, ◌||◌, Bool, true, false, MatchBool, if◌then◌else◌, List, [], ◌∷◌, ◌++◌, length, take, drop, slice_index, codes}
use Rattle.std.specs.List.{flat_map, join_by}
use Rattle.std.specs.Option.{option_map_or}
use Rattle.toml.specs.Data.{Members}
use Rattle.toml.specs.Parse.{parse_document}
use Rattle.hack_base.specs.Names.{Name}
use Rattle.hack_edits.specs.Arrays.{IsArray}
use Rattle.hack_edits.specs.InternalTreeEquality.{same_members}

-- a text in `"`, with `\` before each `"` and `\`
abbrev pub quoted_text : List ℕ → List ℕ
quoted_text t = 34 ∷ flat_map (λ c. if c == 34 || c == 92 then 92 ∷ c ∷ [] else c ∷ []) t ++ 34 ∷ []

-- the texts in `"`, with `, ` between them
abbrev pub list_text : List Name → List ℕ
list_text ts = join_by quoted_text (codes ", ") ts

-- the header in lines of its own, directly followed by a line that excludes the folders
abbrev pub with_line : List Name → List ℕ → List ℕ
with_line ts piece =
    (if slice_index piece (length piece - 1) == 10 then piece else piece ++ 10 ∷ [])
    ++ (codes "exclude = [" ++ list_text ts ++ codes "]\n")

-- a text is read as this tree
abbrev pub is_read_as : Members → List ℕ → Bool
is_read_as tree text = option_map_or (same_members tree) (parse_document text) false

-- two texts are read as the same tree
abbrev pub reads_alike : List ℕ → List ℕ → Bool
reads_alike a b = option_map_or (λ tree. is_read_as tree b) (parse_document a) false

-- The last value of the array that closes with the first m bytes ends with the first k: these end
-- in the quote of a text, and with a bracket after them they are read as the whole array. (In a
-- comment the bracket would be part of it.)
pub record EndsLast (piece : List ℕ) (m k : ℕ) : Type 0 where
  pub quote : (slice_index piece (k - 1) ≡ 34) ⊎ (slice_index piece (k - 1) ≡ 39)
  pub alike : reads_alike (take k piece ++ 93 ∷ []) (take m piece) ≡ true

-- new is the piece with texts added between the brackets of its array: directly after the first
-- bracket where it is empty, and else directly after the last value
pub record IsAddedInside (filled : Bool) (ts : List Name) (piece new : List ℕ) : Type 0 where
  pub n : ℕ
  pub m : ℕ
  pub k : ℕ
  pub brackets : IsArray piece n m
  pub above : n ≤ k
  pub below : k < m
  pub place : MatchBool filled (EndsLast piece m k) (k ≡ n)
  pub is : new ≡ take k piece ++ (if filled then codes ", " else []) ++ list_text ts ++ drop k piece
