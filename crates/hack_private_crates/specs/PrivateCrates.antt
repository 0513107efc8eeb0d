-- A manifest without private crates.
use Rattle.std.specs.Prelude.{◌≡◌, ◌==◌, ℕ, ◌&&◌, ◌||◌, Bool, true, false, not, nat_lt, MatchBool, MatchOption, List, Option, Some, None}
use Rattle.std.specs.Option.{is_none}
use Rattle.std.specs.List.{list_any}
use Rattle.toml.specs.Data.{Data, array, Members, get_member}
use Rattle.toml.specs.Parse.{parse_document}
use Rattle.hack_base.specs.Names.{Name}
use Rattle.hack_manifest.specs.Manifest.{table_at, is_inline}
use Rattle.hack_manifest.specs.Paths.{View, AreCut}
use Rattle.hack_edits.specs.Arrays.{IsCutInside}
use Rattle.hack_private_crates.specs.Exclude.{with_line, IsAddedInside, is_read_as}
use Rattle.hack_manifest.specs.LineRuns.{has_some}
use Rattle.hack_edits.specs.Lookup.{items_in}
use Rattle.hack_edits.specs.KeyPaths.{workspace_key, members_key, exclude_key, is_pair, is_header_of}
use Rattle.hack_private_crates.specs.Members.{excluded_folders}
use Rattle.hack_edits.specs.Parts.{AreParts}
use Rattle.hack_private_crates.specs.WorkspaceTree.{takes, has_work, tree_left}

-- What is made of a piece, by whether members are removed, and with texts to add: slices are cut
-- out of the array of members, and the texts are added to the array that excludes, or in a line
-- after the header where there is no such array.
abbrev pub IsMade : Bool → List Name → Members → View → List ℕ → Type 0
IsMade takes ts ws p part =
    MatchBool (is_pair workspace_key members_key p.path && takes) (IsCutInside p.text part)
    (MatchBool (is_pair workspace_key exclude_key p.path && has_some ts)
    (IsAddedInside (has_some (items_in (get_member exclude_key ws))) ts p.text part)
    (MatchBool (is_header_of workspace_key p && is_none (get_member exclude_key ws) && has_some ts)
    (part ≡ with_line ts p.text) (part ≡ p.text)))

-- What is made of the pieces, which `toml` reads as the tree with the workspace that is expected.
pub record IsWorkspaceEdit (root : Name) (ps : List Name) (text : List ℕ) (old ws : Members) (new : List ℕ) : Type 0 where
  pub pieces : List View
  pub tail : List ℕ
  pub cut : AreCut text pieces tail
  pub made : AreParts (IsMade (takes root ps ws) (excluded_folders root ps ws) ws) pieces tail new
  pub tree : is_read_as (tree_left root ps old) new ≡ true

-- a byte of a control character
abbrev pub is_control : ℕ → Bool
is_control b = nat_lt b 32 || b == 127

-- the text has a control character
abbrev pub some_control : Name → Bool
some_control text = list_any is_control text

-- some path has one
abbrev pub some_path_control : List Name → Bool
some_path_control ps = list_any some_control ps

-- What removing private crates gives: the text where there is no workspace, or nothing to take out
-- or add, else an edit of it, where no path has a control character.
pub record IsWithoutPrivate (root : Name) (ps : List Name) (text new : List ℕ) : Type 0 where
  pub old : Members
  pub read : parse_document text ≡ Some old
  pub edit : MatchOption (table_at workspace_key old) (new ≡ text)
      (λ ws. MatchBool (has_work root ps ws) ((some_path_control ps ≡ false) × IsWorkspaceEdit root ps text old ws new) (new ≡ text))

-- ---- the refusals

-- there is a header `[workspace]`
abbrev pub some_header : List View → Bool
some_header ps = list_any (is_header_of workspace_key) ps

-- the value is an array
abbrev pub is_array_data : Data → Bool
is_array_data (array ds) = true
is_array_data d = false

-- folders can't be excluded: `exclude` isn't an array, or there is none and no header `[workspace]`
abbrev pub no_place : Option Data → List View → Bool
no_place (Some d) pieces = not (is_array_data d)
no_place None pieces = not (some_header pieces)

-- there is no place for folders to exclude in this workspace
abbrev pub has_no_place : Members → List View → Bool
has_no_place ws pieces = no_place (get_member exclude_key ws) pieces

-- a form that isn't supported: an inline workspace, or no place for folders to exclude
abbrev pub is_bad_form : Name → List Name → Members → List View → Bool
is_bad_form root ps ws pieces =
    is_inline workspace_key pieces
    || (has_some (excluded_folders root ps ws) && has_no_place ws pieces)

-- an unsupported form where there is something to take out or add
pub record HasBadForm (root : Name) (ps : List Name) (text : List ℕ) : Type 0 where
  pub old : Members
  pub ws : Members
  pub pieces : List View
  pub tail : List ℕ
  pub read : parse_document text ≡ Some old
  pub workspace : table_at workspace_key old ≡ Some ws
  pub work : has_work root ps ws ≡ true
  pub cut : AreCut text pieces tail
  pub bad : is_bad_form root ps ws pieces ≡ true

-- a supported form where there is something to take out or add
pub record HasFitForm (root : Name) (ps : List Name) (text : List ℕ) : Type 0 where
  pub old : Members
  pub ws : Members
  pub pieces : List View
  pub tail : List ℕ
  pub read : parse_document text ≡ Some old
  pub workspace : table_at workspace_key old ≡ Some ws
  pub work : has_work root ps ws ≡ true
  pub cut : AreCut text pieces tail
  pub fit : is_bad_form root ps ws pieces ≡ false

-- the text has something to take out or add
pub record HasWork (root : Name) (ps : List Name) (text : List ℕ) : Type 0 where
  pub old : Members
  pub ws : Members
  pub read : parse_document text ≡ Some old
  pub workspace : table_at workspace_key old ≡ Some ws
  pub work : has_work root ps ws ≡ true

-- a member to take out, or a folder to exclude, in a workspace if there is one
abbrev pub work_at : Name → List Name → Option Members → Bool
work_at root ps None = false
work_at root ps (Some ws) = has_work root ps ws

-- the text has nothing to take out or add
pub record HasNoWork (root : Name) (ps : List Name) (text : List ℕ) : Type 0 where
  pub old : Members
  pub read : parse_document text ≡ Some old
  pub none : work_at root ps (table_at workspace_key old) ≡ false
