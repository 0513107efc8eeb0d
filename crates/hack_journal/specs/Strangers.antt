-- Entries that no call makes: they name a file that no call edits.
use Rattle.std.specs.Prelude.{◌≡◌, ◌&&◌, ℕ, Bool, List, [], ◌∷◌, Option, Some, None, codes, if◌then◌else◌, is_some, nat_eq}
use Rattle.std.specs.List.{ends_with}
use Rattle.hack_files.specs.Files.{Contents}
use Rattle.hack_journal.specs.Journal.{Edit}
use Rattle.hack_journal.specs.Rows.{IsRowOf, Spot}

-- an edit of a manifest that was there, which gave it another text
abbrev pub is_edit_of_manifest : Edit → Bool
is_edit_of_manifest e = ends_with nat_eq e.path (codes "/Cargo.toml") && is_some e.held && is_some e.wrote

-- the first edit that is none
abbrev pub first_stranger : List Edit → Option Edit
first_stranger [] = None
first_stranger (e ∷ es) = if is_edit_of_manifest e then first_stranger es else Some e

-- a journal that is there names no such edit
abbrev pub NamesNone : Spot → Contents → Type 0
NamesNone spot held = (edits : List Edit) → IsRowOf spot held edits → first_stranger edits ≡ None

-- it names one, of this path
pub record NamesStranger (spot : Spot) (held : Contents) (path : List ℕ) : Type 0 where
  pub edits : List Edit
  pub row : IsRowOf spot held edits
  pub edit : Edit
  pub first : first_stranger edits ≡ Some edit
  pub is : edit.path ≡ path
