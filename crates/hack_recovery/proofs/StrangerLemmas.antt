-- What journals name.
use Rattle.std.proofs.Common.{◌≡◌, ◌∙◌, ℕ, List, [], ap, refl, subst, sym}
use Rattle.std.specs.Prelude.{Option, Some, None, option_and_then}
use Rattle.hack_files.specs.Files.{Contents}
use Rattle.hack_journal.proofs.OnceLemmas.{cut_none_strange}
use Rattle.hack_journal.proofs.RowLemmas.{file_zero, row_of, row_only, same_count}
use Rattle.hack_journal.specs.Journal.{Edit, edits_of}
use Rattle.hack_journal.specs.Rows.{AreFirst, IsRowRead, Spot}
use Rattle.hack_journal.specs.CutFiles.{IsSafeOrCut}
use Rattle.hack_journal.specs.Strangers.{NamesNone, NamesStranger, first_stranger}
use Rattle.hack_journal.specs.declared.rows.Row.{Row}

-- where nothing is at the journal's path, its row has no file
empty : (s : Spot) (held : Contents) → held s.journal ≡ None → NamesNone s held
empty s held off edits r =
    let count : r.count ≡ 0 = same_count s held 0 r.count [] edits refl (ap held (file_zero s.journal) ∙ off) r.files r.ends in
    let none : edits ≡ [] = subst (λ (k : ℕ). AreFirst s held k edits) count r.files in
    ap first_stranger none

-- what was read names no stranger
pub none_named : (T : Type 0) (s : Spot) (held : Contents) (row : Option Row) → (row ≡ None → T → held s.journal ≡ None) → ((r : Row) → row ≡ Some r → T → IsRowRead s held r.count (edits_of r.entries.items))
    → option_and_then (λ (r : Row). first_stranger (edits_of r.entries.items)) row ≡ None → T → NamesNone s held
none_named T s held None absent read none t = empty s held (absent refl t)
none_named T s held (Some row) absent read none t = λ edits r. ap first_stranger (sym (row_only s held row.count (edits_of row.entries.items) edits (read row refl t) r).1) ∙ none

-- or this one
pub one_named : (T : Type 0) (s : Spot) (held : Contents) (row : Option Row) (e : Edit) → ((r : Row) → row ≡ Some r → T → IsRowRead s held r.count (edits_of r.entries.items))
    → Some e ≡ option_and_then (λ (r : Row). first_stranger (edits_of r.entries.items)) row → T → NamesStranger s held e.path
one_named T s held None e read one t = cc
one_named T s held (Some row) e read one t = record {
  edits = edits_of row.entries.items;
  row = row_of s held row.count (edits_of row.entries.items) (read row refl t);
  edit = e;
  first = sym one;
  is = refl;
}

-- no interrupted call left a journal that names one
pub never_strange : (T : Type 0) (s : Spot) (held : Contents) (path : List ℕ) → (T → NamesStranger s held path) → T → (first : Contents) → ¬ IsSafeOrCut s first held
never_strange T s held path named t first safe =
    let n = named t in
    let y : Some n.edit ≡ None = sym n.first ∙ cut_none_strange s first held safe n.edits n.row in
    cc
