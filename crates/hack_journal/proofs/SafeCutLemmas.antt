-- A write that is cut, between two states of safe files.
use Rattle.std.proofs.Common.{◌≡◌, ◌≢◌, ◌∙◌, ◌⊎◌, ◌++◌, inl, inr, ℕ, false, IsTrue, List, Option, Some, drop, take, ap, subst, sym}
use Rattle.std.proofs.lemmas.Bool.{cases_Bool, false≢true}
use Rattle.std.proofs.lemmas.List.{take-append-drop}
use Rattle.std.proofs.lemmas.Slice.Eq.{bytes_eq-Decides}
use Rattle.std.specs.Str.{bytes_eq}
use Rattle.hack_files.specs.Files.{Contents, after_change, puts}
use Rattle.hack_journal.specs.CutFiles.{IsSafeOrCut}
use Rattle.hack_journal.specs.Journal.{Edit}
use Rattle.hack_journal.specs.Recovery.{IsCut, IsOwn}
use Rattle.hack_journal.specs.Rows.{Spot, file_at, is_of_journal}
use Rattle.hack_journal.specs.SafeFiles.{IsSafe, KeepFirst, SomeEntryHasBytes}
use Rattle.hack_files.proofs.FilesLemmas.{changed_here, changed_other}
use Rattle.hack_journal.proofs.OnceLemmas.{row_one}
use Rattle.hack_journal.proofs.RecoverLemmas.{has_of, own_told, tells_first}
use Rattle.hack_journal.proofs.RowLemmas.{fresh_apart, own_file, row_along}

-- a cut write over bytes that an entry has, by others that one has, is a call's own
left_cut : (es : List Edit) (q new was now : List ℕ) (x : Option (List ℕ)) → SomeEntryHasBytes es q (Some new) → SomeEntryHasBytes es q (Some was) → x ≡ Some now → IsCut new was now → IsOwn es q x
unfolding IsOwn
left_cut es q new was now x h k is cut = inr (new, was, now, h, k, is, cut)

-- a write of what is there already leaves that, wherever it is cut
cut_same : (new was now : List ℕ) → new ≡ was → IsCut new was now → now ≡ was
cut_same new was now same cut = cut.2 ∙ ap (λ (l : List ℕ). take cut.0 l ++ drop cut.0 was) same ∙ take-append-drop cut.0 was

-- what the path of the write holds
cut_here : (j : List ℕ) (first : Contents) (es : List Edit) (p new was now : List ℕ) (x : Option (List ℕ)) → KeepFirst j first es → x ≡ Some now → IsCut new was now
    → (Some was ≡ first p) ⊎ SomeEntryHasBytes es p (Some was) → (Some new ≡ first p) ⊎ SomeEntryHasBytes es p (Some new) → (x ≡ first p) ⊎ IsOwn es p x
cut_here j first es p new was now x keep is cut (inl old) (inl made) =
    let same : new ≡ was = let both : Some new ≡ Some was = made ∙ sym old in cc in
    inl (is ∙ ap Some (cut_same new was now same cut) ∙ old)
cut_here j first es p new was now x keep is cut (inl old) (inr made) = inr (left_cut es p new was now x made (subst (SomeEntryHasBytes es p) (sym old) (tells_first j first es p keep (has_of es p (Some new) made)).1) is cut)
cut_here j first es p new was now x keep is cut (inr old) (inl made) = inr (left_cut es p new was now x (subst (SomeEntryHasBytes es p) (sym made) (tells_first j first es p keep (has_of es p (Some was) old)).1) old is cut)
cut_here j first es p new was now x keep is cut (inr old) (inr made) = inr (left_cut es p new was now x made old is cut)

-- files that are safe before a write and after it are so where it is cut
pub cut_between : (s : Spot) (first old : Contents) (path new was now : List ℕ) → IsSafe s first old → IsSafe s first (after_change (puts path new) old) → is_of_journal s.journal path ≡ false → old path ≡ Some was → IsCut new was now
    → IsSafeOrCut s first (after_change (puts path now) old)
cut_between s first old path new was now before next out held cut = record {
  entries = next.entries;
  by = record {
    row = row_along s made left next.entries (λ k. apart (file_at s.journal k) (own_file s.journal k)) next.by.row;
    fresh = fresh_apart s.journal next.by.row.count first made left apart next.by.fresh;
    known = next.by.known;
    keeps = next.by.keeps;
    holds = λ q off. elim (same_or q) [
      | inl is ↦ subst (λ (r : List ℕ). (left r ≡ first r) ⊎ IsOwn next.entries r (left r)) is
          (cut_here s.journal first next.entries path new was now (left path) next.by.keeps (changed_here (puts path now) old) cut
          (subst (λ (x : Option (List ℕ)). (x ≡ first path) ⊎ SomeEntryHasBytes next.entries path x) held (kept path out))
          (subst (λ (x : Option (List ℕ)). (x ≡ first path) ⊎ SomeEntryHasBytes next.entries path x) (changed_here (puts path new) old) (next.by.holds path out)))
      | inr ne ↦ subst (λ (x : Option (List ℕ)). (x ≡ first q) ⊎ IsOwn next.entries q x) (sym (changed_other (puts path now) old q ne)) (widened q (kept q off))
    ];
  };
}
  where
    made : Contents
    made = after_change (puts path new) old

    left : Contents
    left = after_change (puts path now) old

    -- no file of the journal is written
    away : (q : List ℕ) → IsTrue (is_of_journal s.journal q) → q ≢ path
    away q own e = false≢true (sym out ∙ ap (is_of_journal s.journal) (sym e) ∙ own)

    apart : (q : List ℕ) → IsTrue (is_of_journal s.journal q) → left q ≡ made q
    apart q own = changed_other (puts path now) old q (away q own) ∙ sym (changed_other (puts path new) old q (away q own))

    -- the row is one
    same_row : before.entries ≡ next.entries
    same_row = row_one s old before.entries next.entries before.by.row (row_along s made old next.entries (λ k. sym (changed_other (puts path new) old (file_at s.journal k) (away (file_at s.journal k) (own_file s.journal k)))) next.by.row)

    kept : (q : List ℕ) → is_of_journal s.journal q ≡ false → (old q ≡ first q) ⊎ SomeEntryHasBytes next.entries q (old q)
    kept q off = subst (λ (es : List Edit). (old q ≡ first q) ⊎ SomeEntryHasBytes es q (old q)) same_row (before.by.holds q off)

    widened : (q : List ℕ) → (old q ≡ first q) ⊎ SomeEntryHasBytes next.entries q (old q) → (old q ≡ first q) ⊎ IsOwn next.entries q (old q)
    widened q (inl same) = inl same
    widened q (inr h) = inr (own_told next.entries q (old q) h)

    same_or : (q : List ℕ) → (path ≡ q) ⊎ (q ≢ path)
    same_or q = elim (cases_Bool (bytes_eq path q)) [
      | inl is ↦ inl ((bytes_eq-Decides path q).0 is)
      | inr off ↦ inr (λ e. false≢true (sym off ∙ (bytes_eq-Decides path q).1 (sym e)))
    ]
