-- Files hold one row of entries only.
use Rattle.std.proofs.Common.{◌≡◌, inl, inr, ℕ, zero, suc, List, [], ◌∷◌, ◌++◌, Option, Some, None, refl, sym, ◌∙◌, subst, ap, arith, cond, codes}
use Rattle.std.proofs.lemmas.Bool.Decides.{eqb_tells}
use Rattle.std.proofs.lemmas.List.{append_cancel_left}
use Rattle.hack_files.specs.Files.{Contents}
use Rattle.hack_journal.specs.Journal.{Edit, lines, content_text, edit_text, edits_text, journal_text}
use Rattle.hack_journal.specs.Rows.{Spot, AreFirst, IsRowOf, IsTextOf, placed}
use Rattle.hack_journal.specs.CutFiles.{IsSafeOrCut}
use Rattle.hack_journal.specs.Strangers.{NamesNone, first_stranger}
use Rattle.hack_journal.specs.Internal.{BeginsWithoutSpace}
use Rattle.hack_journal.proofs.RowLemmas.{same_count}
use Rattle.hack_journal.proofs.TextLemmas.{Ends, Feeds, Goes, at_end, begins, entry_is, next_entries, regroup, tail1, tail2, tail3, tail4, tail5}

-- ---- texts

lines_one : (xs ys r s : List ℕ) → BeginsWithoutSpace r → BeginsWithoutSpace s → lines xs ++ r ≡ lines ys ++ s → (xs ≡ ys) × (r ≡ s)
lines_one [] ys r s begun next h = elim (begins ys s r 10 h) [
  | Ends e more left ↦ (sym more, left)
  | Feeds m e more left ↦ let n : BeginsWithoutSpace (32 ∷ (lines m ++ s)) = subst BeginsWithoutSpace left begun in absurd (n refl)
  | Goes m ne more left ↦ absurd (ne refl)
]
lines_one (x ∷ xs) ys r s begun next h = elim (eqb_tells x 10) [
  | inl t ↦
      let fed : 10 ∷ 32 ∷ (lines xs ++ r) ≡ lines ys ++ s = sym (ap (λ v. cond v (10 ∷ 32 ∷ lines xs) (x ∷ lines xs) ++ r) t.0) ∙ h in
      elim (begins ys s (32 ∷ (lines xs ++ r)) 10 fed) [
        | Ends e more left ↦ let n : BeginsWithoutSpace (32 ∷ (lines xs ++ r)) = subst BeginsWithoutSpace (sym left) next in absurd (n refl)
        | Feeds m e more left ↦ let rest : lines xs ++ r ≡ lines m ++ s = cc in let is = lines_one xs m r s begun next rest in (ap (λ b. b ∷ xs) t.1 ∙ ap (λ l. 10 ∷ l) is.0 ∙ sym more, is.1)
        | Goes m ne more left ↦ absurd (ne refl)
      ]
  | inr t ↦
      let went : x ∷ (lines xs ++ r) ≡ lines ys ++ s = sym (ap (λ v. cond v (10 ∷ 32 ∷ lines xs) (x ∷ lines xs) ++ r) t.0) ∙ h in
      elim (begins ys s (lines xs ++ r) x went) [
        | Ends e more left ↦ absurd (t.1 e)
        | Feeds m e more left ↦ absurd (t.1 e)
        | Goes m ne more left ↦ let is = lines_one xs m r s begun next left in (ap (λ l. x ∷ l) is.0 ∙ sym more, is.1)
      ]
]

content_one : (x y : Option (List ℕ)) (r s : List ℕ) → BeginsWithoutSpace r → BeginsWithoutSpace s → content_text x ++ r ≡ content_text y ++ s → (x ≡ y) × (r ≡ s)
content_one None None r s begun next h = (refl, append_cancel_left (codes " nothing\n") r s h)
content_one None (Some b) r s begun next h = cc
content_one (Some a) None r s begun next h = cc
content_one (Some a) (Some b) r s begun next h =
    let is = lines_one a b r s begun next (append_cancel_left (codes "\n ") (lines a ++ r) (lines b ++ s) h) in (ap Some is.0, is.1)

edit_one : (e f : Edit) (r s : List ℕ) → BeginsWithoutSpace r → BeginsWithoutSpace s → edit_text e ++ r ≡ edit_text f ++ s → (e ≡ f) × (r ≡ s)
edit_one e f r s begun next h =
    let first = append_cancel_left (codes "path ") (tail1 e r) (tail1 f s) (sym (regroup e r) ∙ h ∙ regroup f s) in
    let path = lines_one e.path f.path (tail2 e r) (tail2 f s) (omega arith) (omega arith) first in
    let held = content_one e.held f.held (tail4 e r) (tail4 f s) (omega arith) (omega arith) (append_cancel_left (codes "held") (tail3 e r) (tail3 f s) path.1) in
    let wrote = content_one e.wrote f.wrote r s begun next (append_cancel_left (codes "wrote") (tail5 e r) (tail5 f s) held.1) in
    (ap (λ (x : Edit × List ℕ). x.0) (entry_is f e.path e.held e.wrote r s path.0 held.0 wrote.0 wrote.1), wrote.1)

edits_one : (es fs : List Edit) → edits_text es ≡ edits_text fs → es ≡ fs
edits_one [] fs h = sym (at_end (codes "end\n") fs h refl)
edits_one (e ∷ es) [] h = at_end (edits_text (e ∷ es)) (e ∷ es) refl h
edits_one (e ∷ es) (f ∷ fs) h =
    let is = edit_one e f (edits_text es) (edits_text fs) (next_entries es) (next_entries fs) h in
    ap (λ x. x ∷ es) is.0 ∙ ap (λ l. f ∷ l) (edits_one es fs is.1)

-- ---- files

text_one : (folder : List ℕ) (held : Option (List ℕ)) (es fs : List Edit) → IsTextOf folder held es → IsTextOf folder held fs → es ≡ fs
text_one folder held es fs t u =
    let same : Some (journal_text t.raw) ≡ Some (journal_text u.raw) = sym t.text ∙ u.text in
    let text : journal_text t.raw ≡ journal_text u.raw = cc in
    let raw = edits_one t.raw u.raw (append_cancel_left (codes "edited files\n") (edits_text t.raw) (edits_text u.raw) text) in
    sym t.are ∙ ap (placed folder) raw ∙ u.are

first_one : (s : Spot) (m : Contents) (c : ℕ) (es fs : List Edit) → AreFirst s m c es → AreFirst s m c fs → es ≡ fs
first_one s m zero es fs h k = h ∙ sym k
first_one s m (suc c) es fs h k =
    let before = first_one s m c h.0 k.0 h.2 k.2 in
    let last = text_one s.folder _ h.1 k.1 h.3 k.3 in
    h.4 ∙ ap (λ l. l ++ h.1) before ∙ ap (λ l. k.0 ++ l) last ∙ sym k.4

pub row_one : (s : Spot) (m : Contents) (es fs : List Edit) → IsRowOf s m es → IsRowOf s m fs → es ≡ fs
row_one s m es fs h k =
    let count = same_count s m h.count k.count es fs h.files h.ends k.files k.ends in
    first_one s m h.count es fs h.files (subst (λ (c : ℕ). AreFirst s m c fs) count k.files)

-- where files are safe, or a write was cut, the journal names no stranger
pub cut_none_strange : (s : Spot) (o m : Contents) → IsSafeOrCut s o m → NamesNone s m
cut_none_strange s o m h edits row = ap first_stranger (row_one s m edits h.entries row h.by.row) ∙ h.by.known
