use Rattle.std.proofs.Common.{◌≡◌, ◌++◌, ◌∷◌, [], ap, arith, length-append, sym, ◌∙◌, subst, List, ℕ, true, false, inl, inr, length, string_bytes}
use Rattle.std.proofs.lemmas.Bool.{false≢true}
use Rattle.hack_files.specs.Files.{Makes, MakesOrNot, removes}
use Rattle.hack_journal.specs.Journal.{Edit}
use Rattle.hack_journal.specs.FileCalls.{spot_in}
use Rattle.hack_journal.specs.Rows.{RemovesOwn, file_at}
use Rattle.hack_journal.specs.Internal.{ShortensRow}
use Rattle.hack_journal.proofs.FailedLemmas.{row_then}
use Rattle.hack_journal.proofs.FinishLemmas.{only_removed, only_then, shorten_err, shorten_last, shorten_more}
use Rattle.hack_journal.proofs.journaled.Journaled.+remove_row.Goals as goal

pub returns-in_err-remove-clause-only : goal.returns-in_err-remove-clause-only
returns-in_err-remove-clause-only g t c = λ whole. only_removed _ _ _ _ _ _ _ c.next.ensures.path (c.in_err-remove.ensures.refused whole)

pub returns-else-pop-clause-only : goal.returns-else-pop-clause-only
returns-else-pop-clause-only g t c = λ whole. only_removed _ _ _ _ _ _ _ c.next.ensures.path (inr (c.in_ok-remove.ensures.traced whole))

pub returns-then-pop-clause-only : goal.returns-then-pop-clause-only
returns-then-pop-clause-only g t c = λ whole. only_then _ _ _ _ _ _ _ (only_removed _ _ _ _ _ _ _ c.next.ensures.path (inr (c.in_ok-remove.ensures.traced whole)))
    (subst (λ (j : List ℕ). RemovesOwn j (g.F.Files.trace c.remove.new.self) (g.F.Files.trace c.remove_row.new.self.files) (g.F.Files.bytes_at c.remove.new.self) (g.F.Files.bytes_at c.remove_row.new.self.files)) c.pop.ensures.journal (c.remove_row.ensures.only whole))

pub returns-in_err-remove-clause-stays : goal.returns-in_err-remove-clause-stays
returns-in_err-remove-clause-stays g t c = λ tells whole.
    let s = c.args.self.now in
    shorten_err (spot_in s) s.notes.entries (g.F.Files.trace s.files) (g.F.Files.trace c.remove.new.self) (g.F.Files.bytes_at s.files) (g.F.Files.bytes_at c.remove.new.self) c.next.ensures.low
    (subst (λ (q : List ℕ). MakesOrNot (removes q) (g.F.Files.trace s.files) (g.F.Files.trace c.remove.new.self) (g.F.Files.bytes_at s.files) (g.F.Files.bytes_at c.remove.new.self)) {y = file_at s.notes.journal (length s.notes.entries)} c.next.ensures.path (c.in_err-remove.ensures.refused whole))

pub returns-then-pop-clause-stays : goal.returns-then-pop-clause-stays
returns-then-pop-clause-stays g t c = λ tells whole.
    let s = c.args.self.now in
    let trace = g.F.Files.trace in
    let bytes = g.F.Files.bytes_at in
    let fs = c.pop.new.self.entries in
    let gs = c.remove_row.new.self.notes.entries in
    let some : (last : Edit) × (s.notes.entries ≡ fs ++ last ∷ []) = elim c.pop.ensures.popped [
      | inl some ↦ some.1
      | inr none ↦ let y : true ≡ false = sym c.if-pop.true ∙ none.0 in absurd (false≢true (sym y))
    ] in
    let rest = subst (λ (j : List ℕ). ShortensRow (record { folder = string_bytes s.folder; journal = j }) fs gs (trace c.remove.new.self) (trace c.remove_row.new.self.files) (bytes c.remove.new.self) (bytes c.remove_row.new.self.files)) c.pop.ensures.journal (c.remove_row.ensures.stays tells whole) in
    shorten_more (spot_in s) s.notes.entries fs gs some.0 (trace s.files) (trace c.remove.new.self) (trace c.remove_row.new.self.files) (bytes s.files) (bytes c.remove.new.self) (bytes c.remove_row.new.self.files) c.next.ensures.low some.1
    (subst (λ (q : List ℕ). Makes (removes q ∷ []) (trace s.files) (trace c.remove.new.self) (bytes s.files) (bytes c.remove.new.self)) {y = file_at s.notes.journal (length s.notes.entries)} c.next.ensures.path (c.in_ok-remove.ensures.traced whole)) rest

pub returns-else-pop-clause-stays : goal.returns-else-pop-clause-stays
returns-else-pop-clause-stays g t c = λ tells whole.
    let s = c.args.self.now in
    let none : s.notes.entries ≡ c.pop.new.self.entries = elim c.pop.ensures.popped [
      | inl some ↦ let y : true ≡ false = sym some.0 ∙ c.if-pop.false in cc
      | inr none ↦ none.1 ∙ sym none.2
    ] in
    shorten_last (spot_in s) s.notes.entries c.pop.new.self.entries (g.F.Files.trace s.files) (g.F.Files.trace c.remove.new.self) (g.F.Files.bytes_at s.files) (g.F.Files.bytes_at c.remove.new.self) c.next.ensures.low none
    (subst (λ (q : List ℕ). Makes (removes q ∷ []) (g.F.Files.trace s.files) (g.F.Files.trace c.remove.new.self) (g.F.Files.bytes_at s.files) (g.F.Files.bytes_at c.remove.new.self)) {y = file_at s.notes.journal (length s.notes.entries)} c.next.ensures.path (c.in_ok-remove.ensures.traced whole))

pub returns-then-pop-clause-row : goal.returns-then-pop-clause-row
returns-then-pop-clause-row g t c =
    let s = c.args.self.now in
    let fs = c.pop.new.self.entries in
    let some : (last : Edit) × (s.notes.entries ≡ fs ++ last ∷ []) = elim c.pop.ensures.popped [
      | inl some ↦ some.1
      | inr none ↦ let y : true ≡ false = sym c.if-pop.true ∙ none.0 in absurd (false≢true (sym y))
    ] in
    row_then g.F.Files s.notes c.pop.new.self c.remove_row.result s.files c.remove.new.self c.remove_row.new.self.files c.pop.ensures.journal (omega (arith, length-append fs (some.0 ∷ []), ap length some.1))
    (record { unseen = c.in_ok-remove.ensures.unseen_none; refused = c.in_ok-remove.ensures.refused_path }) c.remove_row.ensures.row
