use Rattle.std.proofs.Common.{◌≡◌, ◌∙◌, Some, ap, sym, subst, inl, inr, string_bytes}
use Rattle.hack_files.specs.TraceLaws.{makes_none}
use Rattle.hack_journal.specs.SafeLaws.{stays_none, stays_join}
use Rattle.hack_journal.specs.SafeFiles.{SomeEntryHasBytes, Stays}
use Rattle.hack_journal.specs.Internal.{IsNotable}
use Rattle.hack_journal.specs.Rows.{Noted}
use Rattle.hack_journal.specs.FileCalls.{spot_in}
use Rattle.hack_journal.proofs.FinishLemmas.{all_same}
use Rattle.hack_journal.proofs.RefusingLemmas.{grow_more}
use Rattle.hack_journal.proofs.SafeLemmas.{held_told, hidden_none, hidden_then, notable_of, told_ok}
use Rattle.hack_journal.specs.Journal.{edit_of}
use Rattle.std.proofs.lemmas.Result.{err_from_is_err_and, on_ok_weaker}
use Rattle.hack_journal.specs.Keeping.{CannotAppend}
use Rattle.hack_journal.proofs.KeepingLemmas.{append_then, cause_wider, fails_then, next_then}
use Rattle.hack_journal.proofs.journaled.Journaled.keep.Goals as goal

pub returns-in_err-entry-clause-why : goal.returns-in_err-entry-clause-why
returns-in_err-entry-clause-why g c =
    let p = err_from_is_err_and c.from_residual.result c.from_residual.ensures.1 in
    rw (p.1, p.2) (cause_wider _ _ _ (λ h. inl h) c.in_err-entry.ensures.why)

pub returns-clause-why : goal.returns-clause-why
returns-clause-why g c =
    let s = c.args.self.now in
    let mid = c.entry.new.self in
    let new = c.append.new.self.files in
    let folder : string_bytes mid.folder ≡ string_bytes s.folder = ap (λ s. string_bytes s.folder) c.in_ok-entry.ensures.rest in
    let notes : mid.notes ≡ s.notes = ap (λ s. s.notes) c.in_ok-entry.ensures.rest in
    let path = c.args.path.now in
    fails_then g.F.Files (CannotAppend g.F.Files (string_bytes s.folder) s.notes path mid.files new) _ c.append.result s.files mid.files new c.in_ok-entry.ensures.why
    (λ h. inr (append_then g.F.Files (string_bytes s.folder) s.notes path s.files mid.files new c.in_ok-entry.ensures.why c.in_ok-entry.ensures.same h))
    (rw (folder, notes, c.in_ok-entry.ensures.path) at c.append.ensures.why)

pub returns-in_err-entry-clause-stays : goal.returns-in_err-entry-clause-stays
returns-in_err-entry-clause-stays g c = λ out tells whole.
    subst (λ (n : Noted). Stays (spot_in c.args.self.now) c.args.self.now.notes.entries n.entries (g.F.Files.trace c.args.self.now.files) (g.F.Files.trace c.entry.new.self.files) (g.F.Files.bytes_at c.args.self.now.files) (g.F.Files.bytes_at c.entry.new.self.files))
    (sym (ap (λ s. s.notes) c.in_err-entry.ensures.rest)) (stays_none _ _ _ _ _ _ (c.in_err-entry.ensures.untraced whole))

pub returns-clause-told : goal.returns-clause-told
returns-clause-told g c = on_ok_weaker c.append.result (λ has tells. inl has) (told_ok c.append.result c.entry.new.self.notes.entries c.append.new.self.notes.entries (edit_of c.in_ok-entry.entry) _ _ c.append.ensures.added c.in_ok-entry.ensures.path c.in_ok-entry.ensures.wrote)

pub returns-then-tells-clause-stays : goal.returns-then-tells-clause-stays
returns-then-tells-clause-stays g c = λ out tells whole. stays_none _ _ _ _ _ _ (makes_none _ _)

pub returns-clause-stays : goal.returns-clause-stays
returns-clause-stays g c = λ out tells whole.
    let s = c.args.self.now in
    let mid = c.entry.new.self in
    let e = edit_of c.in_ok-entry.entry in
    let spot : spot_in mid ≡ spot_in s = ap (λ s. spot_in s) c.in_ok-entry.ensures.rest in
    let notes : mid.notes ≡ s.notes = ap (λ s. s.notes) c.in_ok-entry.ensures.rest in
    let notable = notable_of s.notes.journal s.notes.entries (g.F.Files.bytes_at s.files) (g.F.Files.bytes_at mid.files) e c.args.path.now c.in_ok-entry.ensures.path (all_same _ _ (c.in_ok-entry.ensures.same tells)) out c.in_ok-entry.ensures.known (c.in_ok-entry.ensures.held tells) in
    let noted = subst (λ (n : Noted). IsNotable n.journal n.entries (g.F.Files.bytes_at mid.files) e) (sym notes) notable in
    let look : Stays (spot_in s) s.notes.entries s.notes.entries (g.F.Files.trace s.files) (g.F.Files.trace mid.files) (g.F.Files.bytes_at s.files) (g.F.Files.bytes_at mid.files) = stays_none _ _ _ _ _ _ (c.in_ok-entry.ensures.untraced whole) in
    stays_join (spot_in s) (spot_in mid) s.notes.entries mid.notes.entries c.append.new.self.notes.entries (g.F.Files.trace s.files) (g.F.Files.trace mid.files) (g.F.Files.trace c.append.new.self.files) (g.F.Files.bytes_at s.files) (g.F.Files.bytes_at mid.files) (g.F.Files.bytes_at c.append.new.self.files)
    (sym spot) (subst (λ (n : Noted). Stays (spot_in s) s.notes.entries n.entries (g.F.Files.trace s.files) (g.F.Files.trace mid.files) (g.F.Files.bytes_at s.files) (g.F.Files.bytes_at mid.files)) (sym notes) look)
    (c.append.ensures.stays (λ t. noted) tells whole)

pub returns-clause-handed : goal.returns-clause-handed
returns-clause-handed g c = g.F.Files.stays_more _ _ _ c.in_ok-entry.ensures.handed c.append.ensures.handed

pub returns-clause-below : goal.returns-clause-below
returns-clause-below g c = grow_more _ _ _ c.in_ok-entry.ensures.below c.append.ensures.below

pub returns-then-tells-clause-hidden : goal.returns-then-tells-clause-hidden
returns-then-tells-clause-hidden g c = λ whole. hidden_none _ _ _ _ _ (makes_none _ _)

pub returns-clause-hidden : goal.returns-clause-hidden
returns-clause-hidden g c = λ whole.
    let hidden = rw (ap (λ s. s.notes.journal) c.in_ok-entry.ensures.rest) at (c.append.ensures.hidden whole) in
    hidden_then _ _ _ _ _ _ _ (c.in_ok-entry.ensures.untraced whole) hidden

pub returns-then-tells-clause-refused : goal.returns-then-tells-clause-refused
returns-then-tells-clause-refused g c = inl (g.F.Files.refuses_none c.args.self.now.files)

pub returns-in_err-entry-clause-refused : goal.returns-in_err-entry-clause-refused
returns-in_err-entry-clause-refused g c = inl c.in_err-entry.ensures.refused_none

pub returns-clause-refused : goal.returns-clause-refused
returns-clause-refused g c =
    let s = c.args.self.now in
    let mid = c.entry.new.self in
    let notes : mid.notes ≡ s.notes = ap (λ s. s.notes) c.in_ok-entry.ensures.rest in
    next_then g.F.Files s.notes s.files mid.files c.append.new.self.files c.in_ok-entry.ensures.refused_none (rw notes at c.append.ensures.refused)

pub returns-then-same-clause-stays : goal.returns-then-same-clause-stays
returns-then-same-clause-stays g c = λ out tells whole.
    subst (λ (n : Noted). Stays (spot_in c.args.self.now) c.args.self.now.notes.entries n.entries (g.F.Files.trace c.args.self.now.files) (g.F.Files.trace c.entry.new.self.files) (g.F.Files.bytes_at c.args.self.now.files) (g.F.Files.bytes_at c.entry.new.self.files))
    (sym (ap (λ s. s.notes) c.in_ok-entry.ensures.rest)) (stays_none _ _ _ _ _ _ (c.in_ok-entry.ensures.untraced whole))

pub returns-then-same-clause-told : goal.returns-then-same-clause-told
returns-then-same-clause-told g c = λ tells.
    let s = c.args.self.now in
    let mid = c.entry.new.self in
    let path = c.args.path.now in
    let notes : mid.notes ≡ s.notes = ap (λ s. s.notes) c.in_ok-entry.ensures.rest in
    let is : (edit_of c.in_ok-entry.entry).held ≡ Some c.args.bytes.now = sym c.as_deref.ensures.value ∙ c.same.ensures.0 c.if-same.true in
    elim (held_told s.notes.entries path (g.F.Files.bytes_at s.files path) (edit_of c.in_ok-entry.entry).held (Some c.args.bytes.now) (c.in_ok-entry.ensures.held tells) is) [
      | inl has ↦ inl (subst (λ (n : Noted). SomeEntryHasBytes n.entries path (Some c.args.bytes.now)) (sym notes) has)
      | inr now ↦ inr (c.in_ok-entry.ensures.same tells path ∙ now)
    ]
