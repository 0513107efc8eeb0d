use Rattle.std.proofs.Common.{◌≡◌, ◌∙◌, ◌++◌, ◌∷◌, [], inr, ℕ, List, ap, sym, subst, length, inl, string_bytes}
use Rattle.std.proofs.lemmas.Str.{IsUtf8-string_bytes}
use Rattle.hack_journal.specs.Journal.{Edit, edit_of}
use Rattle.hack_journal.specs.Rows.{Noted, file_at}
use Rattle.hack_journal.specs.FileCalls.{spot_in}
use Rattle.hack_journal.specs.SafeFiles.{Stays}
use Rattle.hack_files.specs.TraceLaws.{makes_none}
use Rattle.hack_journal.specs.SafeLaws.{stays_none}
use Rattle.hack_journal.proofs.SafeLemmas.{append_hidden, append_made, append_noted, append_others, hidden_none, ready_of}
use Rattle.hack_journal.proofs.FinishLemmas.{all_same}
use Rattle.hack_journal.proofs.RefusingLemmas.{grow_more}
use Rattle.std.proofs.lemmas.Result.{err_from_is_err_and}
use Rattle.hack_journal.specs.Keeping.{CannotAppend, CannotLookAhead, IsWayless}
use Rattle.hack_files.proofs.FailedLemmas.{none_then, write_then}
use Rattle.hack_journal.proofs.KeepingLemmas.{cause_wider, of_cause}
use Rattle.hack_journal.proofs.journaled.Journaled.append.Goals as goal

pub returns-in_err-text-clause-why : goal.returns-in_err-text-clause-why
returns-in_err-text-clause-why g c =
    let s = c.args.self.now in
    let p = err_from_is_err_and c.from_residual.result c.from_residual.ensures.1 in
    rw (p.1, p.2) (cause_wider (IsWayless (string_bytes s.folder) (edit_of c.args.entry).path) (CannotAppend g.F.Files (string_bytes s.folder) s.notes (edit_of c.args.entry).path s.files s.files) _ (λ h. inl h) (rw c.as_str.ensures.value at c.in_err-text.ensures.why))

pub returns-in_err-after-clause-why : goal.returns-in_err-after-clause-why
returns-in_err-after-clause-why g c =
    let s = c.args.self.now in
    let new = c.look_ahead.new.self.files in
    let p = err_from_is_err_and c.from_residual-in_err-after.result c.from_residual-in_err-after.ensures.1 in
    rw (p.1, p.2) (cause_wider (CannotLookAhead g.F.Files s.notes s.files new) (CannotAppend g.F.Files (string_bytes s.folder) s.notes (edit_of c.args.entry).path s.files new) _ (λ h. inr (inl h)) c.in_err-after.ensures.why)

pub returns-in_err-write-clause-why : goal.returns-in_err-write-clause-why
returns-in_err-write-clause-why g c =
    let s = c.args.self.now in
    let mid = c.look_ahead.new.self.files in
    let new = c.write.new.self in
    let notes : c.look_ahead.new.self.notes ≡ s.notes = ap (λ s. s.notes) c.in_ok-after.ensures.rest in
    let path = c.next.ensures.path ∙ ap (λ (n : Noted). file_at n.journal (length n.entries)) notes in
    let refused = subst (λ (q : List ℕ). g.F.Files.refuses mid new (q ∷ [])) path c.in_err-write.ensures.refused_path in
    let p = err_from_is_err_and c.from_residual-in_err-write.result c.from_residual-in_err-write.ensures.1 in
    rw p.1 (of_cause (CannotAppend g.F.Files (string_bytes s.folder) s.notes (edit_of c.args.entry).path s.files new) p.0
    (inr (inr (write_then g.F.Files (file_at s.notes.journal (length s.notes.entries)) s.files mid new c.in_ok-after.ensures.why (record { unseen = c.in_err-write.ensures.unseen_none; refused = refused })))))

pub returns-in-Ok-clause-why : goal.returns-in-Ok-clause-why
returns-in-Ok-clause-why g c =
    none_then g.F.Files c.args.self.now.files c.look_ahead.new.self.files c.write.new.self c.in_ok-after.ensures.why (record { unseen = c.in_ok-write.ensures.unseen_none; refused = c.in_ok-write.ensures.refused_path })

pub returns-in_err-text-clause-stays : goal.returns-in_err-text-clause-stays
returns-in_err-text-clause-stays g c = λ notable tells whole. stays_none _ _ _ _ _ _ (makes_none _ _)

pub returns-in_err-after-clause-stays : goal.returns-in_err-after-clause-stays
returns-in_err-after-clause-stays g c = λ notable tells whole.
    subst (λ (n : Noted). Stays (spot_in c.args.self.now) c.args.self.now.notes.entries n.entries (g.F.Files.trace c.args.self.now.files) (g.F.Files.trace c.look_ahead.new.self.files) (g.F.Files.bytes_at c.args.self.now.files) (g.F.Files.bytes_at c.look_ahead.new.self.files))
    (sym (ap (λ s. s.notes) c.in_err-after.ensures.rest)) (stays_none _ _ _ _ _ _ (c.in_err-after.ensures.untraced whole))

pub returns-in_err-write-clause-others : goal.returns-in_err-write-clause-others
returns-in_err-write-clause-others g c = λ tells.
    let notes : c.look_ahead.new.self.notes ≡ c.args.self.now.notes = ap (λ s. s.notes) c.in_ok-after.ensures.rest in
    let path = c.next.ensures.path ∙ ap (λ (n : Noted). file_at n.journal (length n.entries)) notes in
    append_others _ _ _ _ _ _ path (c.in_ok-after.ensures.same tells) (c.in_err-write.ensures.others tells)

pub returns-in_err-write-clause-hidden : goal.returns-in_err-write-clause-hidden
returns-in_err-write-clause-hidden g c = λ whole.
    let notes : c.look_ahead.new.self.notes ≡ c.args.self.now.notes = ap (λ s. s.notes) c.in_ok-after.ensures.rest in
    let path = c.next.ensures.path ∙ ap (λ (n : Noted). file_at n.journal (length n.entries)) notes in
    append_hidden _ _ _ _ _ _ _ _ _ _ path (c.in_ok-after.ensures.untraced whole) (c.in_err-write.ensures.refused whole)

pub returns-in_err-write-clause-stays : goal.returns-in_err-write-clause-stays
returns-in_err-write-clause-stays g c = λ notable tells whole.
    let s = c.args.self.now in
    let notes : c.look_ahead.new.self.notes ≡ s.notes = ap (λ s. s.notes) c.in_ok-after.ensures.rest in
    let path = c.next.ensures.path ∙ ap (λ (n : Noted). file_at n.journal (length n.entries)) notes in
    let text : c.deref.result.now ≡ c.in_ok-text.text.items = c.deref.ensures.value in
    let ready = ready_of (spot_in s) s.notes.entries (g.F.Files.bytes_at s.files) (g.F.Files.bytes_at c.look_ahead.new.self.files) c.in_ok-text.text.items (edit_of c.args.entry) (all_same _ _ (c.in_ok-after.ensures.same tells)) (notable tells) (IsUtf8-string_bytes c.args.entry.path) (rw c.as_str.ensures.value at c.in_ok-text.ensures.note) (c.in_ok-after.ensures.absent tells) c.in_ok-after.ensures.low in
    subst (λ (n : Noted). Stays (spot_in s) s.notes.entries n.entries (g.F.Files.trace s.files) (g.F.Files.trace c.write.new.self) (g.F.Files.bytes_at s.files) (g.F.Files.bytes_at c.write.new.self)) (sym notes)
    (append_made (spot_in s) s.notes.entries (edit_of c.args.entry) _ c.in_ok-text.text.items _ _ _ _ _ _ path (c.in_ok-after.ensures.untraced whole) ready (rw text at (c.in_err-write.ensures.refused whole)))

pub returns-in-Ok-clause-others : goal.returns-in-Ok-clause-others
returns-in-Ok-clause-others g c = λ tells.
    let notes : c.look_ahead.new.self.notes ≡ c.args.self.now.notes = ap (λ s. s.notes) c.in_ok-after.ensures.rest in
    let path = c.next.ensures.path ∙ ap (λ (n : Noted). file_at n.journal (length n.entries)) notes in
    append_others _ _ _ _ _ _ path (c.in_ok-after.ensures.same tells) (c.in_ok-write.ensures.others tells)

pub returns-in-Ok-clause-hidden : goal.returns-in-Ok-clause-hidden
returns-in-Ok-clause-hidden g c = λ whole.
    let notes : c.look_ahead.new.self.notes ≡ c.args.self.now.notes = ap (λ s. s.notes) c.in_ok-after.ensures.rest in
    let path = c.next.ensures.path ∙ ap (λ (n : Noted). file_at n.journal (length n.entries)) notes in
    append_hidden _ _ _ _ _ _ _ _ _ _ path (c.in_ok-after.ensures.untraced whole) (inr (c.in_ok-write.ensures.traced whole))

pub returns-clause-others : goal.returns-clause-others
returns-clause-others g c = λ tells.
    let notes : c.look_ahead.new.self.notes ≡ c.args.self.now.notes = ap (λ s. s.notes) c.in_ok-after.ensures.rest in
    let path = c.next.ensures.path ∙ ap (λ (n : Noted). file_at n.journal (length n.entries)) notes in
    append_others _ _ _ _ _ _ path (c.in_ok-after.ensures.same tells) (c.in_ok-write.ensures.others tells)

pub returns-clause-hidden : goal.returns-clause-hidden
returns-clause-hidden g c = λ whole.
    let notes : c.look_ahead.new.self.notes ≡ c.args.self.now.notes = ap (λ s. s.notes) c.in_ok-after.ensures.rest in
    let path = c.next.ensures.path ∙ ap (λ (n : Noted). file_at n.journal (length n.entries)) notes in
    append_hidden _ _ _ _ _ _ _ _ _ _ path (c.in_ok-after.ensures.untraced whole) (inr (c.in_ok-write.ensures.traced whole))

pub returns-in-Ok-clause-stays : goal.returns-in-Ok-clause-stays
returns-in-Ok-clause-stays g c = λ notable tells whole.
    let s = c.args.self.now in
    let notes : c.look_ahead.new.self.notes ≡ s.notes = ap (λ s. s.notes) c.in_ok-after.ensures.rest in
    let path = c.next.ensures.path ∙ ap (λ (n : Noted). file_at n.journal (length n.entries)) notes in
    let text : c.deref.result.now ≡ c.in_ok-text.text.items = c.deref.ensures.value in
    let ready = ready_of (spot_in s) s.notes.entries (g.F.Files.bytes_at s.files) (g.F.Files.bytes_at c.look_ahead.new.self.files) c.in_ok-text.text.items (edit_of c.args.entry) (all_same _ _ (c.in_ok-after.ensures.same tells)) (notable tells) (IsUtf8-string_bytes c.args.entry.path) (rw c.as_str.ensures.value at c.in_ok-text.ensures.note) (c.in_ok-after.ensures.absent tells) c.in_ok-after.ensures.low in
    let added : c.push.new.self.entries ≡ s.notes.entries ++ edit_of c.args.entry ∷ [] = c.in-Ok.ensures.added ∙ ap (λ (n : Noted). n.entries ++ edit_of c.args.entry ∷ []) notes in
    append_noted (spot_in s) s.notes.entries c.push.new.self.entries (edit_of c.args.entry) _ c.in_ok-text.text.items _ _ _ _ _ _ added path (c.in_ok-after.ensures.untraced whole) ready (rw text at (c.in_ok-write.ensures.traced whole))

pub returns-clause-stays : goal.returns-clause-stays
returns-clause-stays g c = λ notable tells whole.
    let s = c.args.self.now in
    let notes : c.look_ahead.new.self.notes ≡ s.notes = ap (λ s. s.notes) c.in_ok-after.ensures.rest in
    let path = c.next.ensures.path ∙ ap (λ (n : Noted). file_at n.journal (length n.entries)) notes in
    let text : c.deref.result.now ≡ c.in_ok-text.text.items = c.deref.ensures.value in
    let ready = ready_of (spot_in s) s.notes.entries (g.F.Files.bytes_at s.files) (g.F.Files.bytes_at c.look_ahead.new.self.files) c.in_ok-text.text.items (edit_of c.args.entry) (all_same _ _ (c.in_ok-after.ensures.same tells)) (notable tells) (IsUtf8-string_bytes c.args.entry.path) (rw c.as_str.ensures.value at c.in_ok-text.ensures.note) (c.in_ok-after.ensures.absent tells) c.in_ok-after.ensures.low in
    let kept : c.push.new.self.entries ≡ s.notes.entries = c.in-Err.ensures.kept ∙ ap (λ (n : Noted). n.entries) notes in
    subst (λ (es : List Edit). Stays (spot_in s) s.notes.entries es (g.F.Files.trace s.files) (g.F.Files.trace c.write.new.self) (g.F.Files.bytes_at s.files) (g.F.Files.bytes_at c.write.new.self)) (sym kept)
    (append_made (spot_in s) s.notes.entries (edit_of c.args.entry) _ c.in_ok-text.text.items _ _ _ _ _ _ path (c.in_ok-after.ensures.untraced whole) ready (inr (rw text at (c.in_ok-write.ensures.traced whole))))

pub returns-in_err-write-clause-handed : goal.returns-in_err-write-clause-handed
returns-in_err-write-clause-handed g c = g.F.Files.stays_more _ _ _ c.in_ok-after.ensures.handed c.in_err-write.ensures.stays

pub returns-in-Ok-clause-handed : goal.returns-in-Ok-clause-handed
returns-in-Ok-clause-handed g c = g.F.Files.stays_more _ _ _ c.in_ok-after.ensures.handed c.in_ok-write.ensures.stays

pub returns-clause-handed : goal.returns-clause-handed
returns-clause-handed g c = g.F.Files.stays_more _ _ _ c.in_ok-after.ensures.handed c.in_ok-write.ensures.stays

pub returns-in_err-write-clause-below : goal.returns-in_err-write-clause-below
returns-in_err-write-clause-below g c = grow_more _ _ _ c.in_ok-after.ensures.below (_, c.in_err-write.ensures.counted)

pub returns-in-Ok-clause-below : goal.returns-in-Ok-clause-below
returns-in-Ok-clause-below g c = grow_more _ _ _ c.in_ok-after.ensures.below (_, c.in_ok-write.ensures.counted)

pub returns-clause-below : goal.returns-clause-below
returns-clause-below g c = grow_more _ _ _ c.in_ok-after.ensures.below (_, c.in_ok-write.ensures.counted)

pub returns-in_err-text-clause-hidden : goal.returns-in_err-text-clause-hidden
returns-in_err-text-clause-hidden g c = λ whole. hidden_none _ _ _ _ _ (makes_none _ _)

pub returns-in_err-text-clause-refused : goal.returns-in_err-text-clause-refused
returns-in_err-text-clause-refused g c = inl (g.F.Files.refuses_none c.args.self.now.files)

pub returns-in_err-after-clause-refused : goal.returns-in_err-after-clause-refused
returns-in_err-after-clause-refused g c = inl c.in_err-after.ensures.refused_none

pub returns-in_err-write-clause-refused : goal.returns-in_err-write-clause-refused
returns-in_err-write-clause-refused g c =
    let notes : c.look_ahead.new.self.notes ≡ c.args.self.now.notes = ap (λ s. s.notes) c.in_ok-after.ensures.rest in
    let path = c.next.ensures.path ∙ ap (λ (n : Noted). file_at n.journal (length n.entries)) notes in
    let refused = subst (λ (q : List ℕ). g.F.Files.refuses c.look_ahead.new.self.files c.write.new.self (q ∷ [])) path c.in_err-write.ensures.refused_path in
    inr (g.F.Files.refuses_more _ _ _ [] _ c.in_ok-after.ensures.refused_none refused)

pub returns-in-Ok-clause-refused : goal.returns-in-Ok-clause-refused
returns-in-Ok-clause-refused g c = inl (g.F.Files.refuses_more _ _ _ [] [] c.in_ok-after.ensures.refused_none c.in_ok-write.ensures.refused_path)

pub returns-clause-refused : goal.returns-clause-refused
returns-clause-refused g c = inl (g.F.Files.refuses_more _ _ _ [] [] c.in_ok-after.ensures.refused_none c.in_ok-write.ensures.refused_path)
