-- Notices, one after another.
use Rattle.std.proofs.Common.{◌≡◌, ◌∙◌, ◌+◌, ◌<◌, ◌∷◌, ℕ, List, Bool, true, false, ap, drop, get_or, length, map, refl, subst, sym}
use Rattle.std.proofs.lemmas.List.{drop_more}
use Rattle.hack_base.specs.Notes.{Note, note_of}
use Rattle.hack_base.specs.Streams.{Stream, WritesAll, WritesText}
use Rattle.hack_base.specs.declared.notice.Notice.{Notice}
use Rattle.hack_base.specs.declared.notice.NoticeKind.{NoticeKind}
use Rattle.hack_base.specs.declared.notice.NoticeKind.TheVariants.{Info, Warn, QuietWarn}
use Rattle.hack_term.specs.Lines.{after_notice, notice_line}
use Rattle.hack_term.specs.declared.term.Coloring.{Coloring}
use Rattle.hack_term.specs.declared.term.Term.{Term}
use Rattle.hack_drive.specs.Shown.{note_lines}
use Rattle.hack_drive.specs.Warnings.{after_notes, have_warning}

-- one notice more
told_one : (term : Term) (note : Note) (notes : List Note) → after_notes (after_notice term note.kind) notes ≡ after_notes term (note ∷ notes)
told_one term note notes = go note.kind (have_warning notes) refl
  where
    go : (kind : NoticeKind) (more : Bool) → have_warning notes ≡ more → after_notes (after_notice term kind) notes ≡ after_notes term (record { kind = kind; text = note.text } ∷ notes)
    go Info more e = refl
    go QuietWarn more e = refl
    go Warn true e = rw e refl
    go Warn false e = rw e refl

-- a notice leaves the colouring
pub colored_same : (term : Term) (kind : NoticeKind) → (after_notice term kind).coloring ≡ term.coloring
colored_same term Info = refl
colored_same term Warn = refl
colored_same term QuietWarn = refl

-- what is noted after the notice at a place
pub noted_more : (now next first : Term) (notices : List Notice) (k : ℕ) (d one : Notice) → k < length notices → one ≡ get_or notices k d → next ≡ after_notice now one.kind
    → after_notes now (map note_of (drop k notices)) ≡ first → after_notes next (map note_of (drop (k + 1) notices)) ≡ first
noted_more now next first notices k d one lt is noted before =
    ap (λ t. after_notes t (map note_of (drop (k + 1) notices))) noted ∙ told_one now (note_of one) (map note_of (drop (k + 1) notices))
    ∙ ap (λ n. after_notes now (map note_of (n ∷ drop (k + 1) notices))) is ∙ sym (ap (λ l. after_notes now (map note_of l)) (drop_more notices k d lt)) ∙ before

-- what is written from the notice at a place on
pub shown_more : (coloring : Coloring) (notices : List Notice) (k : ℕ) (d one : Notice) (old mid end : Stream) → k < length notices → one ≡ get_or notices k d
    → WritesText (notice_line coloring one.kind (note_of one).text) old mid → WritesAll (note_lines coloring (map note_of (drop (k + 1) notices))) mid end
    → WritesAll (note_lines coloring (map note_of (drop k notices))) old end
shown_more coloring notices k d one old mid end lt is wrote more =
    subst (λ l. WritesAll (note_lines coloring (map note_of l)) old end) (sym (drop_more notices k d lt))
    (subst (λ n. WritesAll (note_lines coloring (map note_of (n ∷ drop (k + 1) notices))) old end) is (mid, wrote, more))
