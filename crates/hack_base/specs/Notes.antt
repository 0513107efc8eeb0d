-- Notices as contracts see them.
use Rattle.std.specs.Prelude.{◌≡◌, ℕ, List, [], ◌∷◌, ◌++◌, Bool, Vec, map, string_bytes, if◌then◌else◌}
use Rattle.hack_base.specs.declared.notice.Notice.{Notice}
use Rattle.hack_base.specs.declared.notice.NoticeKind.{NoticeKind}
use Rattle.hack_base.specs.declared.notice.NoticeKind.TheVariants.{Info, Warn}

-- a kind and a line of text
pub record Note : Type 0 where
  pub kind : NoticeKind
  pub text : List ℕ

-- a notice that warns
abbrev pub warning_note : List ℕ → Note
warning_note text = record { kind = Warn; text = text }

-- a notice that informs
abbrev pub info_note : List ℕ → Note
info_note text = record { kind = Info; text = text }

-- the kind and the text of a notice
abbrev pub note_of : Notice → Note
note_of notice = record { kind = notice.kind; text = string_bytes notice.text }

-- a notice where a test is true
abbrev pub note_if : Bool → NoticeKind → List ℕ → List Note
note_if b kind text = if b then record { kind = kind; text = text } ∷ [] else []

-- these notices were appended to the others
abbrev pub AddsNotes : {Y Z : Type 0} → Vec Notice Y → Vec Notice Z → List Note → Type 0
AddsNotes old new notes = map note_of new.items ≡ map note_of old.items ++ notes
