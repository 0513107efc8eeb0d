-- The warnings that notices note.
use Rattle.std.specs.Prelude.{◌≡◌, ◌||◌, Bool, true, false, List}
use Rattle.std.specs.List.{list_any}
use Rattle.hack_base.specs.Notes.{Note}
use Rattle.hack_base.specs.declared.notice.NoticeKind.{NoticeKind}
use Rattle.hack_base.specs.declared.notice.NoticeKind.TheVariants.{Warn}
use Rattle.hack_term.specs.declared.term.Term.{Term}
use Rattle.hack_base.specs.declared.writes.Sink.{Ghosts as Taking}
use Rattle.hack_session.specs.declared.starter.Starter.{Starter}
use Rattle.hack_base.specs.Streams.{WritesAll, stream_of}
use Rattle.hack_drive.specs.Shown.{note_lines}

-- notices of a kind count as warnings
abbrev pub is_counted : NoticeKind → Bool
is_counted Warn = true
is_counted kind = false

-- some of the notes counts as a warning
abbrev pub have_warning : List Note → Bool
have_warning notes = list_any (λ note. is_counted note.kind) notes

-- a terminal after these notices: a warning is noted where one was before or some of them counts
-- as one, and all else stays
abbrev pub after_notes : Term → List Note → Term
after_notes term notes = record term { warn = have_warning notes || term.warn }

-- a warning is noted just where one was before, or some of the notes counts as one
abbrev pub Warned : List Note → Bool → Bool → Type 0
Warned notes warned warn = warn ≡ (have_warning notes || warned)

-- a starter printed these notes: its terminal has noted them, just their lines were written to its errors'
-- stream, and all else is as it was
abbrev pub TellsNotes : {C O E : Type 0} → Taking E → List Note → Starter C O E → Starter C O E → Type 0
TellsNotes e notes a b =
    (a.caller.ghost_name ≡ b.caller.ghost_name)
    × (a.term.ghost_name ≡ b.term.ghost_name)
    × (a.fault.ghost_name ≡ b.fault.ghost_name)
    × (b.caller.now ≡ a.caller.now)
    × (b.refused ≡ a.refused)
    × (b.fault.now ≡ a.fault.now)
    × (b.term.now ≡ after_notes a.term.now notes)
    × (a.out.ghost_name ≡ b.out.ghost_name)
    × (a.err.ghost_name ≡ b.err.ghost_name)
    × (b.out.now ≡ a.out.now)
    × (b.keep_going ≡ a.keep_going)
    × (b.log_group ≡ a.log_group)
    × WritesAll (note_lines a.term.now.coloring notes) (stream_of e a.err.now) (stream_of e b.err.now)
