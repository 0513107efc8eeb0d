-- The lines of notices.
use Rattle.std.specs.Prelude.{ℕ, List, map}
use Rattle.hack_base.specs.Notes.{Note}
use Rattle.hack_term.specs.Lines.{notice_line}
use Rattle.hack_term.specs.declared.term.Coloring.{Coloring}

-- the lines of notices
abbrev pub note_lines : Coloring → List Note → List (List ℕ)
note_lines coloring notes = map (λ note. notice_line coloring note.kind note.text) notes
