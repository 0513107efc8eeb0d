use Rattle.std.proofs.Common.{◌≡◌, map, take}
use Rattle.std.specs.List.{flat_map}
use Rattle.hack_base.specs.Notes.{note_of}
use Rattle.hack_session.specs.Suspects.{explained_view}
use Rattle.hack_session.specs.SuspectNotes.{suspect_notes_on}
use Rattle.hack_session.proofs.suspect_notes.suspect_notes.Given as goal

abbrev pub invariant-loop-one : goal.invariant-loop-one
invariant-loop-one l = map note_of l.notices.items ≡ flat_map (suspect_notes_on l.plan l.piece) (map explained_view (take l.one-index l.explained))
