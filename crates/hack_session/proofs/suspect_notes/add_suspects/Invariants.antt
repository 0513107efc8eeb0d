use Rattle.std.proofs.Common.{◌≡◌, ◌++◌, map, take}
use Rattle.hack_base.specs.Notes.{note_of, info_note}
use Rattle.hack_features.specs.Feature.{groups_of}
use Rattle.hack_samples.specs.Sets.{rows_of}
use Rattle.hack_session.specs.SuspectNotes.{suspect_text}
use Rattle.hack_session.proofs.suspect_notes.add_suspects.Given as goal

abbrev pub invariant-loop-pattern : goal.invariant-loop-pattern
invariant-loop-pattern l = map note_of l.notices.items ≡ map note_of l.fn.notices.items ++ map (λ pattern. info_note (suspect_text (groups_of l.candidates) pattern)) (rows_of (take l.pattern-index l.found))
