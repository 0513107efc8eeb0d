use Rattle.std.proofs.Common.{◌≡◌, ◌++◌, map, take}
use Rattle.hack_base.specs.Notes.{note_of}
use Rattle.hack_load.specs.ContextView.{context_view}
use Rattle.hack_session.specs.Suspects.{explained_view}
use Rattle.hack_report.specs.Explained.{notes_of_strength}
use Rattle.hack_report.proofs.explain.add_all.Given as goal

-- the notices on the parts so far were added
abbrev pub invariant-loop-one : goal.invariant-loop-one
invariant-loop-one l = map note_of l.notices.items ≡ map note_of l.fn.notices.items ++ notes_of_strength (context_view l.cx) l.session l.strengths l.strength (map explained_view (take l.one-index l.all))
