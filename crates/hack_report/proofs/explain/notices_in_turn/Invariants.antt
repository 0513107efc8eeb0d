use Rattle.std.proofs.Common.{map, take}
use Rattle.hack_base.specs.Notes.{note_of}
use Rattle.hack_load.specs.ContextView.{context_view}
use Rattle.hack_report.specs.Explained.{AreInTurn}
use Rattle.hack_report.proofs.explain.notices_in_turn.Given as goal

-- the notices on the strengths so far
abbrev pub invariant-loop-strength : goal.invariant-loop-strength
invariant-loop-strength l = AreInTurn (context_view l.cx) l.session l.strengths (take l.strength-index l.each) (map note_of l.notices.items)
