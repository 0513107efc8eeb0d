use Rattle.std.proofs.Common.{◌≡◌, map, take, not}
use Rattle.std.specs.Prelude.{filter}
use Rattle.hack_base.specs.Names.{names_of}
use Rattle.hack_base.specs.Notes.{note_of, warning_note}
use Rattle.hack_load.specs.ContextView.{context_view}
use Rattle.hack_planner.specs.Calls.{member_may_have}
use Rattle.hack_planner.specs.Texts.{workspace_text}
use Rattle.hack_planner.proofs.tables.unheard_notes.Given as goal

-- the notices are those on the names so far
abbrev pub invariant-loop-name : goal.invariant-loop-name
invariant-loop-name l = map note_of l.notices.items ≡ map (λ x. warning_note (workspace_text x)) (filter (λ x. not (member_may_have (context_view l.cx) x)) (take l.name-index (names_of l.names)))
