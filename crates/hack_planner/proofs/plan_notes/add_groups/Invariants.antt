use Rattle.std.proofs.Common.{◌≡◌, ◌++◌, Some, map, take}
use Rattle.std.specs.List.{flat_map}
use Rattle.hack_load.specs.ContextView.{context_view}
use Rattle.hack_metadata.specs.RecordViews.{place_at}
use Rattle.hack_base.specs.Notes.{note_of}
use Rattle.hack_planner.specs.Calls.{version_notes}
use Rattle.hack_planner.proofs.plan_notes.add_groups.Given as goal

abbrev pub invariant-loop-group : goal.invariant-loop-group
invariant-loop-group l = map note_of l.notices.items ≡ map note_of l.fn.notices.items
    ++ flat_map (λ group. version_notes (context_view l.cx) (map place_at l.ids) l.input (Some group.version) group.packages.items) (take l.group-index l.groups)
