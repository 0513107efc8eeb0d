use Rattle.std.proofs.Common.{◌≡◌, ◌++◌, map, slice_get}
use Rattle.std.specs.List.{flat_map, range_with_len}
use Rattle.hack_load.specs.ContextView.{context_view}
use Rattle.hack_load.specs.GivenFeatures.{left_out_for}
use Rattle.hack_metadata.specs.RecordViews.{place_at}
use Rattle.hack_base.specs.Notes.{note_of}
use Rattle.hack_planner.proofs.plan_notes.add_slots.Given as goal

abbrev pub invariant-loop-slot : goal.invariant-loop-slot
invariant-loop-slot l = map note_of l.notices.items ≡ map note_of l.fn.notices.items
    ++ flat_map (λ slot. flat_map (λ p. left_out_for (context_view l.cx) (slice_get (map place_at l.ids) p)) l.places) (range_with_len 0 l.slot)
