use Rattle.std.proofs.Common.{map, slice_get}
use Rattle.std.specs.List.{flat_map}
use Rattle.hack_load.specs.ContextView.{context_view}
use Rattle.hack_load.specs.GivenFeatures.{left_out_for}
use Rattle.hack_metadata.specs.RecordViews.{place_at}
use Rattle.hack_base.specs.Notes.{note_of}
use Rattle.hack_planner.proofs.NoteLemmas.{slots-more}
use Rattle.hack_planner.proofs.plan_notes.add_slots.Goals as goal

pub loop-slot-preserved : goal.loop-slot-preserved
loop-slot-preserved c =
    slots-more (λ slot. flat_map (λ p. left_out_for (context_view c.args.cx.now) (slice_get (map place_at c.args.ids.now) p)) c.args.places.now)
    (map note_of c.args.notices.now.items) (map note_of c.loop-slot.notices.items) (map note_of c.add_slot.new.notices.items) c.loop-slot.slot
    c.in_ok-add_slot.ensures c.loop-slot.invariant
