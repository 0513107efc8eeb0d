use Rattle.std.proofs.Common.{[], ap, map}
use Rattle.hack_metadata.specs.RecordViews.{place_at}
use Rattle.hack_planner.proofs.NoteLemmas.{slots-more}
use Rattle.hack_hunt.specs.Hunts.{placed}
use Rattle.hack_hunt.specs.SpotView.{spot_view}
use Rattle.hack_hunt.proofs.spots.spots.Goals as goal

pub loop-slot-init : goal.loop-slot-init
loop-slot-init c = ap (map spot_view) c.new-spots.ensures.items

pub loop-slot-preserved : goal.loop-slot-preserved
loop-slot-preserved c =
    slots-more (λ slot. placed slot 0 (map place_at c.args.ids.now)) [] (map spot_view c.loop-slot.spots.items) (map spot_view c.add_spots.new.spots.items) c.loop-slot.slot c.in_ok-add_spots.ensures c.loop-slot.invariant
