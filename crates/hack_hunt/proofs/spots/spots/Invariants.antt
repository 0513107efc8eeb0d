use Rattle.std.proofs.Common.{◌≡◌, map}
use Rattle.std.specs.List.{flat_map, range_with_len}
use Rattle.hack_metadata.specs.RecordViews.{place_at}
use Rattle.hack_hunt.specs.Hunts.{placed}
use Rattle.hack_hunt.specs.SpotView.{spot_view}
use Rattle.hack_hunt.proofs.spots.spots.Given as goal

-- the spots of the slots so far
abbrev pub invariant-loop-slot : goal.invariant-loop-slot
invariant-loop-slot l = map spot_view l.spots.items ≡ flat_map (λ slot. placed slot 0 (map place_at l.ids)) (range_with_len 0 l.slot)
