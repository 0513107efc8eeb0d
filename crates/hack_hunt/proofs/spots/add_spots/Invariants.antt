use Rattle.std.proofs.Common.{◌≡◌, ◌++◌, map, take}
use Rattle.hack_metadata.specs.RecordViews.{place_at}
use Rattle.hack_hunt.specs.Hunts.{placed}
use Rattle.hack_hunt.specs.SpotView.{spot_view}
use Rattle.hack_hunt.proofs.spots.add_spots.Given as goal

-- the spots of the packages so far
abbrev pub invariant-loop-member : goal.invariant-loop-member
invariant-loop-member l = map spot_view l.spots.items ≡ map spot_view l.fn.spots.items ++ placed l.slot 0 (map place_at (take l.member l.ids))
