use Rattle.std.proofs.Common.{◌≡◌, map, take}
use Rattle.hack_base.specs.Notes.{note_of}
use Rattle.hack_load.specs.ContextView.{context_view}
use Rattle.hack_hunt.specs.Searched.{left_out_notes}
use Rattle.hack_hunt.specs.SpotView.{spot_view}
use Rattle.hack_hunt.proofs.plan.left_out.Given as goal

-- the notices of the spots so far
abbrev pub invariant-loop-spot : goal.invariant-loop-spot
invariant-loop-spot l = map note_of l.notices.items ≡ left_out_notes (context_view l.cx) (map spot_view (take l.spot-index l.spot-items))
