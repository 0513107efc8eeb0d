-- The lanes as plain data.
use Rattle.std.specs.Prelude.{map, false, string_bytes}
use Rattle.hack_process.specs.Calls.{asked_call}
use Rattle.hack_starts.specs.Events.{Layout}
use Rattle.hack_lanes.specs.declared.job.Job.{Job}
use Rattle.hack_lanes.specs.declared.child.Child.{Child}
use Rattle.hack_lanes.specs.declared.lanes.Lanes.{Lanes}
use Rattle.hack_lanes.specs.declared.window.Window.{Window}
use Rattle.hack_lanes.specs.Lanes.{Offer, Pending, State, Turn, Scene}

abbrev pub offer_of : Job → Offer
offer_of job = record { place = job.place; asked = asked_call (string_bytes job.program) job.words.items false }

abbrev pub pending_of : Child → Pending
pending_of child = record { place = child.place; lane = child.lane; asked = asked_call (string_bytes child.program) child.words.items false; over = child.over }

abbrev pub layout_of : Window → Layout
layout_of window = record { count = window.width; folder = string_bytes window.folder }

abbrev pub turn_of : Window → Turn
turn_of window = record { place = window.turn; offers = map offer_of window.offers.items; layout = layout_of window }

abbrev pub state_of : Window → State
state_of window = record { last = window.last; pending = map pending_of window.children.items }

abbrev pub scene_of : {S : Type 0} → Window → S → Scene S
scene_of window starts = record { turn = turn_of window; state = state_of window; starts = starts }

abbrev pub scene_in : {S : Type 0} → Lanes S → Scene S
scene_in lanes = scene_of lanes.window.now lanes.starts.now
