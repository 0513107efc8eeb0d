use Rattle.std.proofs.Common.{◌≡◌, map, take, string_bytes}
use Rattle.std.specs.List.{filter_map}
use Rattle.hack_load.specs.ContextView.{context_view}
use Rattle.hack_metadata.specs.RecordViews.{place_at}
use Rattle.hack_planner.specs.Looks.{look_at}
use Rattle.hack_planner.proofs.looks.looks_at.Given as goal

-- the texts on the packages so far
abbrev pub invariant-loop-id : goal.invariant-loop-id
invariant-loop-id l = map string_bytes l.texts.items ≡ filter_map (look_at (context_view l.cx)) (map place_at (take l.id-index l.ids))
