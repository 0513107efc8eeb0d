use Rattle.std.proofs.Common.{◌≡◌, map, take}
use Rattle.std.specs.List.{AllZip, flat_map}
use Rattle.hack_base.specs.Notes.{note_of}
use Rattle.hack_load.specs.ContextView.{context_view}
use Rattle.hack_metadata.specs.RecordViews.{place_at}
use Rattle.hack_plan.specs.View.{plan_package_view}
use Rattle.hack_planner.specs.Calls.{candidate_notes_at}
use Rattle.hack_hunt.specs.Searched.{IsSearchedPackage}
use Rattle.hack_hunt.proofs.plan.searched_packages.Given as goal

-- the packages so far, with their notices
abbrev pub invariant-loop-id : goal.invariant-loop-id
invariant-loop-id l = record {
  ok : AllZip (IsSearchedPackage (context_view l.cx)) (map place_at (take l.id-index l.ids)) (map plan_package_view l.packages.items);
  notes : map note_of l.notices.items ≡ flat_map (candidate_notes_at (context_view l.cx) l.single) (map place_at (take l.id-index l.ids));
}
