use Rattle.std.proofs.Common.{◌≡◌, false, true, map, take}
use Rattle.std.specs.List.{AllZip, flat_map}
use Rattle.hack_load.specs.ContextView.{context_view}
use Rattle.hack_base.specs.Notes.{note_of}
use Rattle.hack_plan.specs.Entries.{HasTooMany}
use Rattle.hack_planner.specs.Calls.{candidate_notes_at}
use Rattle.hack_planner.specs.InternalLeastPlaces.{HasAtLeast}
use Rattle.hack_planner.specs.InternalUses.{IsCoveredAs, IsPlannedAs, id_of}
use Rattle.hack_plan.specs.View.{plan_package_view}
use Rattle.hack_planner.proofs.chosen.chosen_packages.Given as goal

-- the packages so far, with their coverage and their notices, as long as they fit; and how many runs they have at least
abbrev pub invariant-loop-one : goal.invariant-loop-one
invariant-loop-one l = record {
  planned : l.fits ≡ true → AllZip (IsPlannedAs (context_view l.cx)) (take l.one-index l.chosen) (map plan_package_view l.packages.items);
  covered : l.fits ≡ true → AllZip (IsCoveredAs (context_view l.cx)) (take l.one-index l.chosen) (map plan_package_view l.packages.items);
  told : l.fits ≡ true → map note_of l.notices.items ≡ flat_map (candidate_notes_at (context_view l.cx) l.single) (map id_of (take l.one-index l.chosen));
  counted : AllZip (HasAtLeast (context_view l.cx)) (take l.one-index l.chosen) l.counts.items;
  over : l.fits ≡ false → HasTooMany l.input l.counts.items l.versions.stable;
}
