use Rattle.std.proofs.Common.{map, take}
use Rattle.std.specs.List.{AllZip}
use Rattle.hack_load.specs.ContextView.{context_view}
use Rattle.hack_metadata.specs.RecordViews.{place_at}
use Rattle.hack_versions.specs.declared.version.VersionFault.{VersionFault}
use Rattle.hack_planner.specs.Calls.{IsMember, HasBadOwn}
use Rattle.hack_planner.proofs.input.members.Given as goal

abbrev pub invariant-loop-id : goal.invariant-loop-id
invariant-loop-id l = AllZip (IsMember (context_view l.cx)) (map place_at (take l.id-index l.ids)) l.members.items
    × ((e : VersionFault) → ¬ HasBadOwn (context_view l.cx) (map place_at (take l.id-index l.ids)) e)
