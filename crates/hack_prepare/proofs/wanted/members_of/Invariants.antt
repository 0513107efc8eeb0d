use Rattle.std.proofs.Common.{◌≡◌, take, map}
use Rattle.std.specs.List.{filter_map}
use Rattle.hack_load.specs.ContextView.{context_view}
use Rattle.hack_metadata.specs.RecordViews.{place_at}
use Rattle.hack_prepare.specs.PreparedView.{member_manifest_at}
use Rattle.hack_prepare.specs.Internal.{members_view}
use Rattle.hack_prepare.proofs.wanted.members_of.Given as goal

-- the members so far
abbrev pub invariant-loop-id : goal.invariant-loop-id
invariant-loop-id l = members_view l.members.items ≡ filter_map (member_manifest_at (context_view l.cx)) (take l.id-index (map place_at l.id-items))
