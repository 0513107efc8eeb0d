use Rattle.std.proofs.Common.{◌≡◌, take, map, not}
use Rattle.std.specs.Prelude.{filter, ◌&&◌}
use Rattle.hack_metadata.specs.declared.metadata.resolve.PackageId.{PackageId}
use Rattle.hack_planner.specs.Members.{Member}
use Rattle.hack_planner.specs.MembersView.{member_view}
use Rattle.hack_planner.proofs.listing.kept_ids.Given as goal

-- the ids are those of the members so far that aren't skipped
abbrev pub invariant-loop-member : goal.invariant-loop-member
invariant-loop-member l = map (λ (id : PackageId). id.index) l.ids.items ≡ map (λ (m : Member). m.place) (filter (λ (m : Member). not (l.ignored && m.is_private)) (take l.member-index (map member_view l.members)))
