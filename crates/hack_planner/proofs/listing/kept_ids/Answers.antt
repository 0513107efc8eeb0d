use Rattle.std.proofs.Common.{not, refl}
use Rattle.std.specs.Prelude.{◌&&◌}
use Rattle.hack_planner.specs.Members.{Member}
use Rattle.hack_planner.specs.MembersView.{member_view}
use Rattle.hack_planner.proofs.Growth.{map-filter-next}
use Rattle.hack_planner.proofs.listing.kept_ids.Goals as goal

pub loop-member-preserved : goal.loop-member-preserved
loop-member-preserved c = map-filter-next (λ (m : Member). not (c.args.ignored && m.is_private)) (λ (m : Member). m.place) member_view c.args.members.now c.loop-member.member-index c.member-item.result (not (c.args.ignored && c.member-item.result.is_private)) _ _
    c.loop-member-test.true c.member-item.is refl c.in_ok-keep.ensures c.loop-member.invariant
