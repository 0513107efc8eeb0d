use Rattle.std.specs.Prelude.{◌&&◌}
use Rattle.hack_base.specs.declared.notice.NoticeKind.TheVariants.{Info}
use Rattle.hack_planner.specs.Texts.{private_text}
use Rattle.hack_planner.specs.Members.{Member}
use Rattle.hack_planner.specs.MembersView.{member_view}
use Rattle.hack_planner.proofs.Growth.{notes-next}
use Rattle.hack_planner.proofs.listing.skip_notes.Goals as goal

pub loop-member-preserved : goal.loop-member-preserved
loop-member-preserved c = notes-next (λ (m : Member). c.args.ignored && m.is_private) Info (λ (m : Member). private_text c.args.verbose m.pkg) member_view c.args.members.now c.loop-member.member-index c.member-item.result _ _ _ _
    c.loop-member-test.true c.member-item.is c.is_skipped-told.ensures c.in_ok-text.ensures c.in_ok-tell.ensures.told c.loop-member.invariant
