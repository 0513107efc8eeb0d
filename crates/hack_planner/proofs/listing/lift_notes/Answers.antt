use Rattle.std.proofs.Common.{◌∙◌, ap, not, map, string_bytes}
use Rattle.std.specs.declared.string.String.{String}
use Rattle.std.specs.declared.alloc.Global.{Global}
use Rattle.hack_features.specs.declared.feature.Feature.{Feature}
use Rattle.hack_base.specs.declared.notice.NoticeKind.TheVariants.{Warn}
use Rattle.hack_planner.specs.Texts.{lift_text}
use Rattle.hack_planner.specs.Members.{is_called}
use Rattle.hack_planner.specs.MembersView.{member_view}
use Rattle.hack_planner.proofs.Growth.{notes-next}
use Rattle.hack_planner.proofs.listing.lift_notes.Goals as goal

pub loop-lift-preserved : goal.loop-lift-preserved
loop-lift-preserved c =
    let ms = map member_view c.args.members.now in
    notes-next (λ owner. not (is_called ms owner)) Warn (lift_text c.args.root.now) (λ (lift : String Global × Feature). string_bytes lift.0) c.args.lifts.now c.loop-lift.lift-index c.lift-item.result _ _ _ _
    c.loop-lift-test.true c.lift-item.is
    (ap not (c.is_called-told.ensures ∙ ap (is_called ms) c.as_str-owner.ensures.value))
    (c.in_ok-text.ensures ∙ ap (lift_text c.args.root.now) c.as_str-owner.ensures.value)
    c.in_ok-tell.ensures.told c.loop-lift.invariant
