use Rattle.std.proofs.Common.{◌≡◌, ◌∙◌, [], ◌∷◌, true, false, sym, ap, subst, map}
use Rattle.std.proofs.lemmas.List.{map-append}
use Rattle.hack_base.specs.Names.{names_of}
use Rattle.hack_planner.specs.Members.{Member, SelectsMembers, ends}
use Rattle.hack_planner.specs.MembersView.{member_view}
use Rattle.hack_planner.specs.InternalListingView.{IsMatchedAs}
use Rattle.hack_planner.proofs.Growth.{collects-taken, collects-left}
use Rattle.hack_planner.proofs.listing.matched_members.Goals as goal

pub loop-member-init : goal.loop-member-init
loop-member-init c = subst (λ l. SelectsMembers (IsMatchedAs c.args.matched (names_of c.args.specs.now)) [] (map member_view l)) (sym c.new-kept.ensures.items) ends

pub loop-member-preserved-then-not-is_picked : goal.loop-member-preserved-then-not-is_picked
loop-member-preserved-then-not-is_picked c =
    collects-left (IsMatchedAs c.args.matched (names_of c.args.specs.now)) (λ (m : Member). m) member_view c.args.members.now c.loop-member.member-index c.member-item.result _
    c.loop-member-test.true c.member-item.is
    (λ p. let e : true ≡ false = sym (c.is_picked.ensures.1 p) ∙ c.if-not-is_picked.true in cc)
    c.loop-member.invariant

pub loop-member-preserved : goal.loop-member-preserved
loop-member-preserved c =
    collects-taken (IsMatchedAs c.args.matched (names_of c.args.specs.now)) (λ (m : Member). m) member_view c.args.members.now c.loop-member.member-index c.member-item.result _ _
    c.loop-member-test.true c.member-item.is (c.is_picked.ensures.0 c.if-not-is_picked.false)
    (ap (map member_view) c.in_ok-push.ensures.items ∙ map-append member_view c.loop-member.kept.items (c.member-item.result ∷ []))
    c.loop-member.invariant
