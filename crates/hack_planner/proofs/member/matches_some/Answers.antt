use Rattle.std.proofs.Common.{◌≡◌, ◌≤◌, ◌∙◌, true, false, refl, sym, subst, length, arith, Contains}
use Rattle.hack_pkgids.specs.PackageSpecs.{Matches}
use Rattle.hack_planner.specs.Members.{Member, identity}
use Rattle.hack_planner.specs.MembersView.{member_view}
use Rattle.hack_planner.proofs.Growth.{none-more, here, seen-all}
use Rattle.hack_planner.proofs.member.matches_some.Goals as goal

pub loop-member-preserved : goal.loop-member-preserved
loop-member-preserved c =
    none-more (λ (m : Member). Matches (identity m.pkg) c.args.spec.now) member_view c.args.members.now c.loop-member.member-index c.member-item.result c.loop-member-test.true c.member-item.is
    (λ m. let t : c.fits.result ≡ true = c.fits.ensures.1 m in let e : true ≡ false = sym t ∙ c.if-fits.false in cc)
    c.loop-member.invariant

pub returns-then-fits : goal.returns-then-fits
returns-then-fits c = (
  λ t. let there = here member_view c.args.members.now c.loop-member.member-index c.member-item.result c.loop-member-test.true c.member-item.is in
      (there.0, member_view c.member-item.result, there.1, there.2, c.fits.ensures.0 c.if-fits.true),
  λ m. refl,
)

pub returns : goal.returns
returns c =
    let past : length c.args.members.now ≤ c.loop-member.member-index = omega arith in
    (λ t. cc, λ m. absurd (c.loop-member.invariant m.1 (subst (λ l. Contains l m.1) (sym (seen-all member_view c.args.members.now c.loop-member.member-index past)) (m.0, m.2, m.3)) m.4))
