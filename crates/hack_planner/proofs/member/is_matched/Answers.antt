use Rattle.std.proofs.Common.{◌≡◌, ◌≤◌, ◌∙◌, true, false, refl, sym, subst, length, arith, Contains, string_bytes}
use Rattle.hack_pkgids.specs.PackageSpecs.{Matches}
use Rattle.hack_metadata.specs.SpecViews.{identity_of}
use Rattle.hack_planner.proofs.Growth.{none-more, here, seen-all}
use Rattle.hack_planner.proofs.member.is_matched.Goals as goal

pub loop-spec-preserved : goal.loop-spec-preserved
loop-spec-preserved c =
    let P = Matches (identity_of c.args.member.now.pkg.now) in
    none-more P string_bytes c.args.specs.now c.loop-spec.spec-index c.spec-item.result c.loop-spec-test.true c.spec-item.is
    (λ m. let t : c.fits.result ≡ true = c.fits.ensures.1 (subst P (sym c.as_str.ensures.value) m) in let e : true ≡ false = sym t ∙ c.if-fits.false in cc)
    c.loop-spec.invariant

pub returns-then-fits : goal.returns-then-fits
returns-then-fits c = (
  λ t. let given = here string_bytes c.args.specs.now c.loop-spec.spec-index c.spec-item.result c.loop-spec-test.true c.spec-item.is in
      (given.0, string_bytes c.spec-item.result, given.1, given.2, subst (Matches (identity_of c.args.member.now.pkg.now)) c.as_str.ensures.value (c.fits.ensures.0 c.if-fits.true)),
  λ m. refl,
)

pub returns : goal.returns
returns c =
    let past : length c.args.specs.now ≤ c.loop-spec.spec-index = omega arith in
    (λ t. cc, λ m. absurd (c.loop-spec.invariant m.1 (subst (λ l. Contains l m.1) (sym (seen-all string_bytes c.args.specs.now c.loop-spec.spec-index past)) (m.0, m.2, m.3)) m.4))
