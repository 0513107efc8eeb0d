use Rattle.std.proofs.Common.{◌≡◌, ◌<◌, List, length, slice_index_or, subst, sym}
use Rattle.hack_plan.specs.declared.parts.PlanVersion.{PlanVersion}
use Rattle.hack_side.proofs.offers.is_within.Goals as goal

pub returns-then-has_both : goal.returns-then-has_both
returns-then-has_both c = (
  c.version-item.result,
  (
    c.loop-version.version-index,
    subst (λ (vs : List PlanVersion). c.loop-version.version-index < length vs) c.versions-version-items.ensures.value c.loop-version-test.true,
    subst (λ (vs : List PlanVersion). slice_index_or vs c.loop-version.version-index c.version-item.result ≡ c.version-item.result) c.versions-version-items.ensures.value (sym c.version-item.is),
  ),
  c.if-has_both.ensures.0,
  c.if-has_both.ensures.1,
)
