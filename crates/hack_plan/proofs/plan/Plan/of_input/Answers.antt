use Rattle.std.proofs.Common.{◌∙◌, ap, length, subst, sym}
use Rattle.hack_plan.specs.Spans.{AreTiled}
use Rattle.hack_plan.specs.Plans.{counts_in}
use Rattle.hack_plan.proofs.Within.{places-runs}
use Rattle.hack_plan.proofs.plan.Plan.of_input.Goals as goal

pub invariant_of-result : goal.invariant_of-result
invariant_of-result c = (
  places-runs c.args.packages.items c.as_slice-2.result.now c.args.input.now c.args.versions.now.stable c.in_ok-places.places.entries
      (c.as_slice-2.ensures.value ∙ c.in_ok-counts.ensures ∙ ap counts_in c.as_slice.ensures.value)
      c.in_ok-places.ensures.ok,
  subst (λ spans. AreTiled 0 spans (length c.in_ok-places.places.entries)) (sym (c.in_ok-versions.ensures.spans ∙ c.versions.ensures)) c.in_ok-places.ensures.tiled,
)
