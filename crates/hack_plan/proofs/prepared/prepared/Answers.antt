use Rattle.std.proofs.Common.{◌∙◌, ap, map, sym, subst}
use Rattle.std.specs.List.{filter_map}
use Rattle.std.proofs.lemmas.List.{take_all}
use Rattle.hack_plan.specs.Internal.{version_at}
use Rattle.hack_plan.specs.Prepared.{span_of, preparations_of}
use Rattle.hack_plan.proofs.Ready.{AreReady, ready-more, prepared-end, spans-more, as-many}
use Rattle.hack_plan.proofs.prepared.prepared.Goals as goal

pub loop-place-preserved : goal.loop-place-preserved
loop-place-preserved c =
    let i = c.loop-place.place in
    let spans = c.args.spans.now in
    let v = c.in_ok-version.field-0 in (
      ap (map span_of) c.in_ok-push.ensures.items ∙ spans-more spans c.loop-place.versions.items v i _ c.loop-place-test.true c.in_ok-version.ensures.span c.loop-place.invariant.0,
      subst (AreReady c.args.locked c.args.clean (filter_map version_at spans)) (sym c.in_ok-push.ensures.items)
          (ready-more c.args.locked c.args.clean (filter_map version_at spans) c.in_ok-flags.flags.items c.loop-place.versions.items v i c.is_set-remakes.result
          c.in_ok-flags.ensures (rw c.as_slice.ensures.value at c.is_set-remakes.ensures) (as-many spans c.loop-place.versions.items i c.loop-place-test.true c.loop-place.invariant.0)
          (c.in_ok-version.ensures.made ∙ ap (λ o. preparations_of o i c.is_set-remakes.result c.args.clean) (sym (ap version_at c.in_ok-version.ensures.span))) c.loop-place.invariant.1),
    )

pub returns-clause-each : goal.returns-clause-each
returns-clause-each c =
    prepared-end c.args.locked c.args.clean c.args.spans.now c.loop-place.versions.items
    (c.loop-place.invariant.0 ∙ take_all c.loop-place.place c.args.spans.now c.loop-place-test.false) c.loop-place.invariant.1
