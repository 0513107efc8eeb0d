use Rattle.std.proofs.Common.{◌∙◌, List, ℕ, ap}
use Rattle.hack_samples.specs.Sets.{rows_of}
use Rattle.hack_features.specs.InternalSamples.{one_leads}
use Rattle.hack_features.proofs.MemberLemmas.{step-map, rows-next}
use Rattle.hack_features.proofs.samples.providers_of.Goals as goal

pub loop-names-preserved : goal.loop-names-preserved
loop-names-preserved c =
    let marks = rows_of c.args.enabled.now.routes.marks.items in
    let all : List (List ℕ) = rows_of c.args.enabled.now.candidates.items in
    let k = c.loop-names.names-index in
    c.in_ok-push.ensures.items
    ∙ step-map (one_leads marks c.args.y) c.loop-names.leading.items c.one_leads.result all k c.names-item.result.items c.loop-names.invariant
    (rows-next c.as_slice-names-items.result.now c.args.enabled.now.candidates.items c.as_slice-names-items.ensures.value k c.names-item.result c.loop-names-test.true c.names-item.is)
    (c.one_leads.ensures ∙ ap (one_leads marks c.args.y) c.as_slice.ensures.value)
