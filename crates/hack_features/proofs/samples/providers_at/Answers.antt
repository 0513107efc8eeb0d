use Rattle.std.proofs.Common.{◌∙◌, ◌∷◌, [], get_or, ap}
use Rattle.std.proofs.lemmas.List.{map-append, take_more}
use Rattle.hack_samples.specs.Sets.{rows_of}
use Rattle.hack_features.specs.InternalSamples.{providers_of}
use Rattle.hack_base.proofs.Steps.{row_items}
use Rattle.hack_features.proofs.MemberLemmas.{step-map}
use Rattle.hack_features.proofs.samples.providers_at.Goals as goal

pub loop-y-preserved : goal.loop-y-preserved
loop-y-preserved c =
    let f = providers_of (rows_of c.args.enabled.now.routes.marks.items) (rows_of c.args.enabled.now.candidates.items) in
    let k = c.loop-y.y-index in
    let y = get_or c.args.names.now k 0 in
    ap rows_of c.in_ok-push.ensures.items ∙ map-append row_items c.loop-y.rows.items (c.in_ok-providers_of.field-0 ∷ [])
    ∙ step-map f (rows_of c.loop-y.rows.items) c.in_ok-providers_of.field-0.items c.args.names.now k y c.loop-y.invariant
    (take_more c.args.names.now k 0 c.loop-y-test.true) c.in_ok-providers_of.ensures
