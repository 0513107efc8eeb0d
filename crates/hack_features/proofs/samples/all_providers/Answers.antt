use Rattle.std.proofs.Common.{◌∙◌, ◌∷◌, [], List, ℕ, map, ap}
use Rattle.std.proofs.lemmas.List.{map-append}
use Rattle.hack_samples.specs.Sets.{tables_of, rows_of}
use Rattle.hack_features.specs.InternalSamples.{providers_of}
use Rattle.hack_features.proofs.MemberLemmas.{step-map, rows-next}
use Rattle.hack_features.proofs.samples.all_providers.Goals as goal

pub loop-names-preserved : goal.loop-names-preserved
loop-names-preserved c =
    let f : List ℕ → List (List ℕ) = map (providers_of (rows_of c.args.enabled.now.routes.marks.items) (rows_of c.args.enabled.now.candidates.items)) in
    let all : List (List ℕ) = rows_of c.args.enabled.now.candidates.items in
    let k = c.loop-names.names-index in
    ap tables_of c.in_ok-push.ensures.items ∙ map-append (λ table. rows_of table.items) c.loop-names.tables.items (c.in_ok-providers_at.field-0 ∷ [])
    ∙ step-map f (tables_of c.loop-names.tables.items) (rows_of c.in_ok-providers_at.field-0.items) all k c.names-item.result.items c.loop-names.invariant
    (rows-next c.as_slice-names-items.result.now c.args.enabled.now.candidates.items c.as_slice-names-items.ensures.value k c.names-item.result c.loop-names-test.true c.names-item.is)
    (c.in_ok-providers_at.ensures ∙ ap f c.as_slice.ensures.value)
