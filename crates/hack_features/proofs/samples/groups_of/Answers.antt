use Rattle.std.proofs.Common.{◌∙◌, ◌∷◌, [], List, Bool, ap, refl}
use Rattle.std.proofs.lemmas.List.{map-append}
use Rattle.hack_samples.specs.Sets.{rows_of}
use Rattle.hack_features.specs.Samples.{positions_of}
use Rattle.hack_base.proofs.Steps.{row_items}
use Rattle.hack_features.proofs.MemberLemmas.{step-map, rows-next}
use Rattle.hack_features.proofs.samples.groups_of.Goals as goal

pub loop-row-preserved : goal.loop-row-preserved
loop-row-preserved c =
    let all : List (List Bool) = rows_of c.args.rows.now in
    let k = c.loop-row.row-index in
    ap rows_of c.in_ok-push.ensures.items ∙ map-append row_items c.loop-row.groups.items (c.in_ok-members_of.field-0 ∷ [])
    ∙ step-map positions_of (rows_of c.loop-row.groups.items) c.in_ok-members_of.field-0.items all k c.row-item.result.items c.loop-row.invariant
    (rows-next c.args.rows.now c.args.rows.now refl k c.row-item.result c.loop-row-test.true c.row-item.is)
    (c.in_ok-members_of.ensures ∙ ap positions_of c.as_slice.ensures.value)
