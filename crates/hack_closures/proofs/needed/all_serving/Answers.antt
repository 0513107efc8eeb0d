use Rattle.std.proofs.Common.{◌∷◌, ◌++◌, [], List, Bool, ap, ◌∙◌, refl, ℕ, map, cond, true}
use Rattle.hack_conflicts.specs.Sets.{rows_of, mark}
use Rattle.hack_features.proofs.MemberLemmas.{step-map, rows-next}
use Rattle.hack_closures.proofs.StepLemmas.{rows_push}
use Rattle.hack_closures.proofs.needed.all_serving.Goals as goal

pub loop-row-preserved : goal.loop-row-preserved
loop-row-preserved c =
    let f : List Bool → List Bool = λ row. map (mark row) c.args.alone.now ++ cond c.args.all (true ∷ []) [] in
    let all : List (List Bool) = rows_of c.args.rows.now in
    let k : ℕ = c.loop-row.row-index in
    ap rows_of c.in_ok-push.ensures.items ∙ rows_push c.loop-row.found.items c.in_ok-serving.field-0
    ∙ step-map f (rows_of c.loop-row.found.items) c.in_ok-serving.field-0.items all k c.row-item.result.items c.loop-row.invariant
    (rows-next c.args.rows.now c.args.rows.now refl k c.row-item.result c.loop-row-test.true c.row-item.is)
    (c.in_ok-serving.ensures ∙ ap f c.as_slice.ensures.value)
