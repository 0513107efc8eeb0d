use Rattle.std.proofs.Common.{◌∙◌, ◌++◌, ◌∷◌, [], ap, sym}
use Rattle.hack_planner.proofs.NoteLemmas.{range-more}
use Rattle.hack_planner.proofs.plan_notes.below.Goals as goal

pub loop-place-preserved : goal.loop-place-preserved
loop-place-preserved c =
    let n = c.loop-place.place in
    c.in_ok-push.ensures.items ∙ ap (λ l. l ++ n ∷ []) c.loop-place.invariant ∙ sym (range-more n)
