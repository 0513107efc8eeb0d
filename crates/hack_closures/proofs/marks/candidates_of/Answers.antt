use Rattle.std.proofs.Common.{◌∷◌, ◌++◌, ◌∙◌, [], sym, ap, refl, get_or, ℕ, List, Bool}
use Rattle.hack_closures.proofs.StepLemmas.{candidates_hit, candidates_missed}
use Rattle.hack_closures.proofs.marks.candidates_of.Goals as goal
use Rattle.hack_closures.proofs.marks.candidates_of.Goals.{then-has+in_ok-push, else-has}

pub loop-x-preserved : goal.loop-x-preserved
loop-x-preserved c =
    let alone : List ℕ = c.args.alone.now in
    let s : List Bool = c.args.set.now in
    let x : ℕ = c.loop-x.x in
    elim c.if-has.branch [
      | then-has+in_ok-push w ↦
          ap (λ v. v.items) w.found-is ∙ w.in_ok-push.ensures.items ∙ ap (λ l. l ++ get_or alone x 0 ∷ []) c.loop-x.invariant
          ∙ sym (candidates_hit alone s x (get_or alone x 0) c.loop-x-test.true refl (sym c.has.ensures ∙ w.if-has.true))
      | else-has w ↦ ap (λ v. v.items) w.found-is ∙ c.loop-x.invariant ∙ sym (candidates_missed alone s x c.loop-x-test.true (sym c.has.ensures ∙ w.if-has.false))
    ]
