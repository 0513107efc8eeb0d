use Rattle.std.proofs.Common.{◌++◌, ◌∷◌, [], ◌∙◌, sym, ap}
use Rattle.hack_features.proofs.MemberLemmas.{seen-hit, seen-missed}
use Rattle.hack_least.proofs.members_of.Goals as goal
use Rattle.hack_least.proofs.members_of.Goals.{then-has+in_ok-push, else-has}

pub loop-place-preserved : goal.loop-place-preserved
loop-place-preserved c =
    let s = c.args.set.now in
    let k = c.loop-place.place in
    elim c.if-has.branch [
      | then-has+in_ok-push w ↦
          ap (λ v. v.items) w.members-is ∙ w.in_ok-push.ensures.items ∙ ap (λ l. l ++ k ∷ []) c.loop-place.invariant
          ∙ sym (seen-hit s k c.loop-place-test.true (sym c.has.ensures ∙ w.if-has.true))
      | else-has w ↦ ap (λ v. v.items) w.members-is ∙ c.loop-place.invariant ∙ sym (seen-missed s k c.loop-place-test.true (sym c.has.ensures ∙ w.if-has.false))
    ]
