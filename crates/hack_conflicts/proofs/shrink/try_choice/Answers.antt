use Rattle.std.proofs.Common.{◌≡◌, ◌++◌, ◌∷◌, [], List, Bool, cond, sym, subst}
use Rattle.hack_conflicts.specs.Internal.{IsFailing, told}
use Rattle.hack_conflicts.specs.declared.tried.BuildOutcome.TheVariants.{Passed, Failed}
use Rattle.hack_conflicts.proofs.ShrinkLemmas.{failing_passed, failing_failed, blamed_part}
use Rattle.hack_conflicts.proofs.shrink.try_choice.Goals as goal

pub returns-then-passed-clause-failing : goal.returns-then-passed-clause-failing
returns-then-passed-clause-failing g c = λ large part h.
    let k = c.args.known.now in
    let m = c.ask.new.known in
    let e = c.in_ok-passed.ensures in
    let ran : told m ≡ told k ++ record { set = c.args.set.now; outcome = Passed } ∷ [] = subst (λ b. told m ≡ told k ++ record { set = c.args.set.now; outcome = cond b Passed Failed } ∷ []) c.if-passed.true e.told in
    failing_passed k m c.args.set.now ran e.same_conflicts e.same_passing c.args.rules.now large part h

pub returns-clause-failing : goal.returns-clause-failing
returns-clause-failing g c = λ large part h.
    let r = c.args.rules.now in
    let k = c.args.known.now in
    let m = c.ask.new.known in
    let s : List Bool = c.args.set.now in
    let e = c.in_ok-passed.ensures in
    let ran : told m ≡ told k ++ record { set = s; outcome = Failed } ∷ [] = subst (λ b. told m ≡ told k ++ record { set = s; outcome = cond b Passed Failed } ∷ []) c.if-passed.false e.told in
    subst (IsFailing r m) (sym c.in_ok-from_slice.ensures.items)
    (failing_failed k m s ran e.same_conflicts e.same_passing r c.requires.next (blamed_part r k s large part h))
