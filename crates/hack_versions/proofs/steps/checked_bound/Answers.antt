use Rattle.std.proofs.Common.{◌≡◌, ◌∙◌, sym, refl, true, false}
use Rattle.hack_versions.proofs.StepLemmas.{bound-missing, own-right}
use Rattle.hack_versions.proofs.steps.checked_bound.Goals as goal
use Rattle.hack_versions.proofs.steps.checked_bound.Goals.{else-own-via-then-own+else-version-ne1-2, else-own-via-else-own}

pub returns-in_default-clause-err : goal.returns-in_default-clause-err
returns-in_default-clause-err c = bound-missing c.args.own c.args.owns.now c.args.bound c.in-Msrv.is (c.in_default.ensures.none refl)

pub returns-else-own-clause-never : goal.returns-else-own-clause-never
returns-else-own-clause-never c =
    own-right c.args.own c.args.owns.now c.args.bound c.in-Some.version c.in-Msrv.is c.in-Some.ensures.some
    (elim c.else-own.branch [
      | else-own-via-then-own+else-version-ne1-2 w ↦ λ own. w.if-version-ne1-2.false
      | else-own-via-else-own w ↦ λ own. absurd (let z : true ≡ false = sym own ∙ w.if-own.false in cc)
    ])
