use Rattle.std.proofs.Common.{◌≡◌, ◌<◌, ◌∙◌, ◌↔◌, ◌+◌, Contains, arith, sym, subst}
use Rattle.std.proofs.lemmas.Iterator.{YieldsList-from_range, items_from_collect}
use Rattle.std.proofs.lemmas.List.FromFn.{length-range_with_len, get_or-range_with_len}
use Rattle.std.proofs.lemmas.Result.{IfOk-weaker}
use Rattle.hack_plan.proofs.places.all_below.Goals as goal

pub returns-clause-exact : goal.returns-clause-exact
returns-clause-exact c =
    let n = c.args.n in
    IfOk-weaker c.collect.result _ _ (λ v is p. subst (λ xs. Contains xs p ↔ p < n) (sym is) (
      λ k. let lt : k.0 < n = omega (arith, k.1, length-range_with_len 0 n) in omega (arith, lt, k.2, get_or-range_with_len 0 n k.0 p lt),
      λ lt. (p, omega (arith, lt, length-range_with_len 0 n), get_or-range_with_len 0 n p p lt ∙ (let e : 0 + p ≡ p = omega arith in e)),
    )) (items_from_collect _ c.collect.ensures.ran (YieldsList-from_range 0 n n (cc) (omega arith)))
