use Rattle.std.proofs.Common.{◌≤◌, ◌∙◌, List, ℕ, ap, arith, get_or, length, sym, subst}
use Rattle.std.proofs.lemmas.List.{length_push}
use Rattle.hack_planner.proofs.LeastPlaceLemmas.{fewer-next}
use Rattle.hack_planner.proofs.least_places.padded.Goals as goal

pub loop-place-init : goal.loop-place-init
loop-place-init c = (omega arith, ap (λ (ns : List ℕ). length ns) c.in_ok-all.ensures.items, subst (λ (ns : List ℕ). (p : ℕ) → get_or ns p 0 ≤ get_or c.args.counts.now p 0) (sym c.in_ok-all.ensures.items) (λ p. omega arith))

pub loop-place-preserved : goal.loop-place-preserved
loop-place-preserved c = (
  omega arith,
  ap (λ (ns : List ℕ). length ns) c.in_ok-push.ensures.items ∙ omega (arith, length_push c.loop-place.all.items c.count_at.result, c.loop-place.invariant.1),
  fewer-next c.loop-place.all.items c.push.new.self.items c.args.counts.now c.count_at.result c.in_ok-push.ensures.items
      (c.count_at.ensures ∙ ap (λ n. get_or c.args.counts.now n 0) (sym c.loop-place.invariant.1)) c.loop-place.invariant.2,
)

pub returns-clause-long : goal.returns-clause-long
returns-clause-long c = omega (arith, c.loop-place.invariant.1, c.loop-place.invariant.0, c.loop-place-test.false)

pub returns-clause-fewer : goal.returns-clause-fewer
returns-clause-fewer c = c.loop-place.invariant.2
