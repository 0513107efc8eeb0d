use Rattle.std.proofs.Common.{◌∙◌, ◌<◌, ◌+◌, ◌-◌, ◌++◌, subst, arith, length, List, Bool, ℕ}
use Rattle.hack_samples.specs.Sets.{rows_of, tables_of}
use Rattle.hack_samples.specs.InternalDescendingPatterns.{IsAlone, IsShownBelow}
use Rattle.hack_samples.proofs.LeanLemmas.{match-false, own-step, own-all}
use Rattle.hack_samples.proofs.lean.+is_alone.Goals as goal

pub loop-candidate-preserved : goal.loop-candidate-preserved
loop-candidate-preserved t c =
    let providers : List (List (List ℕ)) = tables_of c.args.providers.now in
    let s : List Bool = c.args.among.now.set.now in
    let others : List (List Bool) = rows_of c.args.among.now.before.now ++ rows_of c.args.among.now.behind.now in
    let more : ℕ = c.args.further.more - 1 in
    let k : ℕ = c.loop-candidate.candidate in
    record {
      shown = c.loop-candidate.invariant.shown;
      below = own-step providers s others c.args.pattern.now k more c.is_on-on.result c.is_on-on.ensures c.loop-candidate.invariant.below
          (subst (λ p. IsShownBelow providers s p k more others) (c.as_slice.ensures.value ∙ c.in_ok-next.ensures)
          (match-false c.in_ok-is_alone.field-0 (IsAlone providers (length c.as_slice.result.now + more) s others) (IsShownBelow providers s c.as_slice.result.now k more others) c.if-branch.false c.in_ok-is_alone.ensures));
    }

pub returns : goal.returns
returns t c =
    own-all (tables_of c.args.providers.now) c.args.among.now.set.now (rows_of c.args.among.now.before.now ++ rows_of c.args.among.now.behind.now)
    c.args.pattern.now c.args.further.limit c.args.further.more c.loop-candidate.invariant.shown
    (λ x lt pos. let below : x.candidate < c.loop-candidate.candidate = omega (arith, c.loop-candidate-test.false) in c.loop-candidate.invariant.below x below)
