use Rattle.std.proofs.Common.{◌≡◌, ◌∙◌, ◌-◌, ◌^◌, ap, arith, min, ℕ, List, length, sym, subst}
use Rattle.hack_planner.specs.PatternCounts.{CountsPatterns}
use Rattle.hack_planner.proofs.PatternCountLemmas.{patterns-past, patterns-last, patterns-one}
use Rattle.hack_planner.proofs.pattern_counts.count_patterns.Goals as goal
use Rattle.hack_planner.proofs.pattern_counts.count_patterns.Goals.{in-Some, in-None}

pub returns-then-strength-candidates : goal.returns-then-strength-candidates
returns-then-strength-candidates c = sym (ap (λ k. min k (2 ^ 128 - 1)) (patterns-past c.args.candidates c.args.strength c.if-strength-candidates.true))

pub returns : goal.returns
returns c =
    let n : ℕ = c.args.candidates in
    let t : ℕ = c.args.strength in
    let counts : List ℕ = c.deref.result.now in
    let same : c.loop-candidate._candidate ≡ n = omega (arith, c.loop-candidate-test.false, c.loop-candidate.auto._candidate-end) in
    let len : length counts ≡ t = ap length c.deref.ensures.value ∙ c.loop-candidate.invariant.size in
    let each : CountsPatterns n counts = subst (λ k. CountsPatterns k counts) same (subst (CountsPatterns c.loop-candidate._candidate) (sym c.deref.ensures.value) c.loop-candidate.invariant.counts) in
    elim c.match-last.branch [
      | in-Some w ↦ w.result-is ∙ patterns-last n t counts w.in-Some.all.now len each w.in-Some.ensures.value
      | in-None w ↦ w.result-is ∙ patterns-one n t counts len w.in-None.ensures.value
    ]
