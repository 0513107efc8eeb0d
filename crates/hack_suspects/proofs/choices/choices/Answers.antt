use Rattle.std.proofs.Common.{◌≡◌, ◌∙◌, ap, arith, min, ℕ, List, length, sym, subst}
use Rattle.std.specs.Prelude.{unwrap_or}
use Rattle.hack_suspects.specs.InternalWalks.{CountsChoices}
use Rattle.hack_suspects.proofs.ChoiceLemmas.{choices-last}
use Rattle.hack_suspects.proofs.choices.choices.Goals as goal

pub returns : goal.returns
returns c =
    let n : ℕ = c.args.candidates in
    let counts : List ℕ = c.deref.result.now in
    let same : c.loop-candidate._candidate ≡ n = omega (arith, c.loop-candidate-test.false, c.loop-candidate.auto._candidate-end) in
    let len : length counts ≡ min c.args.strength n = ap length c.deref.ensures.value ∙ c.loop-candidate.invariant.size ∙ c.min-size.ensures in
    let each : CountsChoices n counts = subst (λ k. CountsChoices k counts) same (subst (CountsChoices c.loop-candidate._candidate) (sym c.deref.ensures.value) c.loop-candidate.invariant.counts) in
    c.unwrap_or.ensures ∙ ap (λ o. unwrap_or o 1) (c.copied.ensures ∙ c.last.ensures.value) ∙ choices-last n c.args.strength counts len each
