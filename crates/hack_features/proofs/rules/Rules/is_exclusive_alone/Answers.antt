use Rattle.std.proofs.Common.{◌<◌, ◌∷◌, [], ℕ, length, sym, subst, arith, ◌↔◌, IsTrue}
use Rattle.std.proofs.lemmas.List.Elements.{All-cons, All-nil}
use Rattle.hack_sets.specs.Sets.{IsSelection}
use Rattle.hack_features.specs.Rules.{IsExclusive}
use Rattle.hack_features.specs.View.{choice_of}
use Rattle.hack_features.proofs.CandidateLemmas.{length-candidates_of}
use Rattle.hack_features.proofs.RuleLemmas.{tables_of}
use Rattle.hack_features.proofs.rules.Rules.is_exclusive_alone.Goals as goal

one : (n p : ℕ) → p < n → IsSelection n (p ∷ [])
one n p lt = record { increasing = λ i j d less le. absurd (omega arith); below = All-cons (λ q. q < n) p [] lt (All-nil (λ q. q < n)) }

pub returns : goal.returns
returns c =
    let r = c.args.self.now in
    let p : ℕ = c.args.candidate in
    let low : p < length (choice_of r).candidates = omega (arith, c.requires, length-candidates_of r.given.features.now) in
    subst (λ b. IsTrue b ↔ IsExclusive (choice_of r) (p ∷ [])) (sym c.is_exclusive.ensures)
    ((tables_of r).exclusive (p ∷ []) (one (length (choice_of r).candidates) p low))
