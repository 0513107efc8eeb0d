use Rattle.std.proofs.Common.{◌∷◌, List, ℕ, ◌↔◌, IsTrue, ◌∙◌, subst, sym}
use Rattle.hack_features.specs.Rules.{IsPermitted}
use Rattle.hack_features.specs.View.{choice_of}
use Rattle.hack_features.proofs.FrontLemmas.{may-front}
use Rattle.hack_features.proofs.RuleLemmas.{tables_of, permitted_iff}
use Rattle.hack_features.proofs.rules.Rules.may_begin.Goals as goal

pub returns-clause-answer : goal.returns-clause-answer
returns-clause-answer c = c.permits.ensures.answer ∙ sym (may-front c.args.self.now c.args.positions.now c.args.least)

pub returns-clause-permitted : goal.returns-clause-permitted
returns-clause-permitted c =
    let r = c.args.self.now in
    let s : List ℕ = c.args.least ∷ c.args.positions.now in
    subst (λ b. IsTrue b ↔ IsPermitted (choice_of r) s) (sym (c.permits.ensures.answer ∙ sym (may-front r c.args.positions.now c.args.least)))
    (permitted_iff r (tables_of r) s c.requires)
