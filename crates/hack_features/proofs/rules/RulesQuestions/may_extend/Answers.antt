use Rattle.std.proofs.Common.{◌++◌, ◌∷◌, [], List, ℕ, ◌↔◌, IsTrue, subst, sym, arith}
use Rattle.hack_features.specs.Rules.{IsPermitted}
use Rattle.hack_features.specs.View.{choice_of, size_of}
use Rattle.hack_sets.proofs.Listing.{selection_push, selection_up}
use Rattle.hack_features.proofs.RuleLemmas.{tables_of, permitted_iff}
use Rattle.hack_features.proofs.rules.RulesQuestions.may_extend.Goals as goal

pub returns-clause-permitted : goal.returns-clause-permitted
returns-clause-permitted c =
    let r = c.args.self.now in
    let s : List ℕ = c.args.positions.now ++ c.args.next ∷ [] in
    subst (λ b. IsTrue b ↔ IsPermitted (choice_of r) s) (sym c.permits.ensures.answer)
    (permitted_iff r (tables_of r) s (selection_up _ (size_of r) s (omega arith) (selection_push c.args.next c.args.positions.now c.requires.below)))
