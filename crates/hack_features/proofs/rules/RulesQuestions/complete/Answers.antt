use Rattle.std.proofs.Common.{◌↔◌, IsTrue, subst, sym}
use Rattle.hack_features.specs.Rules.{IsRequired}
use Rattle.hack_features.specs.View.{choice_of}
use Rattle.hack_features.proofs.RuleLemmas.{tables_of, required_iff_whole}
use Rattle.hack_features.proofs.rules.RulesQuestions.complete.Goals as goal

pub returns-clause-required : goal.returns-clause-required
returns-clause-required c =
    let r = c.args.self.now in
    subst (λ b. IsTrue b ↔ IsRequired (choice_of r) c.args.positions.now) (sym c.is_required.ensures)
    (required_iff_whole r (tables_of r) c.args.positions.now c.requires)
