use Rattle.hack_features.proofs.RuleLemmas.{tables_of, permitted_iff, required_iff_whole}
use Rattle.hack_features.proofs.rules.Rules.new.Goals as goal

pub returns-clause-permitted : goal.returns-clause-permitted
returns-clause-permitted c = permitted_iff c.in_ok-rules.rules (tables_of c.in_ok-rules.rules)

pub returns-clause-required : goal.returns-clause-required
returns-clause-required c = required_iff_whole c.in_ok-rules.rules (tables_of c.in_ok-rules.rules)
