use Rattle.hack_features.proofs.rules.Rules.from_given.Goals as goal

pub invariant_of-result-clause-placed_told : goal.invariant_of-result-clause-placed_told
invariant_of-result-clause-placed_told c = ∣ c.in_ok-enabled.ensures ∣₁

pub invariant_of-result-clause-tables_told : goal.invariant_of-result-clause-tables_told
invariant_of-result-clause-tables_told c = ∣ c.in_ok-tables.ensures ∣₁
