use Rattle.std.proofs.Common.{sym, subst, ◌↔◌, IsTrue}
use Rattle.hack_samples.specs.Sets.{rows_of}
use Rattle.hack_features.specs.Rules.{IsRequired}
use Rattle.hack_features.specs.Tables.{is_required}
use Rattle.hack_features.specs.View.{choice_of}
use Rattle.hack_features.proofs.RuleLemmas.{tables_of, required_iff_whole}
use Rattle.hack_features.proofs.rules.Rules.serving.Goals as goal

pub returns : goal.returns
returns c s sel =
    let r = c.args.self.now in
    subst (λ rows. IsTrue (is_required (rows_of rows) s) ↔ IsRequired (choice_of r) s) (sym c.as_slice.ensures.value)
    (required_iff_whole r (tables_of r) s sel)
