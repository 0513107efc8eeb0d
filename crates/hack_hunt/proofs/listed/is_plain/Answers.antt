use Rattle.std.proofs.Common.{◌≡◌, ◌∙◌, [], refl, sym}
use Rattle.std.proofs.lemmas.Result.{IfOk-weaker}
use Rattle.std.specs.Prelude.{true}
use Rattle.hack_features.specs.View.{choice_of}
use Rattle.hack_plan.specs.Runs.{is_plain}
use Rattle.hack_planner.specs.Kinds.{options_of}
use Rattle.hack_planner.specs.PackageRules.{rules_in}
use Rattle.hack_hunt.proofs.RuleLemmas.{plain_as}
use Rattle.hack_hunt.proofs.listed.is_plain.Goals as goal

pub returns : goal.returns
returns c =
    let o = options_of (rules_in c.args.asked.now) c.args.features.now in
    let flag : true ≡ is_plain o [] = sym c.if-not-is_plain.false ∙ (rw c.options.ensures at c.is_plain.ensures) [] refl in
    IfOk-weaker c.lists_none.result _ _ (λ plain is sets listing. plain_as o (choice_of c.args.rules.now) plain (sym flag) is sets listing) c.lists_none.ensures
