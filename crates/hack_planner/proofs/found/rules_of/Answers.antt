use Rattle.std.proofs.Common.{◌≡◌, ◌∙◌, List, [], ap}
use Rattle.std.proofs.lemmas.Result.{IfOk-weaker}
use Rattle.hack_planner.specs.Kinds.{choice_among}
use Rattle.hack_metadata.specs.RecordViews.{package_view}
use Rattle.hack_planner.specs.PackageRules.{PackageRulesRecord, rules_in}
use Rattle.hack_base.specs.Names.{Name}
use Rattle.hack_features.specs.Feature.{candidates_of, groups_of}
use Rattle.hack_routes.specs.FeatureMap.{FeatureMap, feature_map}
use Rattle.hack_features.specs.Rules.{Choice, unlifted_groups}
use Rattle.hack_features.specs.View.{choice_of}
use Rattle.hack_features.specs.ChoiceView.{choice}
use Rattle.hack_planner.proofs.CandidateLemmas.{none-lifted}
use Rattle.hack_planner.proofs.found.rules_of.Goals as goal

pub returns-clause-choice : goal.returns-clause-choice
returns-clause-choice c =
    let w : PackageRulesRecord = (rules_in c.args.asked.now) in
    let m : FeatureMap = feature_map c.args.pkg.now.features in
    let names = candidates_of c.args.all.now in
    let made_of : List (List Name) → List (List Name) → Choice = λ one exclusive. record { map = m; candidates = names; depth = w.depth; at_least_one_of = one; exclusive = exclusive } in
    IfOk-weaker c.new.result (λ r. choice_of r ≡ choice c.args.all.now w.depth c.as_slice.result.now c.as_slice-2.result.now c.args.pkg.now.features []) (λ r. choice_of r ≡ choice_among w (package_view c.args.pkg.now) names)
    (λ r made. made
    ∙ ap (λ l. made_of (groups_of l) (unlifted_groups (groups_of c.as_slice-2.result.now) [])) c.as_slice.ensures.value
    ∙ ap (λ l. made_of w.at_least_one_of (unlifted_groups (groups_of l) [])) c.as_slice-2.ensures.value
    ∙ ap (made_of w.at_least_one_of) (none-lifted w.exclusive))
    c.new.ensures.choice
