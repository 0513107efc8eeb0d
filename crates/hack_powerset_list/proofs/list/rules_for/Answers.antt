use Rattle.std.proofs.Common.{◌∙◌, List, [], length, sym, ap}
use Rattle.std.proofs.lemmas.List.{length-map}
use Rattle.hack_base.specs.Names.{Name}
use Rattle.hack_features.specs.Feature.{group_of, groups_of}
use Rattle.hack_routes.specs.FeatureMap.{FeatureMap, feature_map}
use Rattle.hack_features.specs.Rules.{Choice, unlifted_groups}
use Rattle.hack_features.specs.ChoiceView.{choice}
use Rattle.hack_features.proofs.CandidateLemmas.{length-candidates_of}
use Rattle.hack_powerset_list.proofs.ListLemmas.{unlifted-none}
use Rattle.hack_powerset_list.proofs.list.rules_for.Goals as goal

pub returns-clause-choice : goal.returns-clause-choice
returns-clause-choice c =
    let w = c.args.wishes.now in
    let all = c.args.candidates.now in
    let m : FeatureMap = feature_map c.args.found.now in
    let made_of : List (List Name) → List (List Name) → Choice = λ names exclusive. record {
      map = m;
      candidates = names;
      depth = w.depth;
      at_least_one_of = groups_of w.at_least_one_of.items;
      exclusive = exclusive;
    } in
    c.in_ok-rules.ensures.choice
    ∙ ap (λ x. choice all w.depth x c.as_slice-2.result.now c.args.found.now []) c.as_slice.ensures.value
    ∙ ap (λ x. choice all w.depth w.at_least_one_of.items x c.args.found.now []) c.as_slice-2.ensures.value
    ∙ ap (λ names. made_of names (unlifted_groups (groups_of w.mutually_exclusive.items) [])) c.requires
    ∙ ap (made_of (groups_of c.args.features.now)) (unlifted-none (groups_of w.mutually_exclusive.items))

pub returns-clause-size : goal.returns-clause-size
returns-clause-size c =
    c.in_ok-rules.ensures.size ∙ sym (length-candidates_of c.args.candidates.now) ∙ ap length c.requires ∙ length-map c.args.features.now group_of
