use Rattle.std.proofs.Common.{◌∙◌, ◌++◌, ◌∷◌, [], ap, sym, take, List}
use Rattle.std.proofs.lemmas.List.{map-append}
use Rattle.hack_base.specs.Names.{Name}
use Rattle.hack_base.proofs.Steps.{seen-next}
use Rattle.hack_features.specs.Feature.{group_of, groups_of}
use Rattle.hack_planner.proofs.package_rules.feature_copies.Goals as goal

pub loop-feature-preserved : goal.loop-feature-preserved
loop-feature-preserved c =
    let made = c.loop-feature.made.items in
    let features = c.args.features.now in
    let i = c.loop-feature.feature-index in
    ap groups_of c.in_ok-push.ensures.items ∙ map-append group_of made (c.in_ok-copy_feature.field-0 ∷ [])
    ∙ ap (λ (l : List (List Name)). l ++ group_of c.in_ok-copy_feature.field-0 ∷ []) c.loop-feature.invariant
    ∙ ap (λ (g : List Name). take i (groups_of features) ++ g ∷ []) c.in_ok-copy_feature.ensures
    ∙ sym (seen-next group_of features i c.feature-item.result c.loop-feature-test.true c.feature-item.is)
