use Rattle.std.proofs.Common.{ap, ◌∙◌}
use Rattle.std.specs.Map.Iter.{deref}
use Rattle.std.proofs.lemmas.Map.Iter.{rest_more}
use Rattle.hack_base.specs.Names.{names_of}
use Rattle.hack_routes.specs.FeatureMap.{feature_map}
use Rattle.hack_load.proofs.FeatureLemmas.{keys-shown, grown-start, grown-turn, grown-end}
use Rattle.hack_load.proofs.features.add_paths.Goals as goal

pub loop-feature-init : goal.loop-feature-init
loop-feature-init c =
    grown-start c.args.dep.now (feature_map c.args.features.now) c.into_iter-feature-iterator.result c.args.found.now.items
    (ap names_of (c.into_iter-feature-iterator.ensures.into_iter_gives ∙ c.keys-feature-items.ensures.rest) ∙ keys-shown c.args.features.now.entries)

pub loop-feature-preserved : goal.loop-feature-preserved
loop-feature-preserved c =
    grown-turn c.args.dep.now (feature_map c.args.features.now) c.loop-feature.feature-iterator c.next.new.self c.in-Some.feature.now c.in_ok-path.field-0 c.args.found.now.items c.loop-feature.found.items c.push.new.self.items
    (rest_more deref c.loop-feature.feature-iterator c.next.new.self c.next.result c.in-Some.feature c.in-Some.is c.next.ensures.steps)
    (rw c.as_str.ensures.value at c.in_ok-path.ensures)
    c.in_ok-push.ensures.items
    c.loop-feature.invariant

pub returns : goal.returns
returns c = grown-end c.args.dep.now (feature_map c.args.features.now) c.loop-feature.feature-iterator c.args.found.now.items c.loop-feature.found.items c.in-None.ensures.steps.0 c.loop-feature.invariant
