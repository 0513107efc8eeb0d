use Rattle.std.proofs.Common.{◌≡◌, ◌∷◌, Some, sym, ◌∙◌, arith}
use Rattle.std.proofs.lemmas.Grind.{common_steps}
use Rattle.toml.specs.Data.{as_array}
use Rattle.toml.specs.View.{view, array_view}
use Rattle.hack_routes.specs.FeatureMap.{feature_map}
use Rattle.hack_manifest.proofs.FeatureLemmas.{Entry, so_far-start, so_far-turn}
use Rattle.hack_manifest.proofs.features.map_of.Goals as goal

pub features-init : goal.features-init
features-init c = (
  tt,
  tt,
  so_far-start c.new-map.result c.args.table.now.entries c.into_iter-name-iterator.result c.new-map.ensures.empty
      (c.into_iter-name-iterator.ensures.into_iter_gives ∙ c.iter-name-items.ensures.rest) c.iter-name-items.ensures.ordered,
)

pub features-preserved : goal.features-preserved
features-preserved c =
    let e : Entry = (c.in-Some.name.now, c.in-Some.value.now) in
    let first : c.features.name-iterator ≡ e ∷ c.next.new.self = grind (arith, common_steps) in
    let is : as_array (view e.1) ≡ Some (array_view c.in-Some-as_array.array.now) = sym (rw c.in-Some-as_array.is at c.as_array.ensures) in (
      tt,
      tt,
      so_far-turn _ (feature_map c.features.map) (feature_map c.put.new.map) c.features.name-iterator c.next.new.self e _ first is
          (rw c.as_str.ensures.value at c.in_ok-put.ensures) c.features.invariant.2,
    )
