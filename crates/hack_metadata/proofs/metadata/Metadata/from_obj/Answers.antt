use Rattle.std.proofs.Common.{map, ap, ◌∙◌}
use Rattle.serde_json.specs.View.{items_view, members_view}
use Rattle.hack_metadata.specs.MetadataReading.{place_of}
use Rattle.hack_metadata.specs.RecordViews.{package_view}
use Rattle.hack_metadata.specs.Internal.{place_in}
use Rattle.hack_metadata.proofs.KnownLemmas.{packages-bounds}
use Rattle.hack_metadata.proofs.WholeLemmas.{whole-behind}
use Rattle.hack_metadata.proofs.metadata.Metadata.from_obj.Goals as goal

pub returns : goal.returns
returns c =
    whole-behind c.args.cargo_version (members_view c.args.object.entries) (members_view c.remove_array.new.self.entries) (items_view c.in_ok-list.list.items) (map package_view c.in_ok-packages.packages.items) (place_in c.in_ok-ids.ids) c.with_packages.result
    c.in_ok-list.ensures.value c.in_ok-packages.ensures
    (c.in_ok-ids.ensures ∙ ap (λ ps. place_of (map package_view ps)) c.as_slice.ensures.value) c.remove_array.ensures.others c.with_packages.ensures

pub with_packages-requires : goal.with_packages-requires
with_packages-requires c =
    packages-bounds c.in_ok-packages.packages.items (place_in c.in_ok-ids.ids) (c.in_ok-ids.ensures ∙ ap (λ ps. place_of (map package_view ps)) c.as_slice.ensures.value)
