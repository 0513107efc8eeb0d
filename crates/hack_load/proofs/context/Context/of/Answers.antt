use Rattle.std.proofs.Common.{map, ◌∙◌}
use Rattle.std.specs.Prelude.{option_map}
use Rattle.std.proofs.lemmas.List.{length-map}
use Rattle.hack_metadata.specs.RecordViews.{package_view, place_at}
use Rattle.hack_metadata.specs.MetadataView.{metadata_view}
use Rattle.hack_load.specs.Located.{has_manifest}
use Rattle.hack_load.proofs.BuildLemmas.{features-long}
use Rattle.hack_load.proofs.ContextLemmas.{contains-place, found-contains}
use Rattle.hack_load.proofs.context.Context.of.Goals as goal

pub invariant_of-result : goal.invariant_of-result
invariant_of-result c =
    let m = c.args.loaded.metadata in
    let ms = map place_at m.workspace_members.items in
    let current = option_map place_at c.current_package-current_package.result in
    record {
      each_manifest = c.args.loaded.each;
      each_features = features-long (metadata_view m) c.args.args.include_deps_features ms c.deref.result.now c.in-Ok.features.items c.in-Ok.ensures.ok ∙ length-map m.workspace_members.items place_at;
      current = contains-place ms current (found-contains (has_manifest (map package_view m.packages.items) c.as_str.result.now) ms current c.current_package-current_package.ensures);
    }
