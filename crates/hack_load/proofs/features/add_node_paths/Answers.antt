use Rattle.hack_base.specs.Names.{Name}
use Rattle.std.proofs.Common.{◌∙◌, ap, sym, subst, List, map, OnOk}
use Rattle.std.specs.List.{list_any}
use Rattle.hack_metadata.specs.RecordViews.{dependency_view, kind_view}
use Rattle.hack_load.specs.Candidates.{is_normal}
use Rattle.hack_load.specs.Internal.{AddsPaths}
use Rattle.hack_load.proofs.FeatureLemmas.{adds-none, node-known, node-unknown}
use Rattle.hack_load.proofs.features.add_node_paths.Goals as goal

pub returns-in-Some : goal.returns-in-Some
returns-in-Some c =
    subst (λ (l : List (Name × Name)). OnOk c.add_package_paths.result (AddsPaths l c.args.found.now.items c.add_package_paths.new.found.items))
    (sym (node-known c.args.metadata.now.packages.items (map dependency_view c.args.dependencies.now) c.args.dep.now c.in-Some.package.now
    (sym (ap (λ l. list_any is_normal (map kind_view l)) c.as_slice.ensures.value) ∙ sym c.one_is_normal.ensures ∙ c.if-not-one_is_normal.false) (sym c.in-Some.ensures)))
    c.add_package_paths.ensures

pub returns-in-None : goal.returns-in-None
returns-in-None c =
    subst (λ (l : List (Name × Name)). AddsPaths l c.args.found.now.items c.args.found.now.items)
    (sym (node-unknown c.args.metadata.now.packages.items (map dependency_view c.args.dependencies.now) c.args.dep.now
    (sym (ap (λ l. list_any is_normal (map kind_view l)) c.as_slice.ensures.value) ∙ sym c.one_is_normal.ensures ∙ c.if-not-one_is_normal.false) (sym c.in-None.ensures)))
    (adds-none c.args.found.now.items)
