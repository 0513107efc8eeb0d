use Rattle.std.proofs.Common.{◌≡◌, ◌++◌, drop, map}
use Rattle.toml.specs.Data.{string}
use Rattle.toml.specs.View.{items_view}
use Rattle.hack_manifest.specs.Manifest.{list_of_items}
use Rattle.hack_base.specs.PathTexts.{parent_of}
use Rattle.hack_base.specs.Names.{names_behind}
use Rattle.hack_private_crates.proofs.workspace_tree.push_folders.Given as goal

abbrev pub invariant-loop-path : goal.invariant-loop-path
invariant-loop-path l = list_of_items (items_view l.all.items) ++ map string (map parent_of (names_behind (drop l.path-index l.paths)))
    ≡ list_of_items (items_view l.fn.items.items) ++ map string (map parent_of (names_behind l.paths))
