use Rattle.std.proofs.Common.{◌≡◌, drop}
use Rattle.std.specs.Prelude.{◌||◌, fold}
use Rattle.std.specs.List.{list_any}
use Rattle.toml.specs.View.{items_view}
use Rattle.hack_manifest.specs.Manifest.{list_of_items}
use Rattle.hack_base.specs.Names.{names_behind}
use Rattle.hack_private_crates.specs.Members.{item_led, unled_by}
use Rattle.hack_private_crates.proofs.members.choose.Given as goal

abbrev pub invariant-items : goal.invariant-items
invariant-items l = record {
  some : (l.some || list_any (item_led l.private.root.now (names_behind l.left.items)) (list_of_items (items_view (drop l.item-index l.item-items))))
      ≡ list_any (item_led l.private.root.now (names_behind l.private.paths.now)) (list_of_items (items_view l.item-items));
  paths : fold (unled_by l.private.root.now) (names_behind l.left.items) (list_of_items (items_view (drop l.item-index l.item-items)))
      ≡ fold (unled_by l.private.root.now) (names_behind l.private.paths.now) (list_of_items (items_view l.item-items));
}
