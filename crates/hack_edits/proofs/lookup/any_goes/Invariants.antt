use Rattle.std.proofs.Common.{◌≡◌, drop}
use Rattle.toml.specs.View.{table_view, items_view}
use Rattle.std.specs.List.{list_any}
use Rattle.hack_manifest.specs.Manifest.{list_of_items}
use Rattle.hack_edits.specs.Lookup.{item_goes}
use Rattle.hack_edits.proofs.lookup.any_goes.Given as goal

-- some item that is left is to be removed exactly where some item is
abbrev pub invariant-items : goal.invariant-items
invariant-items l =
    list_any (item_goes (table_view l.old)) (list_of_items (items_view (drop l.value-index l.value-items)))
    ≡ list_any (item_goes (table_view l.old)) (list_of_items (items_view l.value-items))
