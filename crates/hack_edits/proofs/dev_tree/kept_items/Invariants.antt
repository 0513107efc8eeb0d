use Rattle.std.proofs.Common.{◌≡◌, ◌++◌, map}
use Rattle.std.specs.Vec.Iter.{into_iter_items}
use Rattle.toml.specs.View.{view, table_view}
use Rattle.hack_edits.specs.DevTree.{items_left}
use Rattle.hack_edits.proofs.dev_tree.kept_items.Given as goal

-- what was kept, and what is left of the rest, is what is left of all
abbrev pub invariant-loop-item : goal.invariant-loop-item
invariant-loop-item l =
    map view l.kept.items ++ items_left (table_view l.old) (map view (into_iter_items l.item-iterator))
    ≡ items_left (table_view l.old) (map view l.fn.items.items)
