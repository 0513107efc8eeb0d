use Rattle.std.proofs.Common.{◌≡◌, ◌++◌, map}
use Rattle.std.specs.Vec.Iter.{into_iter_items}
use Rattle.toml.specs.View.{view}
use Rattle.hack_base.specs.Names.{names_behind}
use Rattle.hack_private_crates.specs.Members.{members_left}
use Rattle.hack_private_crates.proofs.workspace_tree.kept_members.Given as goal

abbrev pub invariant-loop-item : goal.invariant-loop-item
invariant-loop-item l = map view l.kept.items ++ members_left l.private.root.now (names_behind l.left.items) (map view (into_iter_items l.item-iterator))
    ≡ members_left l.private.root.now (names_behind l.private.paths.now) (map view l.fn.items.items)
