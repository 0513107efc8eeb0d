use Rattle.std.proofs.Common.{◌≡◌, Some}
use Rattle.toml.specs.Data.{no_members}
use Rattle.toml.specs.View.{members_view, table_view}
use Rattle.hack_edits.specs.DevTree.{items_left}
use Rattle.hack_edits.specs.Tables.{put_each, in_array}
use Rattle.hack_edits.proofs.dev_tree.strip_arrays.Given as goal

abbrev pub invariant-features : goal.invariant-features
invariant-features l =
    goal.iterator-features.can_next l.name-iterator ×
    goal.iterator-features.is_finite l.name-iterator ×
    (put_each (λ d. Some (in_array (items_left (table_view l.old)) d)) (table_view l.kept) (members_view l.name-iterator)
    ≡ put_each (λ d. Some (in_array (items_left (table_view l.old)) d)) no_members (table_view l.fn.features))
