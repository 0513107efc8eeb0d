use Rattle.std.proofs.Common.{◌≡◌, length, drop}
use Rattle.toml.specs.View.{items_view, members_view}
use Rattle.hack_edits.specs.InternalTreeEquality.{same_items, same_members}
use Rattle.hack_edits.proofs.same.+same.Given as goal

-- what is left is the same exactly where all is
abbrev pub invariant-same_array-items : goal.invariant-same_array-items
invariant-same_array-items l =
    (length l.a.items ≡ length l.b.items)
    × (same_items (items_view (drop l.i l.a.items)) (items_view (drop l.i l.b.items)) ≡ same_items (items_view l.a.items) (items_view l.b.items))

abbrev pub invariant-same_table-members : goal.invariant-same_table-members
invariant-same_table-members l =
    (goal.iterator-same_table-members).can_next l.key-iterator ×
    (goal.iterator-same_table-members).is_finite l.key-iterator ×
    (same_members (members_view l.key-iterator) (members_view l.others) ≡ same_members (members_view l.a.entries) (members_view l.b.entries))
