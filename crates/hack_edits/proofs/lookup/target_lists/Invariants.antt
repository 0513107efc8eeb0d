use Rattle.std.proofs.Common.{◌≡◌}
use Rattle.toml.specs.View.{table_view, members_view}
use Rattle.hack_edits.specs.Lookup.{some_table, lists}
use Rattle.hack_edits.proofs.lookup.target_lists.Given as goal

-- some table that is left lists the key exactly where some table does
abbrev pub invariant-targets : goal.invariant-targets
invariant-targets l =
    (goal.iterator-targets).can_next l.value-iterator ×
    (goal.iterator-targets).is_finite l.value-iterator ×
    (some_table (lists l.section l.key) (members_view l.value-iterator) ≡ some_table (lists l.section l.key) (table_view l.targets))
