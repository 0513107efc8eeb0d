use Rattle.std.proofs.Common.{◌≡◌}
use Rattle.std.specs.Prelude.{is_some}
use Rattle.toml.specs.Data.{get_member}
use Rattle.toml.specs.View.{table_view, members_view}
use Rattle.hack_edits.specs.Lookup.{some_table}
use Rattle.hack_edits.specs.KeyPaths.{dev_key}
use Rattle.hack_edits.proofs.lookup.target_holds_dev.Given as goal

-- some table that is left has development dependencies exactly where some table does
abbrev pub invariant-targets : goal.invariant-targets
invariant-targets l =
    (goal.iterator-targets).can_next l.value-iterator ×
    (goal.iterator-targets).is_finite l.value-iterator ×
    (some_table (λ t. is_some (get_member dev_key t)) (members_view l.value-iterator)
    ≡ some_table (λ t. is_some (get_member dev_key t)) (table_view l.targets))
