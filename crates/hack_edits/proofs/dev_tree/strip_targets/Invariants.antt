use Rattle.std.proofs.Common.{◌≡◌}
use Rattle.toml.specs.Data.{no_members}
use Rattle.toml.specs.View.{members_view, table_view}
use Rattle.hack_edits.specs.DevTree.{unless_empty}
use Rattle.hack_edits.specs.KeyPaths.{dev_key}
use Rattle.hack_edits.specs.Tables.{put_each, in_table, remove_member}
use Rattle.hack_edits.proofs.dev_tree.strip_targets.Given as goal

abbrev pub invariant-targets : goal.invariant-targets
invariant-targets l =
    goal.iterator-targets.can_next l.name-iterator ×
    goal.iterator-targets.is_finite l.name-iterator ×
    (put_each (λ d. unless_empty (in_table (remove_member dev_key) d)) (table_view l.kept) (members_view l.name-iterator)
    ≡ put_each (λ d. unless_empty (in_table (remove_member dev_key) d)) no_members (table_view l.fn.targets))
