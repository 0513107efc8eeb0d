use Rattle.std.proofs.Common.{◌≡◌, ap, ◌∙◌, refl, option_map}
use Rattle.toml.specs.Data.{get_member}
use Rattle.toml.proofs.Views.{view-lookup}
use Rattle.toml.specs.View.{view, table_view}
use Rattle.hack_edits.specs.Tables.{remove_member}
use Rattle.hack_edits.specs.KeyPaths.{workspace_key}
use Rattle.hack_edits.proofs.TreeLemmas.{members_view-remove_entry}
use Rattle.hack_private_crates.proofs.workspace_tree.expected_tree.Goals as goal

pub returns : goal.returns
returns c =
    let found : option_map view c.remove-workspace.result ≡ get_member workspace_key (table_view c.args.table) = ap (option_map view) c.remove-workspace.ensures.value ∙ view-lookup workspace_key c.args.table.entries in
    let rest : table_view c.remove-workspace.new.self ≡ remove_member workspace_key (table_view c.args.table) = rw c.remove-workspace.ensures.entries (members_view-remove_entry workspace_key c.args.table.entries) in
    c.in_ok-put_back.ensures ∙ rw (c.in_ok-expected.ensures, found, rest) refl
