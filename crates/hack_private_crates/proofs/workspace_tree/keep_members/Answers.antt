use Rattle.std.proofs.Common.{◌≡◌, ap, ◌∙◌, refl, option_map}
use Rattle.toml.specs.Data.{get_member}
use Rattle.toml.proofs.Views.{view-lookup}
use Rattle.toml.specs.View.{view, table_view}
use Rattle.hack_edits.specs.Tables.{remove_member}
use Rattle.hack_edits.specs.KeyPaths.{members_key}
use Rattle.hack_edits.proofs.TreeLemmas.{members_view-remove_entry}
use Rattle.hack_private_crates.proofs.workspace_tree.keep_members.Goals as goal

pub returns : goal.returns
returns c =
    let found : option_map view c.remove-members.result ≡ get_member members_key (table_view c.args.workspace) = ap (option_map view) c.remove-members.ensures.value ∙ view-lookup members_key c.args.workspace.entries in
    let rest : table_view c.remove-members.new.self ≡ remove_member members_key (table_view c.args.workspace) = rw c.remove-members.ensures.entries (members_view-remove_entry members_key c.args.workspace.entries) in
    c.in_ok-put_back.ensures ∙ rw (c.in_ok-kept.ensures, found, rest) refl
