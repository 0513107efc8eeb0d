use Rattle.std.proofs.Common.{◌≡◌, ◌++◌, ap, ◌∙◌, option_map, sym, string_bytes, map}
use Rattle.toml.specs.Data.{get_member, string}
use Rattle.toml.proofs.Views.{view-lookup, view-Array}
use Rattle.toml.specs.View.{view, items_of, table_view, array_view}
use Rattle.hack_edits.specs.Tables.{remove_member}
use Rattle.hack_edits.specs.KeyPaths.{exclude_key}
use Rattle.hack_base.specs.PathTexts.{parent_of}
use Rattle.hack_base.specs.Names.{names_behind}
use Rattle.hack_edits.proofs.ItemLemmas.{items_of-list_of}
use Rattle.hack_private_crates.proofs.PrivateLemmas.{excluded}
use Rattle.hack_edits.proofs.TreeLemmas.{members_view-remove_entry}
use Rattle.hack_private_crates.proofs.workspace_tree.put_exclude.Goals as goal

pub returns : goal.returns
returns c =
    let found : option_map view c.remove-old.result ≡ get_member exclude_key (table_view c.args.workspace) = ap (option_map view) c.remove-old.ensures.value ∙ view-lookup exclude_key c.args.workspace.entries in
    let rest : table_view c.remove-old.new.self ≡ remove_member exclude_key (table_view c.args.workspace) = rw c.remove-old.ensures.entries (members_view-remove_entry exclude_key c.args.workspace.entries) in
    excluded (map parent_of (names_behind c.args.paths.now)) (table_view c.args.workspace) (table_view c.remove-old.new.self) _ (string_bytes c.in_ok-key.key) _ (array_view c.in_ok-items.items) (option_map view c.remove-old.result)
    (sym c.has_paths.ensures ∙ c.if-not-has_paths.false) c.in_ok-put_at.ensures c.in_ok-key.ensures.ok (view-Array c.in_ok-items.items)
    (sym (items_of-list_of (array_view c.in_ok-items.items)) ∙ ap items_of (c.in_ok-items.ensures ∙ ap (λ ds. ds ++ map string (map parent_of (names_behind c.args.paths.now))) c.into_items.ensures)) found rest
