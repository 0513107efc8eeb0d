use Rattle.std.proofs.Common.{◌≡◌, ap, ◌∙◌, refl, option_map}
use Rattle.toml.specs.Data.{get_member}
use Rattle.toml.proofs.Views.{view-lookup}
use Rattle.toml.specs.View.{view, table_view}
use Rattle.hack_edits.specs.Tables.{remove_member}
use Rattle.hack_edits.specs.KeyPaths.{target_key}
use Rattle.hack_edits.proofs.TreeLemmas.{members_view-remove_entry}
use Rattle.hack_edits.proofs.dev_tree.tidy.Goals as goal

pub returns : goal.returns
returns c =
    let found : option_map view c.remove-target.result ≡ get_member target_key (table_view c.without-top.result) = ap (option_map view) c.remove-target.ensures.value ∙ view-lookup target_key c.without-top.result.entries in
    let rest : table_view c.remove-target.new.self ≡ remove_member target_key (table_view c.without-top.result) = rw c.remove-target.ensures.entries (members_view-remove_entry target_key c.without-top.result.entries) in
    c.in_ok-put_back.ensures ∙ rw (c.in_ok-kept.ensures, found, rest, c.without-top.ensures) refl
