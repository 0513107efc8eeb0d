use Rattle.std.proofs.Common.{◌≡◌, ap, ◌∙◌, option_map}
use Rattle.toml.specs.Data.{get_member}
use Rattle.toml.proofs.Views.{view-lookup}
use Rattle.toml.specs.View.{view, table_view}
use Rattle.hack_edits.specs.Tables.{remove_member}
use Rattle.hack_manifest.specs.Manifest.{features_key}
use Rattle.hack_edits.proofs.AsideLemmas.{with_features-aside}
use Rattle.hack_edits.proofs.TreeLemmas.{members_view-remove_entry}
use Rattle.hack_edits.proofs.dev_tree.drop_texts.Goals as goal

pub returns : goal.returns
returns c =
    let found : option_map view c.remove-features.result ≡ get_member features_key (table_view c.args.old) = ap (option_map view) c.remove-features.ensures.value ∙ view-lookup features_key c.args.old.entries in
    let rest : table_view c.remove-features.new.self ≡ remove_member features_key (table_view c.args.old) = rw c.remove-features.ensures.entries (members_view-remove_entry features_key c.args.old.entries) in
    let old = table_view c.args.old in
    c.in_ok-put_back.ensures ∙ rw (c.in_ok-kept.ensures, found, rest) (with_features-aside old (get_member features_key old) (remove_member features_key old))
