-- What stays of a manifest's tree without its development dependencies.
use Rattle.std.specs.Prelude.{◌&&◌, Bool, false, not, if◌then◌else◌, List, filter, Option, Some, None}
use Rattle.std.specs.Option.{option_map_or}
use Rattle.toml.specs.Data.{Data, table, Members, no_members}
use Rattle.hack_manifest.specs.Manifest.{features_key}
use Rattle.hack_edits.specs.KeyPaths.{dev_key, target_key}
use Rattle.hack_edits.specs.Lookup.{has_dev, item_goes}
use Rattle.hack_edits.specs.InternalTreeEquality.{same, same_members}
use Rattle.hack_edits.specs.Tables.{remove_member, with_changed, put_each, in_table, in_array}

-- ---- the features

-- the items without the texts that are removed
abbrev pub items_left : Members → List Data → List Data
items_left old ds = filter (λ d. not (item_goes old d)) ds

-- a tree without the features' texts that are removed
abbrev pub without_texts : Members → Members
without_texts old =
    let kept = λ (d : Data). Some (in_array (items_left old) d) in
    with_changed features_key (λ d. Some (in_table (put_each kept no_members) d)) old

-- ---- the tables

-- the value, unless it is an empty table
abbrev pub unless_empty : Data → Option Data
unless_empty d = if same d (table no_members) then None else Some d

-- a tree without development dependencies, and without empty tables at and under `target`
abbrev pub tidied_tree : Members → Members
tidied_tree ms =
    let kept = λ (d : Data). unless_empty (in_table (remove_member dev_key) d) in
    let target = λ (d : Data). unless_empty (in_table (put_each kept no_members) d) in
    with_changed target_key target (remove_member dev_key ms)

-- ---- a tree compared with another

-- a tree is what stays of the old one
abbrev pub is_what_stays : Members → Members → Bool
is_what_stays old new = same_members (tidied_tree (without_texts old)) (tidied_tree new)

-- a text is read as what stays of a tree, and has no development dependencies
abbrev pub reads_as_left : Members → Option Members → Bool
reads_as_left old o = option_map_or (λ new. not (has_dev new) && is_what_stays old new) o false
