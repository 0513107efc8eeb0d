-- The tree of a manifest whose workspace is without private crates.
use Rattle.std.specs.Prelude.{◌||◌, Bool, List, [], ◌++◌, map, Some}
use Rattle.std.specs.List.{list_any}
use Rattle.toml.specs.Data.{Data, string, array, Members, get_member}
use Rattle.toml.specs.View.{items_of}
use Rattle.hack_base.specs.Names.{Name}
use Rattle.hack_manifest.specs.LineRuns.{has_some}
use Rattle.hack_edits.specs.KeyPaths.{workspace_key, members_key, exclude_key}
use Rattle.hack_edits.specs.Lookup.{items_in}
use Rattle.hack_private_crates.specs.Members.{item_led, members_left, excluded_folders}
use Rattle.hack_edits.specs.Tables.{remove_member, with_member, with_changed, in_table, in_array}

-- members are removed
abbrev pub takes : Name → List Name → Members → Bool
takes root ps ws = list_any (item_led root ps) (items_in (get_member members_key ws))

-- there is a member to take out, or a folder to exclude
abbrev pub has_work : Name → List Name → Members → Bool
has_work root ps ws = takes root ps ws || has_some (excluded_folders root ps ws)

-- with folders to exclude behind those that are excluded already, where there are any
abbrev pub with_exclude : List Name → Members → Members
with_exclude [] ms = ms
with_exclude ts ms =
    let all = items_in (get_member exclude_key ms) ++ map string ts in
    with_member exclude_key (array (items_of all)) (remove_member exclude_key ms)

-- the workspace that is expected: with the members that stay, and with the folders to exclude
abbrev pub workspace_left : Name → List Name → Members → Members
workspace_left root ps ws =
    let kept = λ (d : Data). Some (in_array (members_left root ps) d) in
    with_exclude (excluded_folders root ps ws) (with_changed members_key kept ws)

-- the tree that is expected: the old one with the workspace that is expected
abbrev pub tree_left : Name → List Name → Members → Members
tree_left root ps = with_changed workspace_key (λ d. Some (in_table (workspace_left root ps) d))
