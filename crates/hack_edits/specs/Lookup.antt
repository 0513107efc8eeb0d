-- What the tables of a manifest's tree hold.
use Rattle.std.specs.Prelude.{◌==◌, Bool, false, not, ◌&&◌, ◌||◌, List, [], length, codes, Option, is_some, option_and_then}
use Rattle.std.specs.Option.{option_map_or}
use Rattle.std.specs.List.{before_first, position_or_len}
use Rattle.toml.specs.Data.{Data, Members, no_members, member, get_member, as_str, as_array, as_table}
use Rattle.hack_base.specs.Names.{Name}
use Rattle.hack_manifest.specs.Manifest.{table_at, list_of_items}
use Rattle.hack_edits.specs.KeyPaths.{dev_key, target_key}
use Rattle.hack_base.specs.PathTexts.{is_slash}

-- some table among the members passes
abbrev pub some_table : (Members → Bool) → Members → Bool
some_table test no_members = false
some_table test (member x d ms) = option_map_or test (as_table d) false || some_table test ms

-- the tables for all platforms pass, which stand at the top, or those of some `target.X` do
abbrev pub for_some_platform : (Members → Bool) → Members → Bool
for_some_platform test ms = test ms || option_map_or (some_table test) (table_at target_key ms) false

-- the table of that name has the key
abbrev pub lists : Name → Name → Members → Bool
lists section key ms = option_map_or (λ t. is_some (get_member key t)) (table_at section ms) false

-- the table of that name, for all platforms or for some, has the key
abbrev pub depends : Name → Name → Members → Bool
depends section key ms = for_some_platform (lists section key) ms

-- some `target.X` has development dependencies
abbrev pub has_target_dev : Members → Bool
has_target_dev ms =
    option_map_or (some_table (λ t. is_some (get_member dev_key t))) (table_at target_key ms) false

-- that `target.X` has development dependencies
abbrev pub has_dev_under : Name → Members → Bool
has_dev_under name ms = option_map_or (lists name dev_key) (table_at target_key ms) false

-- there are development dependencies, for all platforms or for some
abbrev pub has_dev : Members → Bool
has_dev ms = for_some_platform (λ t. is_some (get_member dev_key t)) ms

-- the name is that of a dependency for development alone
abbrev pub is_dev_only : Name → Members → Bool
is_dev_only name ms = depends dev_key name ms
    && not (depends (codes "dependencies") name ms || depends (codes "build-dependencies") name ms)

-- a feature's text is removed: before its first `/` it names a dependency for development alone
abbrev pub is_dropped_text : Members → Name → Bool
is_dropped_text ms text = not (position_or_len is_slash text == length text) && is_dev_only (before_first is_slash text) ms

-- an array's item is a text that is removed
abbrev pub item_goes : Members → Data → Bool
item_goes old d = option_map_or (is_dropped_text old) (as_str d) false

-- the items of a value that is an array, else none
abbrev pub items_in : Option Data → List Data
items_in o = option_map_or list_of_items (option_and_then as_array o) []
