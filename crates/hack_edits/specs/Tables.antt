-- Tables with a key taken out, put in, or with another value.
use Rattle.std.specs.Prelude.{if◌then◌else◌, List, Option, option_and_then}
use Rattle.std.specs.Option.{option_map_or}
use Rattle.std.specs.Ordering.{nat_cmp, match_ordering}
use Rattle.std.specs.Cmp.Lexicographic.{slice_cmp}
use Rattle.toml.specs.Data.{Data, array, table, Members, no_members, member, get_member, same_key}
use Rattle.toml.specs.View.{items_of}
use Rattle.hack_base.specs.Names.{Name}
use Rattle.hack_manifest.specs.Manifest.{list_of_items}

-- the members without one
abbrev pub remove_member : Name → Members → Members
remove_member k no_members = no_members
remove_member k (member l d ms) = if same_key k l then ms else member l d (remove_member k ms)

-- the members, with d at k
abbrev pub with_member : Name → Data → Members → Members
with_member k d no_members = member k d no_members
with_member k d (member l e ms) = match_ordering (slice_cmp nat_cmp k l) (member k d (member l e ms)) (member l d ms) (member l e (with_member k d ms))

-- the members, with the value at k, where there is a value
abbrev pub with_value : Name → Option Data → Members → Members
with_value k o ms = option_map_or (λ d. with_member k d ms) o ms

-- the members, with what f makes of the value at k in its place, where it makes something of it
abbrev pub with_changed : Name → (Data → Option Data) → Members → Members
with_changed k f ms = with_value k (option_and_then f (get_member k ms)) (remove_member k ms)

-- the members, with what f makes of each of these at its key, where it makes something of it
abbrev pub put_each : (Data → Option Data) → Members → Members → Members
put_each f ms no_members = ms
put_each f ms (member k d more) = put_each f (with_value k (f d) ms) more

-- f of the members of a table; another value stays
abbrev pub in_table : (Members → Members) → Data → Data
in_table f (table ms) = table (f ms)
in_table f d = d

-- f of the items of an array; another value stays
abbrev pub in_array : (List Data → List Data) → Data → Data
in_array f (array ds) = array (items_of (f (list_of_items ds)))
in_array f d = d
