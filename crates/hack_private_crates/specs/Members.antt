-- Which members of a workspace are removed, and which paths have to be excluded.
use Rattle.std.specs.Prelude.{Bool, false, not, if◌then◌else◌, List, [], ◌∷◌, codes, filter, fold, map}
use Rattle.std.specs.List.{list_any}
use Rattle.std.specs.Option.{option_map_or}
use Rattle.std.specs.BTreeSet.{insert_key}
use Rattle.std.specs.Cmp.Lexicographic.{slice_cmp}
use Rattle.std.specs.Ordering.{nat_cmp}
use Rattle.std.specs.Str.{bytes_eq}
use Rattle.toml.specs.Data.{Data, Members, get_member, as_str}
use Rattle.hack_base.specs.Names.{Name}
use Rattle.hack_base.specs.PathTexts.{join_of, parent_of, normal_of}
use Rattle.hack_edits.specs.KeyPaths.{members_key}
use Rattle.hack_edits.specs.Lookup.{items_in}

-- the paths in byte order, each once
abbrev pub in_order : List Name → List Name
in_order ps = fold (insert_key (slice_cmp nat_cmp)) [] ps

-- a member's text leads to the path of a manifest
unfoldable pub leads : Name → Name → Name → Bool
leads root m path =
    bytes_eq (normal_of (join_of (join_of root m) (codes "Cargo.toml"))) (normal_of path)

-- the item is a text that leads to some path
abbrev pub item_led : Name → List Name → Data → Bool
item_led root ps d = option_map_or (λ m. list_any (leads root m) ps) (as_str d) false

-- the paths to which the item doesn't lead
abbrev pub unled_by : Name → List Name → Data → List Name
unled_by root ps d = option_map_or (λ m. filter (λ p. not (leads root m p)) ps) (as_str d) ps

-- the items that stay: for each path the first text that leads there is removed
abbrev pub members_left : Name → List Name → List Data → List Data
members_left root ps [] = []
members_left root ps (d ∷ ds) =
    let more = members_left root (unled_by root ps d) ds in
    if item_led root ps d then more else d ∷ more

-- the folders that have to be excluded: those of the paths to which no member leads
abbrev pub excluded_folders : Name → List Name → Members → List Name
excluded_folders root ps ws =
    map parent_of (fold (unled_by root) ps (items_in (get_member members_key ws)))
