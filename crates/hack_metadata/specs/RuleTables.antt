-- What is read of the rules that a manifest has in its metadata: the table `cargo-hack`, or the name
-- of its first fault. All known keys are read in this order, and then the others.
use Rattle.std.specs.Prelude.{ℕ, Bool, true, false, List, [], ◌∷◌, Option, Some, None, Ok, Err, codes, length, nat_le, option_map, option_and_then, if◌then◌else◌}
use Rattle.std.specs.Bool.{then_some}
use Rattle.std.specs.List.{list_any}
use Rattle.std.specs.Option.{ok_or, option_map_or}
use Rattle.std.specs.Str.{bytes_eq}
use Rattle.serde_json.specs.Data.{Data, null, boolean, number, string, array, object, Items, no_items, item, Members, no_members, member}
use Rattle.serde_json.specs.Find.{get, get_member, as_bool, as_number, as_array, as_object, as_u64}
use Rattle.hack_base.specs.FieldReadings.{FieldReading, ◌>>=◌}
use Rattle.hack_base.specs.Names.{Name}
use Rattle.hack_metadata.specs.Fields.{texts_of_items}
use Rattle.hack_metadata.specs.Records.{RulesRecord, no_rules}

-- ---- what a key may hold

-- a list of names
abbrev pub names_from : Data → Option (List Name)
names_from d = option_and_then texts_of_items (as_array d)

-- a group: a list of two names or more
abbrev pub group_from : Data → Option (List Name)
group_from d = option_and_then (λ names. then_some (nat_le 2 (length names)) names) (names_from d)

-- the groups that items are, none where one of them is no group
abbrev pub groups_of_items : Items → Option (List (List Name))
groups_of_items no_items = Some []
groups_of_items (item d ds) = option_and_then (λ group. option_map (λ groups. group ∷ groups) (groups_of_items ds)) (group_from d)

-- a list of groups
abbrev pub groups_from : Data → Option (List (List Name))
groups_from d = option_and_then groups_of_items (as_array d)

-- the names, where there are any
abbrev pub filled_names : List Name → Option (List Name)
filled_names [] = None
filled_names (x ∷ xs) = Some (x ∷ xs)

-- which optional dependencies are features: all of them (an empty list), none, or those of a list
abbrev pub optional_from : Data → Option (Option (List Name))
optional_from null = None
optional_from (boolean true) = Some (Some [])
optional_from (boolean false) = Some None
optional_from (number n) = None
optional_from (string text) = None
optional_from (array ds) = option_map filled_names (texts_of_items ds)
optional_from (object ms) = None

-- a whole number that isn't below the least one
abbrev pub number_from : ℕ → Data → Option (Option ℕ)
number_from least d = option_and_then (λ n. then_some (nat_le least n) (Some n)) (option_and_then as_u64 (as_number d))

-- ---- the table

-- what a key holds, in its form; a key that isn't there says `absent`
abbrev pub key_in : {A : Type 0} → (Data → Option A) → A → Name → Members → FieldReading A
key_in form absent key ms = ok_or (option_map_or form (get_member key ms) (Some absent)) key

-- what the keys say that are no lists
pub record LimitsRecord : Type 0 where
  pub no_default : Bool
  pub all_features : Bool
  pub depth : Option ℕ
  pub strength : Option ℕ

-- these keys
abbrev pub read_limits : Members → FieldReading LimitsRecord
read_limits ms =
    key_in as_bool false (codes "exclude-no-default-features") ms >>= λ no_default.
    key_in as_bool false (codes "exclude-all-features") ms >>= λ all_features.
    key_in (number_from 0) None (codes "depth") ms >>= λ depth.
    key_in (number_from 1) None (codes "strength") ms >>= λ strength.
    Ok (record { no_default = no_default; all_features = all_features; depth = depth; strength = strength })

-- what all known keys say
abbrev pub read_known : Members → FieldReading RulesRecord
read_known ms =
    key_in names_from [] (codes "exclude-features") ms >>= λ excluded.
    key_in groups_from [] (codes "mutually-exclusive-features") ms >>= λ exclusive.
    key_in groups_from [] (codes "at-least-one-of") ms >>= λ needed.
    key_in groups_from [] (codes "group-features") ms >>= λ grouped.
    key_in optional_from None (codes "optional-deps") ms >>= λ optional.
    read_limits ms >>= λ limits.
    Ok (record { exclude_features = excluded; mutually_exclusive_features = exclusive; at_least_one_of = needed; group_features = grouped; optional_deps = optional; exclude_no_default_features = limits.no_default; exclude_all_features = limits.all_features; depth = limits.depth; strength = limits.strength })

-- the known keys
abbrev pub rule_keys : List Name
rule_keys =
    codes "exclude-features" ∷ codes "mutually-exclusive-features" ∷ codes "at-least-one-of"
    ∷ codes "group-features" ∷ codes "optional-deps" ∷ codes "exclude-no-default-features"
    ∷ codes "exclude-all-features" ∷ codes "depth" ∷ codes "strength" ∷ []

-- a key is a known one
abbrev pub is_rule_key : Name → Bool
is_rule_key key = list_any (bytes_eq key) rule_keys

-- the first key that isn't known
abbrev pub other_key : Members → Option Name
other_key no_members = None
other_key (member key d ms) = if is_rule_key key then other_key ms else Some key

-- what a table says: its known keys, and no others
abbrev pub read_rules : Members → FieldReading RulesRecord
read_rules ms = read_known ms >>= λ rules. option_map_or Err (other_key ms) (Ok rules)

-- ---- where it stands

-- the table `cargo-hack` of a manifest's `metadata`, which others use too
abbrev pub table_in : Members → Option Data
table_in ms = option_and_then (get (codes "cargo-hack")) (get_member (codes "metadata") ms)

-- what `cargo-hack` says, which is to be a table
abbrev pub read_table : Data → FieldReading RulesRecord
read_table d = ok_or (as_object d) (codes "cargo-hack") >>= read_rules

-- the rules of a package or a workspace: those of its table, where it has one
abbrev pub rules_in : Members → FieldReading RulesRecord
rules_in ms = option_map_or read_table (table_in ms) (Ok no_rules)
