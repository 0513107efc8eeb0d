-- What a package's rules are under `--package-rules`: the call's, those of the package's own table
-- and those of the workspace's.
use Rattle.std.specs.Prelude.{◌==◌, ◌++◌, ◌&&◌, ◌||◌, [], ◌∷◌, ℕ, List, Bool, false, not, Option, None, Some, Ok, Err, filter, flat_map, fold, length, map, option_map, unwrap_or, if◌then◌else◌}
use Rattle.std.specs.List.{find, list_all, list_any}
use Rattle.std.specs.Option.{is_some, option_or}
use Rattle.std.specs.Result.{result_err}
use Rattle.hack_base.specs.FieldReadings.{FieldReading}
use Rattle.hack_base.specs.Names.{Name}
use Rattle.hack_base.specs.Notes.{Note, warning_note}
use Rattle.hack_load.specs.declared.features.Features.{Features}
use Rattle.hack_metadata.specs.Records.{PackageRecord, RulesRecord}
use Rattle.hack_words.specs.declared.cli.args.Args.{Args}
use Rattle.hack_planner.specs.Candidates.{contains_name, is_found}
use Rattle.hack_planner.specs.PackageRules.{PackageRulesRecord, call_rules}
use Rattle.hack_planner.specs.Texts.{table_text}

-- there is an element
abbrev pub has_some : {X : Type 0} → List X → Bool
has_some xs = not (length xs == 0)

-- the optional dependencies that one or the other asks for; an empty list asks for all
abbrev pub asked_by_either : Option (List Name) → Option (List Name) → Option (List Name)
asked_by_either None more = more
asked_by_either (Some names) None = Some names
asked_by_either (Some []) (Some more) = Some []
asked_by_either (Some (x ∷ xs)) (Some []) = Some []
asked_by_either (Some (x ∷ xs)) (Some (y ∷ ys)) = Some (x ∷ xs ++ y ∷ ys)

-- these rules and what counts of a table in any case: its names are added, excluded ones leave out
-- the run with all features, and so do its own words on runs
abbrev pub with_names : RulesRecord → PackageRulesRecord → PackageRulesRecord
with_names t r = record r {
  exclude_features = r.exclude_features ++ t.exclude_features;
  optional_deps = asked_by_either r.optional_deps t.optional_deps;
  exclude_no_default_features = r.exclude_no_default_features || t.exclude_no_default_features;
  exclude_all_features =
      r.exclude_all_features || t.exclude_all_features || has_some t.exclude_features;
}

-- these rules and what counts of a table under a powerset: its groups are added, and leave out the
-- runs that the options of these names leave out; its depth and strength count where there are none
abbrev pub with_groups : RulesRecord → PackageRulesRecord → PackageRulesRecord
with_groups t r = record r {
  group_features = r.group_features ++ t.group_features;
  exclusive = r.exclusive ++ t.mutually_exclusive_features;
  at_least_one_of = r.at_least_one_of ++ t.at_least_one_of;
  exclude_no_default_features = r.exclude_no_default_features || has_some t.at_least_one_of;
  exclude_all_features = r.exclude_all_features || has_some t.mutually_exclusive_features;
  depth = option_or r.depth t.depth;
  strength = option_or r.strength t.strength;
}

-- these rules and those of a table
abbrev pub with_table : RulesRecord → PackageRulesRecord → PackageRulesRecord
with_table t r =
    if r.feature_powerset then with_groups t (with_names t r) else with_names t r

-- a table whose groups are only those of which the package has each name
abbrev pub with_known_groups : Features → RulesRecord → RulesRecord
with_known_groups f t = record t { group_features = filter (list_all (is_found f)) t.group_features }

-- these rules and those of the package's own table; where it has a fault, the call is refused
abbrev pub and_own : FieldReading RulesRecord → PackageRulesRecord → PackageRulesRecord
and_own (Ok t) r = with_table t r
and_own (Err field) r = r

-- these rules and those of the workspace's table, whose names a member needn't have
abbrev pub and_workspace : Features → FieldReading RulesRecord → PackageRulesRecord → PackageRulesRecord
and_workspace f (Ok t) r = with_table (with_known_groups f t) r
and_workspace f (Err field) r = r

-- the rules of a package: the call's, and under `--package-rules` also those of its table and of the
-- workspace's
abbrev pub rules_for : Args → FieldReading RulesRecord → PackageRecord → Features → PackageRulesRecord
rules_for args workspace p f = if args.package_rules
    then and_workspace f workspace (and_own p.rules (call_rules args p.name))
    else call_rules args p.name

-- the strength that a table has
abbrev pub strength_of : FieldReading RulesRecord → Option ℕ
strength_of (Ok t) = t.strength
strength_of (Err field) = None

-- ---- names that a table has

-- the names that a table has, in the order of its keys
abbrev pub names_of_table : RulesRecord → List Name
names_of_table t = t.exclude_features ++ (flat_map (λ group. group) t.mutually_exclusive_features
    ++ (flat_map (λ group. group) t.at_least_one_of
    ++ (flat_map (λ group. group) t.group_features ++ unwrap_or t.optional_deps [])))

-- these names and one more, unless it is among them
abbrev pub kept_once : List Name → Name → List Name
kept_once kept x = if contains_name kept x then kept else kept ++ x ∷ []

-- the names, each once, at its first place
abbrev pub each_once : List Name → List Name
each_once names = fold kept_once [] names

-- the package may have the name: it is found, or that of a dependency's feature, and these aren't
-- loaded
abbrev pub may_have : Bool → Features → Name → Bool
may_have loaded f x = is_found f x || (not loaded && list_any (λ c. c == 47) x)

-- the names of a table that nobody has
abbrev pub unknown_names : (Name → Bool) → FieldReading RulesRecord → List Name
unknown_names had (Ok t) = filter (λ x. not (had x)) (each_once (names_of_table t))
unknown_names had (Err field) = []

-- under `--package-rules` a warning for each name of the package's own table that the package doesn't
-- have
abbrev pub table_notes : Args → PackageRecord → Features → List Note
table_notes args p f = if args.package_rules
    then map (λ x. warning_note (table_text p.name x)) (unknown_names (may_have args.include_deps_features f) p.rules) else []

-- a table has no rule
abbrev pub has_no_rule : FieldReading RulesRecord → Bool
has_no_rule (Ok t) = not (has_some t.exclude_features || has_some t.mutually_exclusive_features || has_some t.at_least_one_of
    || has_some t.group_features || is_some t.optional_deps || t.exclude_no_default_features || t.exclude_all_features
    || is_some t.depth || is_some t.strength)
has_no_rule (Err field) = false

-- ---- faults

-- the first of these that there is
abbrev pub first_there : {X : Type 0} → List (Option X) → Option X
first_there [] = None
first_there (x ∷ xs) = option_or x (first_there xs)

-- what is wrong with tables of rules: a field of the workspace's; of the package of this name a field
-- of its own, or this feature, which is excluded, and in a group or to be included, as no other one is that isn't excluded
pub data TableFault : Type 0 where
  WorkspaceField : Name → TableFault
  OwnField : Name → Name → TableFault
  Grouped : Name → Name → TableFault

-- the fault of the workspace's table
abbrev pub workspace_fault : FieldReading RulesRecord → Option TableFault
workspace_fault rules = option_map WorkspaceField (result_err rules)

-- the fault of a package's own table
abbrev pub own_fault : PackageRecord → Option TableFault
own_fault p = option_map (OwnField p.name) (result_err p.rules)

-- the name is excluded, and is none of `--features`, which are on in each run and in no set
abbrev pub is_excluded : List Name → List Name → Name → Bool
is_excluded features excluded x = contains_name excluded x && not (contains_name features x)

-- the first excluded name of these groups, in their order
abbrev pub first_excluded : List Name → List Name → List (List Name) → Option Name
first_excluded features excluded groups =
    first_there (map (find (is_excluded features excluded)) groups)

-- the first name of these groups, where each is excluded
abbrev pub first_of_excluded : List Name → List Name → List (List Name) → Option Name
first_of_excluded features excluded groups =
    if list_all (list_all (is_excluded features excluded)) groups then first_excluded features excluded groups else None

-- the first excluded name of a group, else of the features to include, where each of them is excluded, by these rules
abbrev pub excluded_by : List Name → PackageRulesRecord → Option Name
excluded_by features r = option_or (first_excluded features r.exclude_features r.group_features)
    (first_of_excluded features r.exclude_features r.include_features)

-- the fault that these rules of a package exclude a feature that is in a group, or all features that are to be included
abbrev pub grouped_fault : List Name → Name → PackageRulesRecord → Option TableFault
grouped_fault features pkg r = option_map (Grouped pkg) (excluded_by features r)
