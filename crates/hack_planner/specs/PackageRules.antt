-- The rules by which a package's runs are chosen: those of the call, as they hold for the package.
use Rattle.std.specs.Prelude.{ℕ, ◌&&◌, List, Bool, Option, filter, not, option_map, string_bytes}
use Rattle.std.specs.List.{list_any}
use Rattle.std.specs.Str.{bytes_eq}
use Rattle.hack_base.specs.Names.{Name, names_of}
use Rattle.hack_features.specs.Feature.{group_of, groups_of}
use Rattle.hack_rules.specs.CliLists.{same_names}
use Rattle.hack_words.specs.declared.cli.args.Args.{Args}
use Rattle.hack_planner.specs.declared.package_rules.PackageRules.{PackageRules}

-- the rules of a package, as plain data
pub record PackageRulesRecord : Type 0 where
  pub each_feature : Bool
  pub feature_powerset : Bool
  pub include_features : List (List Name)
  pub include_deps_features : Bool
  pub ignore_unknown_features : Bool
  pub exclude_features : List Name
  pub group_features : List (List Name)
  pub optional_deps : Option (List Name)
  pub exclusive : List (List Name)
  pub at_least_one_of : List (List Name)
  pub exclude_no_default_features : Bool
  pub exclude_all_features : Bool
  pub depth : Option ℕ
  pub strength : Option ℕ

-- what the code keeps of them
abbrev pub rules_in : PackageRules → PackageRulesRecord
rules_in r = record {
  each_feature = r.each_feature;
  feature_powerset = r.feature_powerset;
  include_features = groups_of r.include_features.items;
  include_deps_features = r.include_deps_features;
  ignore_unknown_features = r.ignore_unknown_features;
  exclude_features = names_of r.exclude_features.items;
  group_features = groups_of r.group_features.items;
  optional_deps = option_map (λ names. names_of names.items) r.optional_deps;
  exclusive = groups_of r.exclusive.items;
  at_least_one_of = groups_of r.at_least_one_of.items;
  exclude_no_default_features = r.exclude_no_default_features;
  exclude_all_features = r.exclude_all_features;
  depth = r.depth;
  strength = r.strength;
}

-- the exclusion group is lifted for the package: a lift for its name has the same names in the same
-- order
abbrev pub is_lifted : Args → Name → List Name → Bool
is_lifted args pkg group = list_any (λ lift. bytes_eq (string_bytes lift.0) pkg
    && same_names (group_of lift.1) group) args.allow_together.items

-- what the call asks of a package of this name
abbrev pub call_rules : Args → Name → PackageRulesRecord
call_rules args pkg = record {
  each_feature = args.each_feature;
  feature_powerset = args.feature_powerset;
  include_features = groups_of args.include_features.items;
  include_deps_features = args.include_deps_features;
  ignore_unknown_features = args.ignore_unknown_features;
  exclude_features = names_of args.exclude_features.items;
  group_features = groups_of args.group_features.items;
  optional_deps = option_map (λ names. names_of names.items) args.optional_deps;
  exclusive = filter (λ group. not (is_lifted args pkg group))
      (groups_of args.mutually_exclusive_features.items);
  at_least_one_of = groups_of args.at_least_one_of.items;
  exclude_no_default_features = args.exclude_no_default_features;
  exclude_all_features = args.exclude_all_features;
  depth = args.depth;
  strength = args.strength;
}
