-- The lists of features that the code has collected.
use Rattle.std.specs.Prelude.{◌≡◌, List, option_map}
use Rattle.hack_features.specs.Feature.{groups_of}
use Rattle.hack_base.specs.Names.{names_of}
use Rattle.hack_options.specs.declared.opt.Opt.TheVariants as opt
use Rattle.hack_rules.specs.Uses.{Use}
use Rattle.hack_rules.specs.Values.{values_given}
use Rattle.hack_rules.specs.CliGroups.{AreGroupsOf}
use Rattle.hack_rules.specs.CliLists.{groups_given, names_given, optional_given}
use Rattle.hack_rules.specs.declared.listed.Lists.{Lists}

-- the lists are those that uses of options give
pub record AreListsOf (us : List Use) (lists : Lists) : Type 0 where
  pub features : names_of lists.features.items ≡ names_given opt.Features us
  pub includes : names_of lists.include_features.items ≡ names_given opt.IncludeFeatures us
  pub excludes : names_of lists.exclude_features.items ≡ names_given opt.ExcludeFeatures us
  pub optional : option_map (λ names. names_of names.items) lists.optional_deps ≡ optional_given us
  pub groups : groups_of lists.group_features.items ≡ groups_given opt.GroupFeatures us
  pub exclusive : groups_of lists.mutually_exclusive_features.items
      ≡ groups_given opt.MutuallyExclusiveFeatures us
  pub each_group : AreGroupsOf (values_given opt.GroupFeatures us) lists.group_features.items
  pub each_exclusive : AreGroupsOf (values_given opt.MutuallyExclusiveFeatures us)
      lists.mutually_exclusive_features.items
