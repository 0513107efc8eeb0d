-- What the fields of `Args` hold, one by one.
use Rattle.std.specs.Prelude.{ℕ, ◌≡◌, ◌↔◌, ◌||◌, ◌++◌, List, Bool, Contains, Option, IfSome, length, option_map}
use Rattle.std.specs.List.{AllZip, filter, filter_map}
use Rattle.std.specs.Option.{unwrap_or}
use Rattle.hack_base.specs.Numbers.{number_of}
use Rattle.hack_partition.specs.Partitions.{piece_of, kind_of}
use Rattle.hack_partition.specs.declared.partition.PartitionKind.TheVariants.{Block}
use Rattle.hack_base.specs.Names.{names_of, optional_text}
use Rattle.hack_features.specs.Feature.{IsNormal}
use Rattle.hack_options.specs.declared.opt.Opt.TheVariants as opt
use Rattle.hack_rules.specs.declared.uses.behavior.WorkspaceBehavior.{WorkspaceBehavior}
use Rattle.hack_rules.specs.Uses.{Use, is_given, is_use_of, subcommand_of}
use Rattle.hack_rules.specs.LateRules.{number_within}
use Rattle.hack_rules.specs.Values.{from_value, value_given, values_given}
use Rattle.hack_words.specs.declared.cli.args.Args.{Args}
use Rattle.hack_rules.specs.AskedFields.{coloring_asked, range_asked, log_group_asked, verbose_words}
use Rattle.hack_rules.specs.PassedWords.{leading_of}
use Rattle.hack_rules.specs.CliGroups.{AreGroupsOf, AreLifts}
use Rattle.hack_rules.specs.CliLists.{lift_of, names_given, optional_given}
use Rattle.hack_rules.specs.Rules.{counts}
use Rattle.std.specs.Cmp.Lexicographic.{slice_cmp}
use Rattle.std.specs.List.Sorted.{IsStrictlySortedBy}
use Rattle.std.specs.Ordering.{nat_cmp}

-- the options without a value
pub record HasFlags (us : List Use) (args : Args) : Type 0 where
  pub no_manifest_path : args.no_manifest_path ≡ is_given opt.NoManifestPath us
  pub locked : args.locked ≡ is_given opt.Locked us
  pub workspace : args.workspace ≡ is_given opt.Workspace us
  pub each_feature : args.each_feature ≡ is_given opt.EachFeature us
  pub feature_powerset : args.feature_powerset ≡ is_given opt.FeaturePowerset us
  pub no_dev_deps : args.no_dev_deps ≡ is_given opt.NoDevDeps us
  pub remove_dev_deps : args.remove_dev_deps ≡ is_given opt.RemoveDevDeps us
  pub restore : args.restore ≡ is_given opt.Restore us
  pub package_rules : args.package_rules ≡ is_given opt.PackageRules us
  pub find_rust_version : args.find_rust_version ≡ is_given opt.FindRustVersion us
  pub find_conflicts : args.find_conflicts ≡ is_given opt.FindConflicts us
  pub no_private : args.no_private ≡ is_given opt.NoPrivate us
  pub ignore_private : args.ignore_private ≡ (is_given opt.IgnorePrivate us || is_given opt.NoPrivate us)
  pub ignore_unknown_features : args.ignore_unknown_features ≡ is_given opt.IgnoreUnknownFeatures us
  pub clean_per_run : args.clean_per_run ≡ is_given opt.CleanPerRun us
  pub clean_per_version : args.clean_per_version ≡ is_given opt.CleanPerVersion us
  pub keep_going : args.keep_going ≡ is_given opt.KeepGoing us
  pub print_command_list : args.print_command_list ≡ is_given opt.PrintCommandList us
  pub include_deps_features : args.include_deps_features ≡ is_given opt.IncludeDepsFeatures us
  pub no_default_features : args.no_default_features ≡ is_given opt.NoDefaultFeatures us
  pub verbose : args.verbose ≡ is_given opt.Verbose us
  pub exclude_no_default_features : args.exclude_no_default_features
      ≡ (is_given opt.ExcludeNoDefaultFeatures us || is_given opt.AtLeastOneOf us
      || counts opt.IncludeFeatures us)
  pub exclude_all_features : args.exclude_all_features
      ≡ (is_given opt.ExcludeAllFeatures us || counts opt.IncludeFeatures us
      || counts opt.ExcludeFeatures us || is_given opt.MutuallyExclusiveFeatures us)

-- the arguments for cargo, the lists of texts, and the features with their groups
pub record HasTexts (behavior : WorkspaceBehavior) (us : List Use) (args : Args) : Type 0 where
  pub leading_args : names_of args.leading_args.items
      ≡ leading_of behavior us ++ verbose_words (length (filter (is_use_of opt.Verbose) us))
  pub subcommand : optional_text args.subcommand ≡ subcommand_of us
  pub manifest_path : optional_text args.manifest_path ≡ value_given opt.ManifestPath us
  pub packages : names_of args.«package».items ≡ values_given opt.Package us
  pub exclude : names_of args.exclude.items ≡ values_given opt.Exclude us
  pub features : names_of args.features.items ≡ names_given opt.Features us
  pub exclude_features : names_of args.exclude_features.items
      ≡ names_given opt.ExcludeFeatures us ++ names_given opt.Features us
  pub optional_deps : option_map (λ names. names_of names.items) args.optional_deps ≡ optional_given us
  pub target_rising : IsStrictlySortedBy (slice_cmp nat_cmp) (names_of args.target.items)
  pub target_same : (text : List ℕ)
      → Contains (names_of args.target.items) text ↔ Contains (values_given opt.Target us) text
  pub include_features : AllZip IsNormal (names_given opt.IncludeFeatures us) args.include_features.items
  pub group_features : AreGroupsOf (values_given opt.GroupFeatures us) args.group_features.items
  pub mutually_exclusive_features : AreGroupsOf (values_given opt.MutuallyExclusiveFeatures us) args.mutually_exclusive_features.items
  pub at_least_one_of : AreGroupsOf (values_given opt.AtLeastOneOf us) args.at_least_one_of.items

-- all fields, some of which are read from the environment too
pub record IsAsked (term_color : Option (List ℕ)) (github_actions : Bool) (behavior : WorkspaceBehavior) (trailing : List (List ℕ)) (us : List Use) (args : Args) : Type 0 where
  pub flags : HasFlags us args
  pub texts : HasTexts behavior us args
  pub trailing_args : names_of args.trailing_args.items ≡ trailing
  pub workspace_behavior : args.workspace_behavior ≡ behavior
  pub coloring : args.coloring ≡ coloring_asked term_color us
  pub depth : args.depth ≡ from_value opt.Depth (number_of 64) us
  pub version_range : args.version_range ≡ range_asked us
  pub version_step : args.version_step ≡ unwrap_or (from_value opt.VersionStep (number_of 16) us) 1
  pub log_group : args.log_group ≡ log_group_asked github_actions us
  pub piece : option_map (λ p. (p.piece, p.count)) args.partition
      ≡ from_value opt.Partition piece_of us
  pub kind : IfSome args.partition (λ p.
      p.kind ≡ unwrap_or (from_value opt.PartitionKind kind_of us) Block)
  pub allow_together : AreLifts (filter_map lift_of (values_given opt.AllowTogether us))
      args.allow_together.items
  pub strength : args.strength ≡ from_value opt.Strength (number_of 64) us
  pub parallel : args.parallel ≡ from_value opt.Parallel (number_within 256) us
  pub most_runs : args.most_runs ≡ from_value opt.MostRuns (number_of 64) us
