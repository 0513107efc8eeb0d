-- What the later rules read.
use Rattle.std.specs.Prelude.{◌≡◌, Bool, List, IfSome, option_map}
use Rattle.std.specs.Option.{unwrap_or}
use Rattle.hack_base.specs.Numbers.{number_of}
use Rattle.hack_partition.specs.Partitions.{piece_of, kind_of}
use Rattle.hack_partition.specs.declared.partition.PartitionKind.TheVariants.{Block}
use Rattle.hack_options.specs.declared.opt.Opt.TheVariants as opt
use Rattle.hack_rules.specs.Uses.{Use}
use Rattle.hack_rules.specs.AskedFields.{range_asked, is_old_asked, log_group_asked}
use Rattle.hack_rules.specs.Values.{from_value, values_given}
use Rattle.hack_rules.specs.LateRules.{number_within}
use Rattle.hack_rules.specs.CliGroups.{AreLifts}
use Rattle.hack_rules.specs.CliLists.{lift_of}
use Rattle.std.specs.List.{filter_map}
use Rattle.hack_rules.specs.declared.late.Late.{Late}

-- what uses of options ask for about versions, log groups, pieces, lifted groups, samples, runs side by
-- side and the search for conflicts
pub record IsLate (github_actions : Bool) (us : List Use) (late : Late) : Type 0 where
  pub range : late.versions.range ≡ range_asked us
  pub old : late.versions.is_old ≡ is_old_asked us
  pub step : late.versions.step ≡ unwrap_or (from_value opt.VersionStep (number_of 16) us) 1
  pub log_group : late.log_group ≡ log_group_asked github_actions us
  pub piece : option_map (λ p. (p.piece, p.count)) late.partition
      ≡ from_value opt.Partition piece_of us
  pub kind : IfSome late.partition (λ p.
      p.kind ≡ unwrap_or (from_value opt.PartitionKind kind_of us) Block)
  pub lifts : AreLifts (filter_map lift_of (values_given opt.AllowTogether us)) late.lifts.items
  pub strength : late.strength ≡ from_value opt.Strength (number_of 64) us
  pub parallel : late.parallel ≡ from_value opt.Parallel (number_within 256) us
  pub most_runs : late.most_runs ≡ from_value opt.MostRuns (number_of 64) us
