-- What the fields of the arguments are, by what the rules read.
use Rattle.std.specs.Prelude.{ℕ, ◌≡◌, Bool, List, IfSome, Option, option_map}
use Rattle.std.proofs.Common.{ap, ◌∙◌, subst, sym}
use Rattle.hack_base.specs.Names.{names_of}
use Rattle.hack_base.specs.Numbers.{number_of}
use Rattle.hack_options.specs.declared.opt.Opt.TheVariants as opt
use Rattle.hack_partition.specs.declared.partition.Partition.{Partition}
use Rattle.hack_partition.specs.declared.partition.PartitionKind.TheVariants.{Block}
use Rattle.hack_partition.specs.Partitions.{kind_of}
use Rattle.hack_rules.specs.AskedFields.{coloring_asked}
use Rattle.hack_rules.specs.CliGroups.{AreLifts}
use Rattle.hack_rules.specs.CliLists.{lift_of}
use Rattle.hack_rules.specs.LateView.{IsLate}
use Rattle.hack_rules.specs.Uses.{Use}
use Rattle.hack_rules.specs.Values.{from_value, values_given}
use Rattle.hack_words.specs.ArgsView.{HasFlags, HasTexts, IsAsked}
use Rattle.hack_words.specs.Internal.{Carries}
use Rattle.hack_words.specs.declared.cli.args.Args.{Args}
use Rattle.hack_words.specs.declared.cli.args.Read.{Read}
use Rattle.std.specs.List.{filter_map}
use Rattle.std.specs.Option.{unwrap_or}

pub asked_by : (term_color : Option (List ℕ)) (github_actions : Bool) (us : List Use) (read : Read) (args : Args) → HasFlags us args → HasTexts read.call.behavior us args → Carries read args
    → read.early.coloring ≡ coloring_asked term_color us → read.early.depth ≡ from_value opt.Depth (number_of 64) us → IsLate github_actions us read.late → IsAsked term_color github_actions read.call.behavior (names_of read.call.trailing.items) us args
asked_by term_color github_actions us read args flags texts carries coloring depth late = record {
  flags = flags;
  texts = texts;
  trailing_args = ap (λ v. names_of v.items) carries.trailing_args;
  workspace_behavior = carries.workspace_behavior;
  coloring = carries.coloring ∙ coloring;
  depth = carries.depth ∙ depth;
  version_range = carries.version_range ∙ late.range;
  version_step = carries.version_step ∙ late.step;
  log_group = carries.log_group ∙ late.log_group;
  piece = ap (option_map (λ p. (p.piece, p.count))) carries.partition ∙ late.piece;
  kind = subst (λ (o : Option Partition). IfSome o (λ p. p.kind ≡ unwrap_or (from_value opt.PartitionKind kind_of us) Block)) (sym carries.partition) late.kind;
  allow_together = subst (λ v. AreLifts (filter_map lift_of (values_given opt.AllowTogether us)) v.items) (sym carries.allow_together) late.lifts;
  strength = carries.strength ∙ late.strength;
  parallel = carries.parallel ∙ late.parallel;
  most_runs = carries.most_runs ∙ late.most_runs;
}
