-- The rule on a missing subcommand.
use Rattle.std.specs.Prelude.{◌&&◌, ◌||◌, not, List, Bool, Option, codes}
use Rattle.std.specs.Option.{is_none}
use Rattle.hack_options.specs.declared.opt.Opt.TheVariants as opt
use Rattle.hack_rules.specs.declared.uses.behavior.WorkspaceBehavior.{WorkspaceBehavior}
use Rattle.hack_rules.specs.PassedWords.{leading_of}
use Rattle.hack_rules.specs.Uses.{Use, is_given, subcommand_of}
use Rattle.hack_rules.specs.CliFaults.{Fault, NoSubcommand}
use Rattle.hack_rules.specs.Rules.{fault_if, is_among}

-- cargo's list is asked for, without a subcommand
abbrev pub lists_commands : WorkspaceBehavior → List Use → Bool
lists_commands behavior us =
    is_none (subcommand_of us) && is_among (leading_of behavior us) (codes "--list")

-- else there is a subcommand, or the call only edits manifests, or brings them back
abbrev pub missing_subcommand : List Use → Option Fault
missing_subcommand us =
    fault_if (is_none (subcommand_of us)
    && not (is_given opt.RemoveDevDeps us || is_given opt.Restore us)) NoSubcommand
