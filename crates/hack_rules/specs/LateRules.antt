-- The rules that are checked after the one on a missing subcommand.
use Rattle.std.specs.Prelude.{ℕ, ◌==◌, ◌&&◌, not, List, [], ◌∷◌, map, Bool, Option, None, Some, length, nat_lt, option_and_then, option_map, if◌then◌else◌}
use Rattle.std.specs.List.{find, list_all, list_any}
use Rattle.std.specs.Option.{is_none, option_map_or, option_or}
use Rattle.std.specs.Result.{result_err}
use Rattle.hack_base.specs.Numbers.{number_of}
use Rattle.hack_term.specs.Groups.{log_group_of}
use Rattle.hack_partition.specs.Partitions.{piece_of, kind_of}
use Rattle.hack_versions.specs.Readings.{range_of}
use Rattle.hack_options.specs.declared.opt.Opt.{Opt}
use Rattle.hack_options.specs.declared.opt.Opt.TheVariants as opt
use Rattle.hack_rules.specs.declared.uses.behavior.WorkspaceBehavior.{WorkspaceBehavior}
use Rattle.hack_rules.specs.Behavior.{is_cargo}
use Rattle.hack_rules.specs.Uses.{Use, is_given, is_use_of}
use Rattle.hack_rules.specs.Values.{from_value, values_given}
use Rattle.hack_rules.specs.declared.fault.Beside.TheVariants as beside
use Rattle.hack_rules.specs.CliFaults.{Clash, Fault, LiftForm, LiftGroup, LogGroup, Number, OldRustup, Partition, PartitionKind, Range, RestoreAlone, Zero}
use Rattle.hack_rules.specs.CliLists.{lift_of, lifts_one_of}
use Rattle.hack_rules.specs.Rules.{fault_if, first_of, needs, clash}

-- the error of a text that the option takes as a number but 0, if it is read as one
abbrev pub unless_counted : Opt → (List ℕ → Option ℕ) → List ℕ → Option Fault
unless_counted option read text =
    option_map_or (λ n. fault_if (n == 0) (Zero option)) (read text) (Some (Number text))

-- the number that a text is, where it isn't greater than another
abbrev pub number_within : ℕ → List ℕ → Option ℕ
number_within most text =
    option_and_then (λ n. if nat_lt most n then None else Some n) (number_of 64 text)

-- the rules on ranges and on what needs one; where rustup's minor version is known, it must be new
-- enough
abbrev pub range_rules : Option ℕ → List Use → List (Option Fault)
range_rules rustup us =
    clash opt.VersionRange opt.RustVersion us
    ∷ first_of (map (λ o. option_and_then (λ minor. fault_if (is_given o us && nat_lt minor 23)
    (OldRustup o)) rustup) (opt.VersionRange ∷ opt.RustVersion ∷ []))
    ∷ from_value opt.VersionRange (λ text. option_map Range (result_err (range_of text))) us
    ∷ needs opt.VersionStep beside.VersionRange us
    ∷ needs opt.CleanPerVersion beside.VersionRange us
    ∷ from_value opt.VersionStep (unless_counted opt.VersionStep (number_of 16)) us
    ∷ []

-- values of --allow-together must have its form, and the names of one of these groups
abbrev pub lift_rule : List (List (List ℕ)) → List (List ℕ) → Option Fault
lift_rule exclusive texts =
    option_or (option_map LiftForm (find (λ text. is_none (lift_of text)) texts))
    (option_map LiftGroup (find (λ text. not (lifts_one_of exclusive text)) texts))

-- a use of --restore, or of an option that may stand beside it
abbrev pub is_beside_restore : Use → Bool
is_beside_restore u = list_any (λ o. is_use_of o u) (opt.Restore ∷ opt.Verbose ∷ opt.Color ∷ [])

-- there are no other arguments than these: Cargo doesn't handle the workspace, each use is one of
-- them, and nothing stands after --
abbrev pub is_restore_alone : WorkspaceBehavior → List (List ℕ) → List Use → Bool
is_restore_alone behavior trailing us =
    not (is_cargo behavior) && list_all is_beside_restore us && not (nat_lt 0 (length trailing))

-- --restore has no other arguments beside it
abbrev pub restore_rule : WorkspaceBehavior → List (List ℕ) → List Use → Option Fault
restore_rule behavior trailing us =
    fault_if (is_given opt.Restore us && not (is_restore_alone behavior trailing us)) RestoreAlone

-- the rules on runs side by side: a number, and neither a list of commands nor a cleaning for each
-- run
abbrev pub parallel_rules : List Use → List (Option Fault)
parallel_rules us =
    from_value opt.Parallel (unless_counted opt.Parallel (number_within 256)) us
    ∷ clash opt.Parallel opt.PrintCommandList us
    ∷ clash opt.Parallel opt.CleanPerRun us
    ∷ []

-- the rules on a search for the least version: it needs a range, and chooses its runs by itself, one
-- after another
abbrev pub version_search_rules : WorkspaceBehavior → List Use → List (Option Fault)
version_search_rules behavior us =
    needs opt.FindRustVersion beside.VersionRange us
    ∷ clash opt.FindRustVersion opt.Partition us
    ∷ clash opt.FindRustVersion opt.PrintCommandList us
    ∷ clash opt.FindRustVersion opt.KeepGoing us
    ∷ fault_if (is_cargo behavior && is_given opt.FindRustVersion us)
    (Clash opt.FindRustVersion opt.WorkspaceBehavior)
    ∷ clash opt.FindRustVersion opt.FindConflicts us
    ∷ clash opt.FindRustVersion opt.RustVersion us
    ∷ clash opt.FindRustVersion opt.Parallel us
    ∷ []

-- the rules on a search for conflicts: it needs a powerset, chooses sets of it by itself, and runs
-- them one after another, at most so many
abbrev pub conflict_search_rules : List Use → List (Option Fault)
conflict_search_rules us =
    needs opt.FindConflicts beside.Powerset us
    ∷ clash opt.FindConflicts opt.Depth us
    ∷ clash opt.FindConflicts opt.Strength us
    ∷ clash opt.FindConflicts opt.Partition us
    ∷ clash opt.FindConflicts opt.PrintCommandList us
    ∷ clash opt.FindConflicts opt.VersionRange us
    ∷ clash opt.FindConflicts opt.RustVersion us
    ∷ clash opt.FindConflicts opt.Parallel us
    ∷ needs opt.MostRuns beside.FindConflicts us
    ∷ from_value opt.MostRuns (unless_counted opt.MostRuns (number_of 64)) us
    ∷ []

-- the rules that are checked after the one on a missing subcommand, given the exclusive groups, who
-- handles workspaces, and the arguments after --: on ranges, the log group, pieces, lifted groups,
-- the strength of a sample, --restore, the rules of packages, runs side by side, and the searches for
-- the least version and for conflicts
abbrev pub rules_after : Option ℕ → List (List (List ℕ)) → WorkspaceBehavior → List (List ℕ) → List Use → List (Option Fault)
rules_after rustup exclusive behavior trailing us =
    first_of (range_rules rustup us)
    ∷ from_value opt.LogGroup (λ text. fault_if (is_none (log_group_of text)) (LogGroup text)) us
    ∷ first_of (from_value opt.Partition (λ t. fault_if (is_none (piece_of t)) (Partition t)) us
    ∷ needs opt.PartitionKind beside.Partition us
    ∷ from_value opt.PartitionKind (λ t. fault_if (is_none (kind_of t)) (PartitionKind t)) us ∷ [])
    ∷ needs opt.AllowTogether beside.MutuallyExclusive us
    ∷ lift_rule exclusive (values_given opt.AllowTogether us)
    ∷ needs opt.Strength beside.Powerset us
    ∷ from_value opt.Strength (unless_counted opt.Strength (number_of 64)) us
    ∷ restore_rule behavior trailing us
    ∷ needs opt.PackageRules beside.EachOrPowerset us
    ∷ first_of (parallel_rules us)
    ∷ first_of (version_search_rules behavior us)
    ∷ first_of (conflict_search_rules us)
    ∷ []
