-- Why a command line is refused, without where the texts of an error lie in memory.
use Rattle.std.specs.Prelude.{ℕ, ◌≡◌, List, Option, Some, None, Result, Ok, Err, MatchOption, string_bytes, option_map}
use Rattle.hack_options.specs.declared.opt.Opt.{Opt}
use Rattle.hack_rules.specs.Faults.{argument_fault_of as cut_fault_of, ArgumentFault as WrongCut}
use Rattle.hack_rules.specs.declared.uses.fault.CutFault.{CutFault}
use Rattle.hack_rules.specs.declared.uses.fault.CutFault.TheVariants as cut
use Rattle.hack_versions.specs.Readings.{BadRange, bad_range_of}
use Rattle.hack_versions.specs.declared.version.VersionFault.{VersionFault}
use Rattle.hack_versions.specs.declared.version.VersionFault.TheVariants as version
use Rattle.hack_term.specs.declared.log_group.LogGroupFault.{LogGroupFault}
use Rattle.hack_term.specs.declared.log_group.LogGroupFault.TheVariants as log_group
use Rattle.hack_partition.specs.declared.partition.PartitionFault.{PartitionFault}
use Rattle.hack_partition.specs.declared.partition.PartitionFault.TheVariants as partition
use Rattle.hack_rules.specs.declared.fault.Beside.{Beside}
use Rattle.hack_rules.specs.declared.fault.CliFault.{CliFault}
use Rattle.hack_rules.specs.declared.fault.CliFault.TheVariants as code

-- why a command line is refused
pub data Fault : Type 0 where
  NoWord : Fault
  NotHack : List ℕ → Fault
  Cut : WrongCut → Fault
  Color : List ℕ → Fault
  TermColor : List ℕ → Fault
  Needs : Opt → Beside → Fault
  Number : List ℕ → Fault
  Single : Opt → Fault
  BesideSubcommand : Opt → List ℕ → Fault
  Install : Fault
  Clash : Opt → Opt → Fault
  ClashWord : Opt → List ℕ → Fault
  Excluded : List ℕ → Opt → Fault
  NoSubcommand : Fault
  OldRustup : Opt → Fault
  Range : BadRange → Fault
  Zero : Opt → Fault
  LogGroup : List ℕ → Fault
  Partition : List ℕ → Fault
  PartitionKind : List ℕ → Fault
  LiftForm : List ℕ → Fault
  LiftGroup : List ℕ → Fault
  RestoreAlone : Fault

-- the error of a log group; none where memory ran out
abbrev pub log_group_fault_of : LogGroupFault → Option Fault
log_group_fault_of log_group.Memory = None
log_group_fault_of (log_group.Name text) = Some (LogGroup (string_bytes text))

-- the error of a piece or of its kind; none where memory ran out
abbrev pub partition_fault_of : PartitionFault → Option Fault
partition_fault_of partition.Memory = None
partition_fault_of (partition.Piece text) = Some (Partition (string_bytes text))
partition_fault_of (partition.Kind text) = Some (PartitionKind (string_bytes text))

-- the error that the code returns; none where memory ran out
abbrev pub fault_of : CliFault → Option Fault
fault_of code.Memory = None
fault_of code.NoWord = Some NoWord
fault_of (code.NotHack found) = Some (NotHack (string_bytes found))
fault_of (code.Cut fault) = option_map Cut (cut_fault_of fault)
fault_of (code.Color found) = Some (Color (string_bytes found))
fault_of (code.TermColor found) = Some (TermColor (string_bytes found))
fault_of (code.Needs option beside) = Some (Needs option beside)
fault_of (code.Number found) = Some (Number (string_bytes found))
fault_of (code.Single option) = Some (Single option)
fault_of (code.BesideSubcommand option subcommand) = Some (BesideSubcommand option (string_bytes subcommand))
fault_of code.Install = Some Install
fault_of (code.Clash option other) = Some (Clash option other)
fault_of (code.ClashWord option word) = Some (ClashWord option (string_bytes word))
fault_of (code.Excluded feature option) = Some (Excluded (string_bytes feature) option)
fault_of code.NoSubcommand = Some NoSubcommand
fault_of (code.OldRustup option) = Some (OldRustup option)
fault_of (code.Range fault) = option_map Range (bad_range_of fault)
fault_of (code.Zero option) = Some (Zero option)
fault_of (code.LogGroup fault) = log_group_fault_of fault
fault_of (code.Partition fault) = partition_fault_of fault
fault_of (code.LiftForm found) = Some (LiftForm (string_bytes found))
fault_of (code.LiftGroup found) = Some (LiftGroup (string_bytes found))
fault_of code.RestoreAlone = Some RestoreAlone

-- a parse error as an error of the command line; out of memory is reported alone
abbrev pub told_of_cut : CutFault → CliFault
told_of_cut cut.Memory = code.Memory
told_of_cut fault = code.Cut fault

-- an error of a range as one of the command line; out of memory is reported alone
abbrev pub told_of_range : VersionFault → CliFault
told_of_range version.Memory = code.Memory
told_of_range fault = code.Range fault

-- an error of a log group as one of the command line; out of memory is reported alone
abbrev pub told_of_log_group : LogGroupFault → CliFault
told_of_log_group log_group.Memory = code.Memory
told_of_log_group fault = code.LogGroup fault

-- an error of a piece or its kind as one of the command line; out of memory is reported alone
abbrev pub told_of_partition : PartitionFault → CliFault
told_of_partition partition.Memory = code.Memory
told_of_partition fault = code.Partition fault

-- a check passes exactly where its rule gives no error, and else gives that error, unless memory
-- ran out, which is reported alone
abbrev pub Checks : {A : Type 0} → Result A CliFault → Option Fault → Type 0
Checks (Ok a) rule = rule ≡ None
Checks (Err e) rule = MatchOption (fault_of e) (e ≡ code.Memory) (λ fault. rule ≡ Some fault)
