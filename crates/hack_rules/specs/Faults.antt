-- Options as they were written, and why arguments can't be parsed into them.
use Rattle.std.specs.Prelude.{ℕ, List, Option, Some, None, string_bytes}
use Rattle.hack_base.specs.Names.{optional_text}
use Rattle.hack_lexopt.specs.Cuts.{Flag, LongFlag, ShortFlag}
use Rattle.hack_options.specs.declared.opt.Opt.{Opt}
use Rattle.hack_rules.specs.declared.uses.fault.OwnedFlag.{OwnedFlag}
use Rattle.hack_rules.specs.declared.uses.fault.OwnedFlag.TheVariants as owned
use Rattle.hack_rules.specs.declared.uses.fault.CutFault.{CutFault}
use Rattle.hack_rules.specs.declared.uses.fault.CutFault.TheVariants as code

-- the option that an `OwnedFlag` holds
abbrev pub flag_seen : OwnedFlag → Flag
flag_seen (owned.Long name) = LongFlag (string_bytes name)
flag_seen (owned.Short letter) = ShortFlag letter

-- why an argument is refused: a value is missing, or not expected; an option is repeated (after
-- this subcommand); a list of names is a lone quote sign; --workspace-behavior has another form; a
-- name was removed, or resembles an option's
pub data ArgumentFault : Type 0 where
  Missing : Flag → ArgumentFault
  Unexpected : Flag → List ℕ → ArgumentFault
  Repeat : Flag → Opt → Option (List ℕ) → ArgumentFault
  LoneQuote : Flag → ArgumentFault
  BehaviorForm : ArgumentFault
  Removed : List ℕ → Opt → ArgumentFault
  Similar : List ℕ → Opt → Option (List ℕ) → ArgumentFault

-- the error that a `CutFault` reports; none where memory ran out
abbrev pub argument_fault_of : CutFault → Option ArgumentFault
argument_fault_of code.Memory = None
argument_fault_of (code.Missing flag) = Some (Missing (flag_seen flag))
argument_fault_of (code.Unexpected flag value) = Some (Unexpected (flag_seen flag) (string_bytes value))
argument_fault_of (code.Repeat flag option subcommand) = Some (Repeat (flag_seen flag) option (optional_text subcommand))
argument_fault_of (code.LoneQuote flag) = Some (LoneQuote (flag_seen flag))
argument_fault_of code.BehaviorForm = Some BehaviorForm
argument_fault_of (code.Removed name instead) = Some (Removed (string_bytes name) instead)
argument_fault_of (code.Similar name meant subcommand) = Some (Similar (string_bytes name) meant (optional_text subcommand))
