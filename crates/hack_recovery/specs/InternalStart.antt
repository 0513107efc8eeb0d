-- What only private functions of the crate promise each other.
use Rattle.std.specs.Prelude.{◌≡◌, Bool, Option, Result, Ok, Err, false, true}
use Rattle.std.proofs.Common.{Global, String}
use Rattle.std.specs.Option.{is_some}
use Rattle.hack_base.specs.Names.{optional_text}
use Rattle.hack_recovery.specs.Started.{is_not_text, variable_text}
use Rattle.hack_recovery.specs.SystemView.{VariableState}
use Rattle.hack_recovery.specs.declared.started.StartFault.{StartFault}
use Rattle.hack_recovery.specs.declared.started.StartFault.TheVariants as start

-- the text of a variable, if it is set; else memory was refused, or it is not UTF-8
abbrev pub GivesText : Type 0 → VariableState → Result (Option (String Global)) StartFault → Type 0
GivesText tells state (Ok text) =
    tells → (is_not_text state ≡ false) × (optional_text text ≡ variable_text state)
GivesText tells state (Err start.Memory) = Unit {0}
GivesText tells state (Err start.Words) = ⊥
GivesText tells state (Err start.Variables) = tells → is_not_text state ≡ true

-- whether a variable is set; else memory was refused, or it is not UTF-8
abbrev pub GivesFlag : Type 0 → VariableState → Result Bool StartFault → Type 0
GivesFlag tells state (Ok flag) =
    tells → (is_not_text state ≡ false) × (flag ≡ is_some (variable_text state))
GivesFlag tells state (Err start.Memory) = Unit {0}
GivesFlag tells state (Err start.Words) = ⊥
GivesFlag tells state (Err start.Variables) = tells → is_not_text state ≡ true
