-- What the operating system tells a program.
use Rattle.std.specs.Prelude.{List, Option, option_map, string_bytes}
use Rattle.std.proofs.Common.{Global, String, Vec}
use Rattle.hack_base.specs.Names.{Name, names_of}
use Rattle.hack_recovery.specs.declared.system.Variable.{Variable}
use Rattle.hack_recovery.specs.declared.system.Variable.TheVariants as code

-- a variable is not set, or has a text, or is set to what is not UTF-8
pub data VariableState : Type 0 where
  Unset : VariableState
  Text : Name → VariableState
  NotText : VariableState

-- the arguments with the program's name first, unless one is not UTF-8; each variable by its name;
-- and the current folder, unless it can't be read
pub record SystemView : Type 0 where
  pub arguments : Option (List Name)
  pub variable : Name → VariableState
  pub folder : Option Name

-- a variable as the code has it
abbrev pub state_of : Variable → VariableState
state_of code.Unset = Unset
state_of (code.Text text) = Text (string_bytes text)
state_of code.NotText = NotText

-- the names in a list of texts, if there is one
abbrev pub argument_names : Option (Vec (String Global) Global) → Option (List Name)
argument_names texts = option_map (λ all. names_of all.items) texts
