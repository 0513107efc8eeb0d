-- What a system in memory tells.
use Rattle.std.specs.Prelude.{List, [], ◌∷◌, map, bytes_eq, string_bytes, if◌then◌else◌}
use Rattle.std.proofs.Common.{Global, String}
use Rattle.hack_base.specs.Names.{Name, optional_text}
use Rattle.hack_recovery.specs.declared.system.Variable.{Variable}
use Rattle.hack_recovery.specs.declared.system.FakeSystem.{FakeSystem}
use Rattle.hack_recovery.specs.SystemView.{SystemView, VariableState, Unset, argument_names, state_of}

-- a variable as plain data
pub record Setting : Type 0 where
  pub name : Name
  pub state : VariableState

-- variables as plain data, in order
abbrev pub settings_of : List (String Global × Variable) → List Setting
settings_of variables = map (λ v. record { name = string_bytes v.0; state = state_of v.1 }) variables

-- the first variable of a name
abbrev pub state_in : Name → List Setting → VariableState
state_in name [] = Unset
state_in name (s ∷ rest) = if bytes_eq s.name name then s.state else state_in name rest

-- what it tells
abbrev pub view_of : FakeSystem → SystemView
view_of system = record {
  arguments = argument_names system.arguments;
  variable = λ name. state_in name (settings_of system.variables.items);
  folder = optional_text system.folder;
}
