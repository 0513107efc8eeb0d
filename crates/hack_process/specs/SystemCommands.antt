-- How a program of the system is started.
use Rattle.std.specs.Prelude.{◌≡◌, ℕ, List, false, None}
use Rattle.std.specs.Process.{command_program, command_args, command_var, command_dir, clears_env}
use Rattle.std.specs.declared.process.command.Command.{Command}
use Rattle.std.proofs.Common.{Global}

-- a command of just this program and these arguments, in this process's environment and folder
pub record Orders (name : List ℕ) (texts : List (List ℕ)) (c : Command Global) : Type 0 where
  pub program : command_program c ≡ name
  pub words : command_args c ≡ texts
  pub environment : clears_env c ≡ false
  pub variables : (variable : List ℕ) → command_var c variable ≡ None
  pub folder : command_dir c ≡ None
