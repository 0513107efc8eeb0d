-- What only private functions of the crate promise each other.
use Rattle.std.specs.Prelude.{◌≡◌, Option, None}
use Rattle.std.specs.Process.{command_var, clears_env, SameProgramAndArgs, SameOtherVars, SameDir}
use Rattle.std.specs.declared.process.command.Command.{Command}
use Rattle.std.proofs.Common.{Global}
use Rattle.hack_base.specs.Names.{Name}
use Rattle.hack_children.specs.LaneCommands.{said}

-- a command says this of a variable that it said nothing of, and the same of all else
pub record Sets (name : Name) (value : Option Name) (old new : Command Global) : Type 0 where
  pub call : SameProgramAndArgs old new
  pub environment : clears_env new ≡ clears_env old
  pub folder : SameDir old new
  pub others : SameOtherVars old new name
  pub variable : command_var old name ≡ None → command_var new name ≡ said value
