-- How a program is started in a lane, and where it builds.
use Rattle.std.specs.Prelude.{◌≡◌, ◌≢◌, ◌++◌, ◌==◌, ℕ, Bool, false, List, Option, Some, None, option_map, codes, decimal, if◌then◌else◌}
use Rattle.std.specs.Process.{command_program, command_args, command_var, command_dir, clears_env}
use Rattle.std.specs.declared.process.command.Command.{Command}
use Rattle.std.proofs.Common.{Global}
use Rattle.hack_base.specs.Names.{Name}

-- the folder that a lane builds into: none for lane 0, and for each other one a folder of its own
abbrev pub lane_target : Name → ℕ → Option Name
lane_target folder lane =
    if lane == 0 then None else Some (folder ++ (codes "/cargo-hack-lane-" ++ decimal lane))

-- what a command says of a variable: that it is this text, or nothing
abbrev pub said : Option Name → Option (Option Name)
said text = option_map Some text

-- whether cargo's output is colored: always, or as cargo decides
abbrev pub color_choice : Bool → Option Name
color_choice colors = if colors then Some (codes "always") else None

-- a variable is none of the three that a lane's command may set
pub record IsOther (variable : Name) : Type 0 where
  pub target : variable ≢ codes "CARGO_TARGET_DIR"
  pub jobs : variable ≢ codes "CARGO_BUILD_JOBS"
  pub colors : variable ≢ codes "CARGO_TERM_COLOR"

-- a command of just this program and these arguments, in this process's folder and environment, but
-- for the folder that it builds into, its number of jobs and its colors, where they are given
pub record OrdersInLane (name : Name) (texts : List Name) (built : Option Name)
    (share : Option ℕ) (colored : Bool) (c : Command Global) : Type 0 where
  pub program : command_program c ≡ name
  pub words : command_args c ≡ texts
  pub environment : clears_env c ≡ false
  pub folder : command_dir c ≡ None
  pub target : command_var c (codes "CARGO_TARGET_DIR") ≡ said built
  pub jobs : command_var c (codes "CARGO_BUILD_JOBS") ≡ said (option_map decimal share)
  pub colors : command_var c (codes "CARGO_TERM_COLOR") ≡ said (color_choice colored)
  pub others : (variable : Name) → IsOther variable → command_var c variable ≡ None
