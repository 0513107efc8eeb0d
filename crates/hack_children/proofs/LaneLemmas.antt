-- Commands of lanes, variable by variable.
use Rattle.std.proofs.Common.{◌≢◌, ◌∙◌, sym, ap, arith, get_or, codes, decimal, ℕ, Bool, List, Option, option_map, Global}
use Rattle.std.specs.declared.process.command.Command.{Command}
use Rattle.hack_base.specs.Names.{Name}
use Rattle.hack_process.specs.SystemCommands.{Orders}
use Rattle.hack_children.specs.LaneCommands.{OrdersInLane, color_choice}
use Rattle.hack_children.specs.Internal.{Sets}

target≢jobs : codes "CARGO_TARGET_DIR" ≢ codes "CARGO_BUILD_JOBS"
target≢jobs e = omega (arith, ap (λ l. get_or l 6 0) e)

target≢colors : codes "CARGO_TARGET_DIR" ≢ codes "CARGO_TERM_COLOR"
target≢colors e = omega (arith, ap (λ l. get_or l 7 0) e)

jobs≢colors : codes "CARGO_BUILD_JOBS" ≢ codes "CARGO_TERM_COLOR"
jobs≢colors e = omega (arith, ap (λ l. get_or l 6 0) e)

-- a plain command after its three variables were set, one by one
pub in_lane : (name : Name) (texts : List Name) (built : Option Name) (share : Option ℕ) (colored : Bool) (a b c d : Command Global) → Orders name texts a → Sets (codes "CARGO_TARGET_DIR") built a b → Sets (codes "CARGO_BUILD_JOBS") (option_map decimal share) b c → Sets (codes "CARGO_TERM_COLOR") (color_choice colored) c d → OrdersInLane name texts built share colored d
in_lane name texts built share colored a b c d plain target jobs colors = record {
  program = colors.call.0 ∙ jobs.call.0 ∙ target.call.0 ∙ plain.program;
  words = colors.call.1 ∙ jobs.call.1 ∙ target.call.1 ∙ plain.words;
  environment = colors.environment ∙ jobs.environment ∙ target.environment ∙ plain.environment;
  folder = colors.folder ∙ jobs.folder ∙ target.folder ∙ plain.folder;
  target = colors.others (codes "CARGO_TARGET_DIR") target≢colors ∙ jobs.others (codes "CARGO_TARGET_DIR") target≢jobs ∙ target.variable (plain.variables (codes "CARGO_TARGET_DIR"));
  jobs = colors.others (codes "CARGO_BUILD_JOBS") jobs≢colors ∙ jobs.variable (target.others (codes "CARGO_BUILD_JOBS") (λ e. target≢jobs (sym e)) ∙ plain.variables (codes "CARGO_BUILD_JOBS"));
  colors = colors.variable (jobs.others (codes "CARGO_TERM_COLOR") (λ e. jobs≢colors (sym e)) ∙ target.others (codes "CARGO_TERM_COLOR") (λ e. target≢colors (sym e)) ∙ plain.variables (codes "CARGO_TERM_COLOR"));
  others = λ variable other. colors.others variable other.colors ∙ jobs.others variable other.jobs ∙ target.others variable other.target ∙ plain.variables variable;
}
