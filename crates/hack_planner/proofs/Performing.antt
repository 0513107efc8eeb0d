-- What a plan's calls and notices depend on, without the rest of what is said of the plan.
use Rattle.std.proofs.Common.{List, Option, None, Some, Global, String}
use Rattle.hack_base.specs.Names.{Name}
use Rattle.hack_base.specs.Notes.{Note}
use Rattle.hack_load.specs.Contexts.{ContextRecord}
use Rattle.hack_plan.specs.View.{PlanView}
use Rattle.hack_planner.specs.CallPlan.{IsPerformableOf, IsPlanOf}
use Rattle.hack_planner.specs.declared.stable.Stable.{Stable}
use Rattle.hack_planner.specs.declared.stable.Stable.TheVariants.{Unasked, Known, Unknown}

-- the plan of a call has what its calls and notices depend on
pub performable : (subcommand : Option (String Global)) (stable : Stable) (cx : ContextRecord) (rustup : Name) (plan : PlanView) (notes : List Note)
    → IsPlanOf subcommand stable cx rustup plan notes → IsPerformableOf subcommand stable cx rustup plan notes
performable None stable cx rustup plan notes h = h
performable (Some name) Unasked cx rustup plan notes h = h.performed
performable (Some name) (Known v) cx rustup plan notes h = h.performed
performable (Some name) (Unknown text) cx rustup plan notes h = h
