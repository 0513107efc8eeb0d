-- The plan of a call with a subcommand.
use Rattle.std.proofs.Common.{◌≡◌, sym, subst, List, Option, Some, None, Ok, Global, String, IfOk, is_some, true, ℕ}
use Rattle.std.specs.Prelude.{IsOkAnd}
use Rattle.hack_load.specs.Contexts.{ContextRecord}
use Rattle.hack_plan.specs.View.{PlanView}
use Rattle.hack_base.specs.Notes.{Note}
use Rattle.hack_versions.specs.declared.version.Version.{Version}
use Rattle.hack_planner.specs.declared.stable.Stable.{Stable}
use Rattle.hack_planner.specs.CallPlan.{IsPlan, IsPlanOf, latest_of}

-- the plan by the subcommand, where this is the version to plan with
pub by-subcommand : (subcommand : Option (String Global)) (stable : Stable) (latest : Option Version) (cx : ContextRecord) (rustup : List ℕ) (plan : PlanView) (notes : List Note)
    → is_some subcommand ≡ true → latest_of stable ≡ Ok latest → IsPlan cx rustup latest plan notes → IsPlanOf subcommand stable cx rustup plan notes
by-subcommand None stable latest cx rustup plan notes none is h = absurd (cc)
by-subcommand (Some name) stable latest cx rustup plan notes none is h = subst (λ r. IsOkAnd r (λ v. IsPlan cx rustup v plan notes)) (sym is) h

-- what holds of the version to plan with
pub of-latest : (stable : Stable) (latest : Option Version) (P : Option Version → Type 0) → latest_of stable ≡ Ok latest → P latest → IfOk (latest_of stable) P
of-latest stable latest P is h = subst (λ r. IfOk r P) (sym is) h
