-- The headline, put together from the plan and its session.
use Rattle.std.proofs.Common.{◌≡◌, ap, sym, subst, List, Option, None, Some, IfOk, true, IsSome, Global, String, length}
use Rattle.hack_planner.specs.CallPlan.{HasRunsOf, IsPlanOf, latest_of}
use Rattle.hack_planner.specs.Powersets.{HavePowersets}
use Rattle.hack_planner.specs.Samples.{HaveSamples, ArePatternsHeld}
use Rattle.hack_rules.specs.declared.uses.behavior.WorkspaceBehavior.TheVariants.{Cargo}
use Rattle.hack_base.specs.Names.{Name}
use Rattle.hack_load.specs.Contexts.{ContextRecord}
use Rattle.hack_plan.specs.View.{PlanView}
use Rattle.hack_session.specs.Handouts.{HandsOut}
use Rattle.hack_session.specs.Histories.{Course, IsHistory, next_of}
use Rattle.hack_session.specs.Schedules.{IsSchedule}
use Rattle.hack_partition.proofs.PieceLemmas.{in_just_one, joined-all}
use Rattle.hack_base.specs.Notes.{Note}
use Rattle.hack_planner.specs.declared.stable.Stable.{Stable}
use Rattle.hack_planner.specs.declared.stable.Stable.TheVariants.{Unasked, Known, Unknown}
use Rattle.hack_words.specs.declared.cli.args.Args.{Args}
use Rattle.hack_drive.specs.Headline.{AreShared, IsHandedOut}

-- the pieces of any plan
shared : {A : Type 0} (plan : List A) → AreShared plan
shared plan = record {
  once = λ kind count place some lt. in_just_one count (length plan) some kind place lt;
  blocks = λ count some. joined-all count some plan;
}

-- the places of a call's plan
runs-of : (subcommand : Option (String Global)) (stable : Stable) (cx : ContextRecord) (rustup : Name) (plan : PlanView) (notes : List Note) → IsPlanOf subcommand stable cx rustup plan notes → HasRunsOf subcommand stable cx plan
runs-of None stable cx rustup plan notes h = ap (λ (p : PlanView). p.entries) h.0
runs-of (Some name) Unasked cx rustup plan notes h = h.performed.base
runs-of (Some name) (Known v) cx rustup plan notes h = h.performed.base
runs-of (Some name) (Unknown text) cx rustup plan notes h = h

-- the session of a context's plan and the chosen piece, driven to its end
pub handed_out : (cx : ContextRecord) (stable : Stable) (rustup : Name) (t : Course) (plan : PlanView) (notes : List Note) (given : Args) → given ≡ cx.args
    → IsPlanOf cx.args.subcommand stable cx rustup plan notes → IfOk (latest_of stable) (λ latest. IsSome cx.args.subcommand → cx.args.feature_powerset ≡ true → HavePowersets cx latest plan)
    → IfOk (latest_of stable) (λ latest. IsSome cx.args.subcommand → cx.args.feature_powerset ≡ true → HaveSamples cx latest plan)
    → IfOk (latest_of stable) (λ latest. IsSome cx.args.subcommand → cx.args.feature_powerset ≡ true → ¬ (cx.args.workspace_behavior ≡ Cargo) → ArePatternsHeld cx latest plan)
    → t.plan ≡ plan → t.keep_going ≡ cx.args.keep_going → IsSchedule given.partition plan t.schedule → next_of t ≡ None → IsHistory t → HandsOut given.partition (length plan.entries) t
    → IsHandedOut cx stable t
handed_out cx stable rustup t plan notes given args planned powersets samples patterns same goes_on schedule complete history runs = record {
  plan = subst (λ (p : PlanView). HasRunsOf cx.args.subcommand stable cx p) (sym same) (runs-of cx.args.subcommand stable cx rustup plan notes planned);
  driven = record {
    schedule = subst (λ (p : PlanView). IsSchedule cx.args.partition p t.schedule) (sym same) (subst (λ (a : Args). IsSchedule a.partition plan t.schedule) args schedule);
    goes_on = goes_on;
    history = history;
    complete = complete;
  };
  runs = subst (λ (p : PlanView). HandsOut cx.args.partition (length p.entries) t) (sym same) (subst (λ (a : Args). HandsOut a.partition (length plan.entries) t) args runs);
  pieces = shared t.plan.entries;
  powersets = subst (λ (p : PlanView). IfOk (latest_of stable) (λ latest. IsSome cx.args.subcommand → cx.args.feature_powerset ≡ true → HavePowersets cx latest p)) (sym same) powersets;
  samples = subst (λ (p : PlanView). IfOk (latest_of stable) (λ latest. IsSome cx.args.subcommand → cx.args.feature_powerset ≡ true → HaveSamples cx latest p)) (sym same) samples;
  patterns = subst (λ (p : PlanView). IfOk (latest_of stable) (λ latest. IsSome cx.args.subcommand → cx.args.feature_powerset ≡ true → ¬ (cx.args.workspace_behavior ≡ Cargo) → ArePatternsHeld cx latest p)) (sym same) patterns;
}
