-- The headline: what is handed out for a context, whatever comes of its steps.
use Rattle.std.specs.Prelude.{ℕ, ◌≡◌, ◌<◌, true, List, IfOk, IsSome, length}
use Rattle.hack_planner.specs.CallPlan.{HasRunsOf, latest_of}
use Rattle.hack_planner.specs.declared.stable.Stable.{Stable}
use Rattle.hack_planner.specs.Powersets.{HavePowersets}
use Rattle.hack_planner.specs.Samples.{HaveSamples, ArePatternsHeld}
use Rattle.hack_rules.specs.declared.uses.behavior.WorkspaceBehavior.TheVariants.{Cargo}
use Rattle.hack_load.specs.Contexts.{ContextRecord}
use Rattle.hack_session.specs.Handouts.{HandsOut, IsDriven}
use Rattle.hack_session.specs.Histories.{Course}
use Rattle.hack_partition.specs.Pieces.{InJustOnePiece, joined_blocks}
use Rattle.hack_partition.specs.declared.partition.PartitionKind.{PartitionKind}

-- each place of a plan is in exactly one of its pieces, for each number of them and each kind of
-- partition; and the blocks, one after the other, are the plan
pub record AreShared {A : Type 0} (plan : List A) : Type 0 where
  pub once : (kind : PartitionKind) (count place : ℕ) → 0 < count → place < length plan → InJustOnePiece kind count (length plan) place
  pub blocks : (count : ℕ) → 0 < count → joined_blocks count plan ≡ plan

-- The places of the session's plan are exactly the admissible runs, in order. It was driven to its end.
-- The runs handed out are the chosen piece of the plan, in order, each place once, until a step stops or
-- the piece ends. The pieces share out the plan. Under a powerset the sets of each package that uses a
-- version are, by its rules, exactly the listed ones, each once; or with a strength a sample of them, and
-- the plan has a place for each pattern of at most so many candidates that some listed set shows, for
-- each such package, version and slot. What the plan says beyond its places is in `ran` of
-- `drive_context`.
pub record IsHandedOut (cx : ContextRecord) (stable : Stable) (t : Course) : Type 0 where
  pub plan : HasRunsOf cx.args.subcommand stable cx t.plan
  pub driven : IsDriven cx.args.partition cx.args.keep_going t
  pub runs : HandsOut cx.args.partition (length t.plan.entries) t
  pub pieces : AreShared t.plan.entries
  pub powersets : IfOk (latest_of stable) (λ latest. IsSome cx.args.subcommand
      → cx.args.feature_powerset ≡ true → HavePowersets cx latest t.plan)
  pub samples : IfOk (latest_of stable) (λ latest. IsSome cx.args.subcommand
      → cx.args.feature_powerset ≡ true → HaveSamples cx latest t.plan)
  pub patterns : IfOk (latest_of stable) (λ latest. IsSome cx.args.subcommand
      → cx.args.feature_powerset ≡ true → ¬ (cx.args.workspace_behavior ≡ Cargo)
      → ArePatternsHeld cx latest t.plan)
