-- How the steps of a plan are taken one by one.
use Rattle.std.specs.Prelude.{ℕ, ◌≡◌, ◌≤◌, Bool, List, [], ◌∷◌, ◌++◌, drop, length, Option}
use Rattle.std.specs.List.{flat_map, list_any}
use Rattle.hack_partition.specs.declared.partition.Partition.{Partition}
use Rattle.hack_plan.specs.declared.parts.PlanVersion.{PlanVersion}
use Rattle.hack_plan.specs.View.{PlanView}
use Rattle.hack_session.specs.declared.schedule.Cursor.{Cursor}
use Rattle.hack_session.specs.declared.step.Step.{Step}
use Rattle.hack_session.specs.declared.step.Outcome.{Outcome}
use Rattle.hack_session.specs.declared.step.Handed.{Handed}
use Rattle.hack_session.specs.Histories.{Course, IsHistory, stops}
use Rattle.hack_session.specs.Schedules.{all_steps, in_piece, steps_of}

-- the steps of versions, without the first ones of the first version
abbrev pub steps_without_first : (ℕ → Bool) → ℕ → List PlanVersion → List Step
steps_without_first inside taken [] = []
steps_without_first inside taken (v ∷ vs) = drop taken (steps_of inside v) ++ flat_map (steps_of inside) vs

-- the steps that are left at a cursor
abbrev pub steps_left : Option Partition → PlanView → Cursor → List Step
steps_left piece plan c = steps_without_first (in_piece piece (length plan.entries)) c.taken (drop c.version plan.versions)

-- steps with their outcomes, as far as there are both
abbrev pub with_outcomes : List Step → List Outcome → List Handed
with_outcomes [] outcomes = []
with_outcomes (step ∷ steps) [] = []
with_outcomes (step ∷ steps) (outcome ∷ outcomes) = record { step = step; outcome = outcome } ∷ with_outcomes steps outcomes

-- the course of a plan and a piece, of which the first steps had these outcomes
abbrev pub course_of : Option Partition → PlanView → List Outcome → Bool → Course
course_of piece plan outcomes keep = record { plan = plan; schedule = all_steps piece plan; handed = with_outcomes (all_steps piece plan) outcomes; keep_going = keep }

-- each outcome is that of a step, the cursor is after these steps, and it is known whether one of them stops
pub record IsOnItsWay (piece : Option Partition) (plan : PlanView) (cursor : Cursor) (outcomes : List Outcome) (keep stopped : Bool) : Type 0 where
  pub within : length outcomes ≤ length (all_steps piece plan)
  pub left : steps_left piece plan cursor ≡ drop (length outcomes) (all_steps piece plan)
  pub known : stopped ≡ list_any (stops keep) (with_outcomes (all_steps piece plan) outcomes)
  pub history : IsHistory (course_of piece plan outcomes keep)
