-- What a session hands out, and the outcomes that it records.
use Rattle.std.specs.Prelude.{ℕ, ◌≡◌, ◌+◌, ◌<◌, ◌++◌, List, ◌∷◌, [], length, map, take, slice_get, slice_index_or, Bool, true, false, not, Option, None, IfSome, if◌then◌else◌}
use Rattle.std.specs.List.{list_any}
use Rattle.hack_plan.specs.View.{PlanView}
use Rattle.hack_session.specs.declared.step.Step.{Step}
use Rattle.hack_session.specs.declared.step.Step.TheVariants.{Prepare, Skip, Run}
use Rattle.hack_session.specs.declared.step.Outcome.{Outcome}
use Rattle.hack_session.specs.declared.step.Outcome.TheVariants.{Passed, Failed}
use Rattle.hack_session.specs.declared.step.Handed.{Handed}

-- a plan, its schedule, what was handed out of that with its outcomes, and whether runs go on after
-- a failed one
pub record Course : Type 0 where
  pub plan : PlanView
  pub schedule : List Step
  pub handed : List Handed
  pub keep_going : Bool

-- the plan has the place of a step
abbrev pub IsStepOf : PlanView → Step → Type 0
IsStepOf plan (Prepare preparation) = Unit {0}
IsStepOf plan (Skip place) = place < length plan.entries
IsStepOf plan (Run place) = place < length plan.entries

-- a failed preparation stops, and a failed run does unless runs go on; a skipped place never stops
abbrev pub stops_at : Bool → Step → Outcome → Bool
stops_at keep (Prepare preparation) Failed = true
stops_at keep (Run place) Failed = not keep
stops_at keep step outcome = false

-- a step with its outcome stops the session
abbrev pub stops : Bool → Handed → Bool
stops keep h = stops_at keep h.step h.outcome

-- the step that was handed out
abbrev pub step_of : Handed → Step
step_of h = h.step

-- a front of the schedule with an outcome for each element, in which no element but the last stops
pub record IsHistory (t : Course) : Type 0 where
  pub front : map step_of t.handed ≡ take (length t.handed) t.schedule
  pub goes : (k : ℕ) (d : Handed) → k + 1 < length t.handed → stops t.keep_going (slice_index_or t.handed k d) ≡ false

-- the next element of the schedule after the history; none where one stopped or the schedule ends
abbrev pub next_of : Course → Option Step
next_of t = if list_any (stops t.keep_going) t.handed then None else slice_get t.schedule (length t.handed)

-- new is old with the next step and this outcome after its history
abbrev pub Hands : Course → Outcome → Course → Type 0
Hands old outcome new = IfSome (next_of old) (λ step. new ≡ record old { handed = old.handed ++ record { step = step; outcome = outcome } ∷ [] })

-- the session's plan, its schedule, and whether its runs go on, are those of another
pub record IsSameCourse (t other : Course) : Type 0 where
  pub plan : t.plan ≡ other.plan
  pub schedule : t.schedule ≡ other.schedule
  pub keep_going : t.keep_going ≡ other.keep_going

-- a step that passed
abbrev pub HasPassed : Handed → Type 0
HasPassed h = h.outcome ≡ Passed

-- a step with the outcome that it passed
abbrev pub passed_step : Step → Handed
passed_step step = record { step = step; outcome = Passed }
