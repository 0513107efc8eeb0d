-- The command list.
use Rattle.std.specs.Prelude.{ℕ, ◌≡◌, ◌⊎◌, Bool, true, false, List, [], ◌∷◌, ◌++◌, None, Option, Result, Ok, Err, codes, slice_get, if◌then◌else◌}
use Rattle.std.specs.Option.{option_map_or}
use Rattle.std.specs.Io.KnownBytes.{Appends, Keeps}
use Rattle.hack_plan.specs.declared.places.PlanEntry.{PlanEntry}
use Rattle.hack_process.specs.CommandTexts.{Command, listed_of}
use Rattle.hack_plan.specs.declared.parts.Preparation.TheVariants.{Toolchain, Lockfile, Clean}
use Rattle.hack_plan.specs.View.{PlanView}
use Rattle.hack_plan.specs.Commands.{clean_command, command_of_entry, chosen_package_at}
use Rattle.hack_session.specs.declared.step.Step.{Step}
use Rattle.hack_session.specs.declared.step.Step.TheVariants.{Prepare, Run}
use Rattle.hack_session.specs.declared.step.Outcome.{Outcome}
use Rattle.hack_session.specs.declared.step.Outcome.TheVariants.{Passed, Failed}
use Rattle.hack_session.specs.declared.step.Handed.{Handed}
use Rattle.hack_base.specs.Counters.{GrowsBy}

-- a command's line in a list
abbrev pub line_of : List ℕ → Command → List ℕ
line_of dir command = listed_of dir command ++ codes "\n"

-- the lines of a run: that of its cleaning where runs are cleaned, and its own
abbrev pub lines_of : PlanView → PlanEntry → List ℕ
lines_of plan q = (if plan.call.clean_per_run
    then line_of plan.call.dir (clean_command plan.call (chosen_package_at plan.packages q.package)) else [])
    ++ line_of plan.call.dir (command_of_entry plan q)

-- the lines of the run at a place
abbrev pub run_lines_at : PlanView → Option PlanEntry → List ℕ
run_lines_at plan o = option_map_or (lines_of plan) o []

-- what a step lists: the cleaning's line for a cleaning, and a run's lines; nothing else
abbrev pub step_lines : PlanView → Step → List ℕ
step_lines plan (Prepare (Clean v)) = line_of plan.call.dir (clean_command plan.call None)
step_lines plan (Run place) = run_lines_at plan (slice_get plan.entries place)
step_lines plan step = []

-- a step that isn't listed, but performed: a toolchain or a lockfile
abbrev pub is_sent_step : Step → Bool
is_sent_step (Prepare (Toolchain v)) = true
is_sent_step (Prepare (Lockfile v)) = true
is_sent_step step = false

-- such a step that was handed out
abbrev pub is_sent : Handed → Bool
is_sent h = is_sent_step h.step

-- an outcome is a failure
abbrev pub is_failed : Outcome → Bool
is_failed Passed = false
is_failed Failed = true

-- a line that can't be written counts as one failure
abbrev pub CountsFailedLine : {T E : Type 0} → ℕ → ℕ → Result T E → Type 0
CountsFailedLine before now (Ok done) = GrowsBy 0 before now
CountsFailedLine before now (Err fault) = GrowsBy 1 before now

-- what a list's writer holds, where that is known; how many lines it failed to write; and how many
-- steps were cut short because memory was refused
pub record Page : Type 0 where
  pub contents : Option (List ℕ)
  pub failed : ℕ
  pub refused : ℕ

-- a step passed, and its lines were written
pub record WritesLines (lines : List ℕ) (outcome : Outcome) (old new : Page) : Type 0 where
  pub passes : outcome ≡ Passed
  pub written : Appends old.contents new.contents lines
  pub counted : GrowsBy 0 old.failed new.failed
  pub kept : new.refused ≡ old.refused

-- a step failed, since a line couldn't be written, which is counted; where lines are written whole or not at all, nothing of it was written
pub record Misses (whole : Type 0) (outcome : Outcome) (old new : Page) : Type 0 where
  pub fails : outcome ≡ Failed
  pub counted : GrowsBy 1 old.failed new.failed
  pub left : whole → Keeps old.contents new.contents
  pub kept : new.refused ≡ old.refused

-- a step failed, since memory was refused, which is counted, and nothing was written
pub record FailsForMemory (outcome : Outcome) (old new : Page) : Type 0 where
  pub fails : outcome ≡ Failed
  pub counted : GrowsBy 1 old.refused new.refused
  pub kept : (new.contents ≡ old.contents) × (new.failed ≡ old.failed)

-- a step of the list: its lines were written, a write failed, or memory was refused; a step that is
-- performed leaves the page as it is
abbrev pub ListsStep : Type 0 → Bool → PlanView → Handed → Page → Page → Type 0
ListsStep whole true plan h old new = new ≡ old
ListsStep whole false plan h old new = WritesLines (step_lines plan h.step) h.outcome old new ⊎ (Misses whole h.outcome old new ⊎ FailsForMemory h.outcome old new)

-- steps of a list, one after the other
abbrev pub ListsAll : Type 0 → PlanView → List Handed → Page → Page → Type 0
ListsAll whole plan [] old new = new ≡ old
ListsAll whole plan (h ∷ steps) old new = (mid : Page) × ListsStep whole (is_sent h) plan h old mid × ListsAll whole plan steps mid new

-- the lines of a step that passed, and nothing of one that failed
abbrev pub lines_written : PlanView → Handed → List ℕ
lines_written plan h = if is_failed h.outcome then [] else step_lines plan h.step

-- the page of a writer that holds this, and of these counts
abbrev pub page_of : Option (List ℕ) → ℕ → ℕ → Page
page_of contents failed refused = record { contents = contents; failed = failed; refused = refused }
