-- What a step does: which commands are called and what comes of them, what is said, and which error is kept or told.
use Rattle.std.specs.Prelude.{◌≡◌, ◌≢◌, ◌⊎◌, ℕ, Bool, true, false, ◌&&◌, not, MatchBool, MatchResult, IfErr, IsOk, IsSomeAnd, List, [], ◌∷◌, codes, Option, Some, None, Result, Ok, Err, slice_get, if◌then◌else◌}
use Rattle.std.specs.Option.{option_map_or}
use Rattle.std.specs.Result.{is_err}
use Rattle.hack_base.specs.Counters.{GrowsBy}
use Rattle.hack_base.specs.declared.writes.Sink.{Ghosts as Taking}
use Rattle.hack_term.specs.Lines.{error_line}
use Rattle.hack_versions.specs.declared.version.Version.{Version}
use Rattle.hack_process.specs.declared.caller.Caller.{Ghosts as Calling}
use Rattle.hack_process.specs.declared.fault.ProcessFault.{ProcessFault}
use Rattle.hack_process.specs.declared.fault.ProcessFault.TheVariants.{Memory, EmptyProgram, NeverExecuted, NotText, Failed as ByFailure}
use Rattle.hack_process.specs.Calls.{Asked, Call, IsSuccess}
use Rattle.hack_process.specs.Commands.{asked_of}
use Rattle.hack_process.specs.CommandTexts.{Command, text_of}
use Rattle.hack_process.specs.Faults.{GotAnswer, IsFault, ShowsNothing, fault_text}
use Rattle.hack_plan.specs.View.{PlanView}
use Rattle.hack_plan.specs.Commands.{chosen_package_at, clean_command, command_of_entry, lockfile_command, toolchain_of}
use Rattle.hack_plan.specs.declared.places.PlanEntry.{PlanEntry}
use Rattle.hack_plan.specs.declared.parts.Preparation.TheVariants.{Toolchain, Lockfile, Clean}
use Rattle.hack_session.specs.Toolchains.{addition_of, trial_of}
use Rattle.hack_session.specs.StepCalls.{number_at}
use Rattle.hack_session.specs.StepOutput.{Manner, OnErr, Said, Says, SaysAll, Streams, addition_said, cleaning_said, space_said, status_said, streams_of}
use Rattle.hack_session.specs.declared.screen.Screen.{Screen}
use Rattle.hack_session.specs.declared.step.Step.{Step}
use Rattle.hack_session.specs.declared.step.Step.TheVariants.{Prepare, Skip, Run}
use Rattle.hack_session.specs.declared.step.Outcome.TheVariants.{Passed, Failed}
use Rattle.hack_session.specs.declared.step.Handed.{Handed}

-- ---- commands

-- the calls so far, and two streams
pub record Scene : Type 0 where
  pub calls : List Call
  pub streams : Streams

-- the scene of a caller and a screen
abbrev pub scene_of : {C O E : Type 0} → Calling C → Taking O → Taking E → C → Screen O E → Scene
scene_of c o e caller screen = record { calls = c.calls caller; streams = streams_of o e screen }

-- a command that is to be called, how an error shows it, and what is said around it
pub record Task : Type 0 where
  pub says : List Said
  pub asked : Asked
  pub shown : List ℕ

-- the task of a command: what is said around it, and whether its output is captured
abbrev pub task_of : List Said → Bool → List ℕ → Command → Task
task_of says capture dir command = record { says = says; asked = asked_of capture command; shown = text_of true dir command }

-- by what its call returned: the command ended with status 0, or the error says how it failed, and
-- shows output only where that was captured
abbrev pub ComesTo : Type 0 → Asked → List ℕ → Result (Unit {0}) ProcessFault → List Call → List Call → Type 0
ComesTo tells asked shown (Ok done) old new =
    (asked.program ≢ []) × (tells → GotAnswer (λ answer. IsSuccess answer.end) asked old new)
ComesTo tells asked shown (Err fault) old new =
    IsFault tells asked shown old new fault × (asked.capture ≡ false → ShowsNothing fault)

-- a command was called, and what is said around it was; or memory was refused before all that
abbrev pub DoesTask : Type 0 → Task → Result (Unit {0}) ProcessFault → Scene → Scene → Type 0
DoesTask tells task came old new =
    ((came ≡ Err Memory) × (new ≡ old))
    ⊎ (SaysAll task.says old.streams new.streams × ComesTo tells task.asked task.shown came old.calls new.calls)

-- tasks were performed in order, up to the first that failed
abbrev pub DoesTasks : Type 0 → List Task → Result (Unit {0}) ProcessFault → Scene → Scene → Type 0
DoesTasks tells [] came old new = IsOk came × (new ≡ old)
DoesTasks tells (task ∷ more) came old new =
    ((is_err came ≡ true) × DoesTask tells task came old new)
    ⊎ ((mid : Scene) × DoesTask tells task (Ok tt) old mid × DoesTasks tells more came mid new)

-- where there are no targets, the first task was tried, and the second performed where that failed; else just the second
abbrev pub TriesFirst : Type 0 → List (List ℕ) → Task → Task → Result (Unit {0}) ProcessFault → Scene → Scene → Type 0
TriesFirst tells [] try add came old new =
    (IfErr came (λ fault. fault ≡ Memory) × DoesTask tells try came old new)
    ⊎ ((fault : ProcessFault) × (mid : Scene) × (fault ≢ Memory) × DoesTask tells try (Err fault) old mid × DoesTask tells add came mid new)
TriesFirst tells (target ∷ targets) try add came old new = DoesTask tells add came old new

-- ---- the tasks of steps

-- a version's toolchain is tried, without a word
abbrev pub trial_task : PlanView → Version → Task
trial_task plan v = task_of [] true plan.call.dir (trial_of plan.call.rustup (toolchain_of v))

-- a toolchain is added in a group; or without a word, and what rustup writes is dropped
abbrev pub adding_task : Bool → Manner → List ℕ → Command → Task
adding_task prints m dir add = task_of (if prints then addition_said m dir add else []) (not prints) dir add

-- a version's toolchain is added for the targets of the plan
abbrev pub addition_task : Manner → PlanView → Version → Task
addition_task m plan v = adding_task true m plan.call.dir (addition_of plan.call.rustup (toolchain_of v) plan.call.targets)

-- a version's lockfile is made anew, without a word, where the version has a number
abbrev pub lockfile_tasks : PlanView → Option Version → List Task
lockfile_tasks plan o = option_map_or (λ v. task_of [] true plan.call.dir (lockfile_command plan.call v) ∷ []) o []

-- a cleaning, which is told where commands are shown in full
abbrev pub cleaning_task : Manner → List ℕ → Command → Task
cleaning_task m dir command = task_of (cleaning_said m dir command) false dir command

-- a run's own command, in a group with its status
abbrev pub own_task : Manner → PlanView → ℕ → PlanEntry → Task
own_task m plan place q = task_of (status_said m (codes "running") plan place q) false plan.call.dir (command_of_entry plan q)

-- the tasks of a run: its cleaning where runs are cleaned, and its own command
abbrev pub run_tasks : Manner → PlanView → ℕ → PlanEntry → List Task
run_tasks m plan place q =
    if plan.call.clean_per_run then cleaning_task m plan.call.dir (clean_command plan.call (chosen_package_at plan.packages q.package)) ∷ own_task m plan place q ∷ []
    else own_task m plan place q ∷ []

-- a version's toolchain was made sure of, where the version has a number
abbrev pub EnsuresToolchain : Type 0 → Manner → PlanView → Option Version → Result (Unit {0}) ProcessFault → Scene → Scene → Type 0
EnsuresToolchain tells m plan None came old new = IsOk came × (new ≡ old)
EnsuresToolchain tells m plan (Some v) came old new = TriesFirst tells plan.call.targets (trial_task plan v) (addition_task m plan v) came old new

-- an empty line was said, and the run at a place performed
abbrev pub Runs : Type 0 → Manner → PlanView → ℕ → PlanEntry → Result (Unit {0}) ProcessFault → Scene → Scene → Type 0
Runs tells m plan place q came old new =
    (mid : Streams) × SaysAll (space_said m.group place) old.streams mid
    × DoesTasks tells (run_tasks m plan place q) came (record old { streams = mid }) new

-- an empty line was said, and the status of a skipped place, unless memory was refused
abbrev pub Skips : Manner → PlanView → ℕ → PlanEntry → Result (Unit {0}) ProcessFault → Streams → Streams → Type 0
Skips m plan place q came old new =
    (mid : Streams) × SaysAll (space_said m.group place) old mid
    × MatchResult came (λ done. SaysAll (status_said m (codes "skipping") plan place q) mid new) (λ fault. (fault ≡ Memory) × (new ≡ mid))

-- by what its function returned: what a step did, but for what comes of its error
abbrev pub Performed : Type 0 → Manner → PlanView → Step → Result (Unit {0}) ProcessFault → Scene → Scene → Type 0
Performed tells m plan (Prepare (Toolchain v)) came old new = EnsuresToolchain tells m plan (number_at (slice_get plan.versions v)) came old new
Performed tells m plan (Prepare (Lockfile v)) came old new = DoesTasks tells (lockfile_tasks plan (number_at (slice_get plan.versions v))) came old new
Performed tells m plan (Prepare (Clean v)) came old new = DoesTask tells (cleaning_task m plan.call.dir (clean_command plan.call None)) came old new
Performed tells m plan (Skip place) came old new =
    IsSomeAnd (slice_get plan.entries place) (λ q. Skips m plan place q came old.streams new.streams) × (new.calls ≡ old.calls)
Performed tells m plan (Run place) came old new = IsSomeAnd (slice_get plan.entries place) (λ q. Runs tells m plan place q came old new)

-- ---- what comes of an error

-- what steps did so far: the scene, the error that is kept for the last line, whether an error was
-- told, and how many steps were cut short because memory was refused
pub record State : Type 0 where
  pub scene : Scene
  pub kept : Option ProcessFault
  pub told : Bool
  pub refused : ℕ

-- the state of what a starter has
abbrev pub state : List Call → Streams → Option ProcessFault → Bool → ℕ → State
state calls said kept told refused = record { scene = record { calls = calls; streams = said }; kept = kept; told = told; refused = refused }

-- memory was refused
abbrev pub is_memory : ProcessFault → Bool
is_memory Memory = true
is_memory EmptyProgram = false
is_memory (NeverExecuted text) = false
is_memory (NotText text) = false
is_memory (ByFailure failure) = false

-- the step is a run
abbrev pub is_run : Step → Bool
is_run (Prepare part) = false
is_run (Skip place) = false
is_run (Run place) = true

-- an error's line was said, and just that
abbrev pub Tells : Manner → List ℕ → State → State → Type 0
Tells m text old new =
    Says (OnErr (error_line m.coloring text)) old.scene.streams new.scene.streams
    × (new ≡ record old { scene = record old.scene { streams = new.scene.streams }; told = true })

-- the text of an error, unless memory was refused for it
abbrev pub IsToldAs : ProcessFault → List ℕ → Type 0
IsToldAs fault text = (text ≡ fault_text fault) ⊎ (text ≡ codes "out of memory")

-- memory was refused in the step, which was told at once and counted
abbrev pub TellsMemory : Manner → State → State → Type 0
TellsMemory m old new = GrowsBy 1 old.refused new.refused × Tells m (codes "out of memory") (record old { refused = new.refused }) new

-- what came of a step's error: that of a run was told at once where runs go on after it, and that of
-- a step at which the session stops was kept
abbrev pub AnswersFault : Bool → Manner → Step → ProcessFault → State → State → Type 0
AnswersFault keep_going m step fault old new =
    MatchBool (is_memory fault) (TellsMemory m old new)
    (MatchBool (keep_going && is_run step) ((text : List ℕ) × IsToldAs fault text × Tells m text old new)
    (new ≡ record old { kept = Some fault }))

-- a step passed where its function returned no error, and else failed
abbrev pub Ends : Bool → Manner → Handed → Result (Unit {0}) ProcessFault → State → State → Type 0
Ends keep_going m h (Ok done) old new = (h.outcome ≡ Passed) × (new ≡ old)
Ends keep_going m h (Err fault) old new = (h.outcome ≡ Failed) × AnswersFault keep_going m h.step fault old new

-- a step was performed, and ended so
abbrev pub Does : Type 0 → Bool → Manner → PlanView → Handed → State → State → Type 0
Does tells keep_going m plan h old new =
    (came : Result (Unit {0}) ProcessFault) × (mid : Scene) × Performed tells m plan h.step came old.scene mid
    × Ends keep_going m h came (record old { scene = mid }) new

-- steps were performed, one after the other
abbrev pub DoesAll : Type 0 → Bool → Manner → PlanView → List Handed → State → State → Type 0
DoesAll tells keep_going m plan [] old new = new ≡ old
DoesAll tells keep_going m plan (h ∷ steps) old new =
    (mid : State) × Does tells keep_going m plan h old mid × DoesAll tells keep_going m plan steps mid new
