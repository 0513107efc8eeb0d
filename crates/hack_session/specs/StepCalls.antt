-- What a step asks of a caller.
use Rattle.std.specs.Option.{option_map_or}
use Rattle.std.specs.Prelude.{◌≡◌, ◌≢◌, ◌⊎◌, ◌+◌, ℕ, true, false, List, [], ◌∷◌, ◌++◌, Option, Some, None, option_and_then, slice_get, IsSomeAnd, if◌then◌else◌}
use Rattle.hack_process.specs.Calls.{Asked, Call, IsSuccess}
use Rattle.hack_process.specs.declared.caller.End.{End}
use Rattle.hack_process.specs.Commands.{asked_of}
use Rattle.hack_versions.specs.declared.version.Version.{Version}
use Rattle.hack_plan.specs.declared.places.PlanEntry.{PlanEntry}
use Rattle.hack_plan.specs.declared.parts.PlanVersion.{PlanVersion}
use Rattle.hack_plan.specs.declared.parts.Preparation.TheVariants.{Toolchain, Lockfile, Clean}
use Rattle.hack_plan.specs.View.{PlanView}
use Rattle.hack_plan.specs.Commands.{clean_command, command_of_entry, lockfile_command, chosen_package_at, toolchain_of}
use Rattle.hack_session.specs.Toolchains.{addition_of, trial_of}
use Rattle.hack_session.specs.declared.step.Step.{Step}
use Rattle.hack_session.specs.declared.step.Step.TheVariants.{Prepare, Skip, Run}
use Rattle.hack_session.specs.declared.step.Outcome.{Outcome}
use Rattle.hack_session.specs.declared.step.Outcome.TheVariants.{Passed, Failed}
use Rattle.hack_session.specs.declared.step.Handed.{Handed}

-- the one call is of this command, whose program has a name, and ended so
pub record IsCallOf (Ends : End → Type 0) (asked : Asked) (calls : List Call) : Type 0 where
  pub call : Call
  pub one : calls ≡ call ∷ []
  pub asks : call.asked ≡ asked
  pub named : asked.program ≢ []
  pub ended : Ends call.answer.end

-- a command succeeds: it ends with status 0
abbrev pub Succeeds : Asked → List Call → Type 0
Succeeds asked calls = IsCallOf IsSuccess asked calls

-- a command fails: it doesn't end with status 0, or its program has no name and nothing is called
abbrev pub Fails : Asked → List Call → Type 0
Fails asked calls = IsCallOf (λ how. ¬ IsSuccess how) asked calls ⊎ ((asked.program ≡ []) × (calls ≡ []))

-- the calls are those of the commands, in order, up to the first that fails
abbrev pub CallsUpToFailure : List Asked → List Call → Outcome → Type 0
CallsUpToFailure [] calls outcome = (calls ≡ []) × (outcome ≡ Passed)
CallsUpToFailure (asked ∷ more) calls outcome =
    (Fails asked calls × (outcome ≡ Failed))
    ⊎ ((first rest : List Call) × (calls ≡ first ++ rest) × Succeeds asked first × CallsUpToFailure more rest outcome)

-- this command was called, whose program has a name, or nothing was
abbrev pub MayCall : Asked → List Call → Type 0
MayCall asked calls = (calls ≡ []) ⊎ IsCallOf (λ how. Unit {0}) asked calls

-- the calls are those of the commands, in order, up to one at which memory was refused
abbrev pub Breaks : List Asked → List Call → Type 0
Breaks [] calls = ⊥
Breaks (asked ∷ more) calls =
    MayCall asked calls
    ⊎ ((first rest : List Call) × (calls ≡ first ++ rest) × Succeeds asked first × Breaks more rest)

-- where there are no targets, the first command is tried, and the second is called where that fails; else just the second
abbrev pub Installs : List (List ℕ) → Asked → Asked → List Call → Outcome → Type 0
Installs [] try add calls outcome =
    (Succeeds try calls × (outcome ≡ Passed))
    ⊎ ((tried rest : List Call) × (calls ≡ tried ++ rest) × Fails try tried × CallsUpToFailure (add ∷ []) rest outcome)
Installs (target ∷ targets) try add calls outcome = CallsUpToFailure (add ∷ []) calls outcome

-- the same up to a command at which memory was refused
abbrev pub BreaksInstall : List (List ℕ) → Asked → Asked → List Call → Type 0
BreaksInstall [] try add calls =
    MayCall try calls
    ⊎ ((tried rest : List Call) × (calls ≡ tried ++ rest) × Fails try tried × Breaks (add ∷ []) rest)
BreaksInstall (target ∷ targets) try add calls = Breaks (add ∷ []) calls

-- what a run's own command asks
abbrev pub own_asked : PlanView → PlanEntry → Asked
own_asked plan q = asked_of false (command_of_entry plan q)

-- what a run's cleaning asks
abbrev pub cleaning_asked : PlanView → PlanEntry → Asked
cleaning_asked plan q = asked_of false (clean_command plan.call (chosen_package_at plan.packages q.package))

-- the commands of a run: its cleaning where runs are cleaned, and its own
abbrev pub commands_of : PlanView → PlanEntry → List Asked
commands_of plan q = if plan.call.clean_per_run then cleaning_asked plan q ∷ own_asked plan q ∷ [] else own_asked plan q ∷ []

-- the commands of the run at a place
abbrev pub run_commands : PlanView → Option PlanEntry → List Asked
run_commands plan o = option_map_or (commands_of plan) o []

-- the version's number, where there is one at the place
abbrev pub number_at : Option PlanVersion → Option Version
number_at o = option_and_then (λ v. v.version) o

-- what tries a version's toolchain
abbrev pub trial_asked : PlanView → Version → Asked
trial_asked plan v = asked_of true (trial_of plan.call.rustup (toolchain_of v))

-- what adds a version's toolchain
abbrev pub addition_asked : PlanView → Version → Asked
addition_asked plan v = asked_of false (addition_of plan.call.rustup (toolchain_of v) plan.call.targets)

-- the calls that install a version's toolchain, where the version has a number, and their outcome
abbrev pub InstallsAt : PlanView → Option Version → List Call → Outcome → Type 0
InstallsAt plan None calls outcome = (calls ≡ []) × (outcome ≡ Passed)
InstallsAt plan (Some v) calls outcome = Installs plan.call.targets (trial_asked plan v) (addition_asked plan v) calls outcome

-- the same up to where memory was refused
abbrev pub BreaksInstallAt : PlanView → Option Version → List Call → Type 0
BreaksInstallAt plan o calls =
    IsSomeAnd o (λ v. BreaksInstall plan.call.targets (trial_asked plan v) (addition_asked plan v) calls)

-- the command that makes the lockfile anew, where the version has a number
abbrev pub lockfile_commands : PlanView → Option Version → List Asked
lockfile_commands plan o = option_map_or (λ v. asked_of true (lockfile_command plan.call v) ∷ []) o []

-- the calls are just those of the step, which ends with this outcome
abbrev pub Exactly : PlanView → Step → List Call → Outcome → Type 0
Exactly plan (Prepare (Toolchain v)) calls outcome = InstallsAt plan (number_at (slice_get plan.versions v)) calls outcome
Exactly plan (Prepare (Lockfile v)) calls outcome = CallsUpToFailure (lockfile_commands plan (number_at (slice_get plan.versions v))) calls outcome
Exactly plan (Prepare (Clean v)) calls outcome = CallsUpToFailure (asked_of false (clean_command plan.call None) ∷ []) calls outcome
Exactly plan (Skip place) calls outcome = (calls ≡ []) × (outcome ≡ Passed)
Exactly plan (Run place) calls outcome = CallsUpToFailure (run_commands plan (slice_get plan.entries place)) calls outcome

-- the calls are those of the step up to where memory was refused
abbrev pub IsCutShort : PlanView → Step → List Call → Type 0
IsCutShort plan (Prepare (Toolchain v)) calls = BreaksInstallAt plan (number_at (slice_get plan.versions v)) calls
IsCutShort plan (Prepare (Lockfile v)) calls = Breaks (lockfile_commands plan (number_at (slice_get plan.versions v))) calls
IsCutShort plan (Prepare (Clean v)) calls = Breaks (asked_of false (clean_command plan.call None) ∷ []) calls
IsCutShort plan (Skip place) calls = calls ≡ []
IsCutShort plan (Run place) calls = Breaks (run_commands plan (slice_get plan.entries place)) calls

-- new is old with such calls after it
pub record MakesCalls (P : List Call → Type 0) (old new : List Call) : Type 0 where
  pub made : List Call
  pub grown : new ≡ old ++ made
  pub such : P made

-- the calls of a step, and whether it was cut short: no, and they are just its own; or memory was
-- refused in it, and it counts as one
abbrev pub Performs : PlanView → Handed → List Call → ℕ → Type 0
Performs plan h calls cut =
    (Exactly plan h.step calls h.outcome × (cut ≡ 0))
    ⊎ (IsCutShort plan h.step calls × (h.outcome ≡ Failed) × (cut ≡ 1))

-- the calls of steps, one after the other, so many of which were cut short
abbrev pub PerformsAll : PlanView → List Handed → List Call → ℕ → Type 0
PerformsAll plan [] calls cut = (calls ≡ []) × (cut ≡ 0)
PerformsAll plan (h ∷ steps) calls cut =
    (first rest : List Call) × (here : ℕ) × (later : ℕ) × (calls ≡ first ++ rest) × (cut ≡ here + later)
    × Performs plan h first here × PerformsAll plan steps rest later
