-- What only private functions of the crate promise each other.
use Rattle.std.specs.Prelude.{ℕ, ◌≡◌, ◌≢◌, ◌⊎◌, ◌||◌, [], IfErr, IfOk, IfSome, Bool, false, true, List, Option, Result, Some, None, Ok, Err, string_bytes, All, MatchBool, filter, nat_lt, MatchOption}
use Rattle.std.specs.Io.KnownBytes.{Keeps, Appends, append_known}
use Rattle.hack_base.specs.Names.{Name}
use Rattle.std.specs.Result.{is_err}
use Rattle.hack_files.specs.Files.{Change, Contents}
use Rattle.hack_files.specs.Restore.{is_kept, paths, registered_files}
use Rattle.hack_files.specs.declared.fs.Files.{Ghosts as Filing}
use Rattle.hack_files.specs.declared.restore.Manager.{Manager}
use Rattle.hack_load.specs.Answers.{IsLoaded}
use Rattle.hack_load.specs.ContextOf.{IsContextFrom}
use Rattle.hack_load.specs.Contexts.{ContextRecord}
use Rattle.hack_load.specs.declared.answers.Answers.{Answers}
use Rattle.hack_prepare.specs.EditSteps.{KeepsInOrder, KeepsOnly}
use Rattle.hack_prepare.specs.PreparedView.{AreWritesIn, IsPreparedIn, IsTouchedIn, edits_in, wanted_in}
use Rattle.hack_prepare.specs.Writes.{MakesSome}
use Rattle.hack_words.specs.declared.cli.args.Args.{Args}
use Rattle.hack_plan.specs.View.{PlanView}
use Rattle.hack_session.specs.declared.step.Handed.{Handed}
use Rattle.hack_base.specs.Notes.{Note}
use Rattle.hack_base.specs.Streams.{stream_of}
use Rattle.hack_versions.specs.declared.version.Version.{Version}
use Rattle.hack_planner.specs.declared.stable.Stable.{Stable}
use Rattle.hack_planner.specs.declared.stable.Stable.TheVariants as stable
use Rattle.hack_run.specs.LastingEdits.{LeavesEdits}
use Rattle.hack_run.specs.Worlds.{HostView, World, host_view}
use Rattle.hack_run.specs.declared.fault.RunFault.{RunFault}
use Rattle.hack_run.specs.declared.fault.RunFault.TheVariants as fault
use Rattle.hack_run.specs.declared.host.Host.{Host}
use Rattle.hack_base.specs.declared.writes.Sink.{Ghosts as Taking}
use Rattle.hack_process.specs.declared.caller.Caller.{Ghosts as Calling}
use Rattle.hack_run.specs.CallTrace.{PerformsOne, PerformsPlan, WritesText}
use Rattle.hack_report.specs.Conflicts.{has_conflict, is_open}
use Rattle.hack_report.specs.Findings.{is_failing, some_too_low}
use Rattle.hack_hunt.specs.declared.hunt.Hunted.{Hunted}
use Rattle.hack_msrv.specs.Searches.{AreUnbroken}
use Rattle.hack_msrv.specs.declared.found.Found.{Found}
use Rattle.hack_process.specs.Calls.{Call}
use Rattle.hack_versions.specs.ToolTexts.{rustup_part}
use Rattle.hack_versions.specs.declared.rustup.Rustup.{Rustup}
use Rattle.hack_versions.specs.declared.rustup.Rustup.TheVariants.{Unasked}
use Rattle.hack_words.specs.RustupView.{known_of}
use Rattle.hack_run.specs.Loading.{IsMinorIn}
use Rattle.hack_words.specs.ParseAnswers.{around_of}
use Rattle.hack_words.specs.Start.{wants_rustup}
use Rattle.hack_words.specs.declared.cli.env.Env.{Env}
use Rattle.hack_run.specs.Questions.{AsksRustup, TellsReason}
use Rattle.hack_run.specs.declared.reading.Reading.{Reading}
use Rattle.hack_words.specs.CommandLine.{Around}
use Rattle.std.specs.List.{flat_map, list_any}
use Rattle.hack_planner.specs.CallPlan.{IsPlanOf}
use Rattle.hack_planner.specs.declared.fault.PlanFault.{PlanFault}
use Rattle.hack_process.specs.declared.fault.ProcessFault.{ProcessFault}
use Rattle.hack_run.specs.Conclusions.{Conclusion, ConcludesSo, SaysSearch}
use Rattle.hack_run.specs.Handed.{is_search}
use Rattle.hack_run.specs.Shown.{Looks, SaysSteps, is_at_end}
use Rattle.hack_session.specs.Histories.{Course}
use Rattle.hack_session.specs.StepEffects.{Scene}
use Rattle.hack_session.specs.ListLines.{is_sent, lines_written}
use Rattle.hack_session.specs.Internal.{IsWrittenStep}
use Rattle.hack_session.specs.Handouts.{IsDriven}

-- what searches found is reported: whether a set fails is kept, and a warning noted where not all sets
-- are decided
pub record Reports (found : List Hunted) (had has warned warn : Bool) : Type 0 where
  pub kept : has ≡ (had || list_any has_conflict found)
  pub noted : warn ≡ (warned || list_any is_open found)

-- the same of searches for the least version, none of which was broken off: a warning is noted where a
-- package doesn't keep its own `rust-version`
pub record ReportsFound (cx : ContextRecord) (plan : PlanView) (found : List Found) (had has warned warn : Bool) : Type 0 where
  pub whole : AreUnbroken found
  pub kept : has ≡ (had || list_any is_failing found)
  pub noted : warn ≡ (warned || some_too_low cx plan 0 found)

-- one history was performed, or nothing was called and nothing listed
abbrev pub PerformsAtMostOne : Bool → ContextRecord → Stable → Name → HostView → HostView → Type 0
PerformsAtMostOne listing cx stable rustup old new =
    ((new.calls ≡ old.calls) × WritesText false listing old.out new.out [])
    ⊎ PerformsOne false listing cx stable rustup old.term.warn old new

-- where no error was reported, one history of a context's plan was performed to its end
abbrev pub PerformsItsPlan : {C O E : Type 0} → Calling C → Taking O → Bool → ContextRecord → Stable
    → Host C O E → Host C O E → Type 0
PerformsItsPlan c o listing cx stable old new = new.term.now.error ≡ false → c.tells
    → PerformsOne true listing cx stable (string_bytes old.env.now.rustup) old.term.now.warn
    (host_view c o old) (host_view c o new)

-- whatever came of it, one history of a context's plan was performed at most
abbrev pub MayPerformItsPlan : {C O E : Type 0} → Calling C → Taking O → Bool → ContextRecord → Stable
    → Host C O E → Host C O E → Type 0
MayPerformItsPlan c o listing cx stable old new = c.tells
    → PerformsAtMostOne listing cx stable (string_bytes old.env.now.rustup)
    (host_view c o old) (host_view c o new)

-- a context's list was handed out to its end, and its steps that aren't listed to a runner,
-- whatever came of them; where lines are written whole or not at all, the output grew by just those
-- of the steps that passed
pub record HandsOver {R : Type 0} (whole : Type 0) (had has : Option (List ℕ)) (Told : List Note → R → R → Type 0) (Ran : PlanView → List Handed → R → R → Type 0) (cx : ContextRecord) (stable : Stable) (rustup : Name) (old new : R) : Type 0 where
  pub course : Course
  pub driven : IsDriven cx.args.partition cx.args.keep_going course
  pub notes : List Note
  pub planned : IsPlanOf cx.args.subcommand stable cx rustup course.plan notes
  pub mid : R
  pub told : Told notes old mid
  pub ran : Ran course.plan (filter is_sent course.handed) mid new
  pub wrote : whole → Appends had has (flat_map (lines_written course.plan) course.handed)

-- a list was handed out to its end; or nothing was, and the runner printed notices at most
abbrev pub HandsOverAtMostOne : {R : Type 0} → Type 0 → Option (List ℕ) → Option (List ℕ) → (List Note → R → R → Type 0) → (PlanView → List Handed → R → R → Type 0) → ContextRecord → Stable → Name → R → R → Type 0
HandsOverAtMostOne whole had has Told Ran cx stable rustup old new =
    (((new ≡ old) ⊎ ((notes : List Note) × Told notes old new)) × Keeps had has) ⊎ HandsOver whole had has Told Ran cx stable rustup old new

-- stable's version was asked for: P holds of it, or Q of the reason where it is unknown
abbrev pub IsLatest : (Version → Type 0) → (Name → Type 0) → Stable → Type 0
IsLatest P Q stable.Unasked = ⊥
IsLatest P Q (stable.Known v) = P v
IsLatest P Q (stable.Unknown text) = Q (string_bytes text)

-- rustup was asked where a word needs it, and with what is then known, or why it isn't, the words are read into this
pub record ReadsAfterRustup (IsRead : Around → List Name → Reading → Type 0) (tells : Type 0) (words : List Name) (env : Env) (verbose : Bool) (old new : List Call) (reading : Reading) : Type 0 where
  pub rustup : Rustup
  pub asked : tells → AsksRustup (wants_rustup words) (string_bytes env.rustup) rustup old new
  pub reason : tells → TellsReason verbose (string_bytes env.rustup) rustup old new
  pub read : IsRead (around_of env rustup) words reading

-- a list was handed out to its end, and no listed step failed
pub record ListsOver {R : Type 0} (whole : Type 0) (before now : Option (List ℕ)) (Told : List Note → R → R → Type 0) (Ran : PlanView → List Handed → R → R → Type 0) (cx : ContextRecord) (stable : Stable) (rustup : Name) (old new : R) : Type 0 where
  pub over : HandsOver whole before now Told Ran cx stable rustup old new
  pub listed : All IsWrittenStep over.course.handed

-- a host that has yet to write these bytes
abbrev pub host_writing : List ℕ → HostView → HostView
host_writing bytes host = record host { out = append_known host.out bytes }

-- rustup's minor version in its answer, unknown where it has none
abbrev pub TellsMinor : Name → Rustup → Type 0
TellsMinor answer known = (known ≢ Unasked) × IsMinorIn (rustup_part answer) (known_of known)

-- rustup's version isn't known
abbrev pub IsUnknown : Rustup → Type 0
IsUnknown known = (known ≢ Unasked) × (known_of known ≡ None)

-- where files are to be restored, these changes' paths are kept in their order, and the lockfile behind them
abbrev pub KeepsAsMade : ContextRecord → List Change → Manager → Manager → Type 0
KeepsAsMade cx made before now = before.needs_restore ≡ true → KeepsInOrder (wanted_in cx).lockfile made (paths (registered_files before)) (paths (registered_files now))

-- a context was made of answers and its plan performed; its edits were made, each by one write, and
-- what they change is kept, if anything is: no others, but for the lockfile
pub record EditsAndPerforms (tells : Type 0) (args : Args) (answers : Answers) (rustup : Name)
    (before now : Manager) (old new : World) : Type 0 where
  pub cx : ContextRecord
  pub context : IsContextFrom args answers cx
  pub performed :
      PerformsPlan true cx rustup (is_err answers.cargo_version || old.host.term.warn) old.host new.host
  pub edited : MakesSome (λ made. AreWritesIn cx tells old.files.held made × KeepsAsMade cx made before now)
      old.files.trace new.files.trace old.files.held new.files.held
  pub only : KeepsOnly (IsTouchedIn cx) before now
  pub lockfile : tells → before.needs_restore ≡ true → edits_in cx ≡ true
      → IfSome (new.files.held (wanted_in cx).lockfile) (λ _.
      is_kept (registered_files now) (wanted_in cx).lockfile ≡ true)

-- the same of any plan, whatever came of it
pub record EditsDone {F : Type 0} (f : Filing F) (args : Args) (answers : Answers) (env : Env)
    (before now : Manager) (old new : F) : Type 0 where
  pub cx : ContextRecord
  pub context : IsContextFrom args answers cx
  pub prepared : f.tells → IfOk answers.loaded (IsLoaded f.tells (f.bytes_at old) env)
      → IsPreparedIn cx (f.bytes_at old) (f.bytes_at new)
  pub edited : f.whole → MakesSome (λ made. AreWritesIn cx f.tells (f.bytes_at old) made × KeepsAsMade cx made before now)
      (f.trace old) (f.trace new) (f.bytes_at old) (f.bytes_at new)
  pub only : KeepsOnly (IsTouchedIn cx) before now
  pub lockfile : f.tells → before.needs_restore ≡ true → edits_in cx ≡ true
      → IfSome (f.bytes_at new (wanted_in cx).lockfile) (λ _.
      is_kept (registered_files now) (wanted_in cx).lockfile ≡ true)

-- the command line is refused, or memory is: no other line stands before that of such an error
abbrev pub is_refusal : RunFault → Bool
is_refusal fault.Memory = true
is_refusal (fault.Words refused) = true
is_refusal other = false

-- only that was found, and nothing reported yet
abbrev pub IsUntoldRefusal : {T C O E : Type 0} → Taking E → Result T RunFault → Host C O E → Host C O E → Type 0
IsUntoldRefusal e came old new =
    IfErr came (λ fault. is_refusal fault ≡ true) × (new.term.now ≡ old.term.now)
    × (stream_of e new.err.now ≡ stream_of e old.err.now)

-- Steps were said, and behind those of a search what is said of its conclusion. This error is left then, and it is noted so
-- whether one was reported; the session is that of the steps, and a search has none.
pub record HandsSteps (tells : Type 0) (cx : ContextRecord) (stable : Stable) (rustup : Name) (left : Option ProcessFault) (reported : Bool) (looks : Looks) (session : Option Course) (old new : Scene) : Type 0 where
  pub mid : Scene
  pub steps : SaysSteps tells false cx stable rustup looks old mid
  pub calls : new.calls ≡ mid.calls
  pub out : new.streams.out ≡ mid.streams.out
  pub behind : MatchBool (is_search false cx.args)
      ((session ≡ None) × (conclusion : Conclusion) × ConcludesSo cx rustup steps.course steps.notes steps.fails steps.warns (is_at_end steps.last) conclusion
      × SaysSearch (nat_lt 0 steps.last.refused) conclusion looks.coloring steps.last.kept steps.last.told left reported mid.streams.err new.streams.err)
      ((session ≡ Some steps.course) × (left ≡ steps.last.kept) × (reported ≡ steps.last.told) × (new.streams.err ≡ mid.streams.err))

-- a context was made of answers, and its edits, where files hold what was read of them
abbrev pub FollowsEdits : Type 0 → Args → Answers → Env → Contents → Contents → Type 0
FollowsEdits tells args answers env old new =
    (cx : ContextRecord) × IsContextFrom args answers cx × (tells → IfOk answers.loaded (IsLoaded tells old env) → IsPreparedIn cx old new)

-- no file was changed; or a context was made of answers, and at most its edits were made, where files hold
-- what was read of them
abbrev pub FollowsAndLeaves : (List Name → Type 0) → Type 0 → Args → Answers → Env → Contents → Contents → Type 0
FollowsAndLeaves Refuses tells args answers env old new =
    (new ≡ old)
    ⊎ ((cx : ContextRecord) × IsContextFrom args answers cx × (IfOk answers.loaded (IsLoaded tells old env) → LeavesEdits Refuses tells cx old new))

-- a list's steps were said, this error is kept, and it is noted so whether one was reported; what is known to be written
-- or gathered grew by just the lines of those that passed; each that is listed passed, where none was missed
abbrev pub ListsSteps : Type 0 → Type 0 → ContextRecord → Stable → Name → Option ProcessFault → Bool → Looks → Option (List ℕ) → Option (List ℕ) → Scene → Scene → Type 0
ListsSteps NoneMissed tells cx stable rustup now reported looks had has old new =
    (steps : SaysSteps tells true cx stable rustup looks old new) × (now ≡ steps.last.kept) × (reported ≡ steps.last.told)
    × Appends had has (flat_map (lines_written steps.course.plan) steps.course.handed)
    × (NoneMissed → All IsWrittenStep steps.course.handed)

-- how a list ends: as there is no plan; or for want of memory, where a step or a line lacked it; else with the error
-- that stopped its steps, or since a line is unwritten, or, where none is, without an error
abbrev pub EndsList : Bool → Type 0 → Result Bool PlanFault → Option ProcessFault → Result (Unit {0}) RunFault → Type 0
EndsList short Unwritten (Err e) stopped came = came ≡ Err (fault.Plan e)
EndsList short Unwritten (Ok refused) stopped came = MatchBool (refused || short) (came ≡ Err fault.Memory)
    (MatchOption stopped (((came ≡ Err fault.Unlisted) × Unwritten) ⊎ ((came ≡ Ok tt) × ¬ Unwritten)) (λ failed. came ≡ Err (fault.Process failed)))
