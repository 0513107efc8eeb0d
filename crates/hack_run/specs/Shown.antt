-- What a call says on the way, and in which order: where it comes to its end, all of that and nothing else; where an
-- error ends it, what was to be said before.
use Rattle.std.specs.Prelude.{◌≡◌, ◌⊎◌, ◌&&◌, ◌||◌, [], ◌∷◌, ℕ, All, Bool, Err, IsSome, List, MatchBool, MatchOption, None, Ok, OnOk, Option, Result, Some, false, filter, if◌then◌else◌, map, nat_lt, not, string_bytes, true}
use Rattle.std.specs.Io.KnownBytes.{Appends, Keeps}
use Rattle.std.specs.List.{flat_map}
use Rattle.std.specs.Result.{is_err}
use Rattle.hack_base.specs.Names.{Name}
use Rattle.hack_base.specs.Notes.{Note}
use Rattle.hack_base.specs.Streams.{Stream, WritesAll, WritesText}
use Rattle.hack_base.specs.Writes.{AppendsFront, HasFailed}
use Rattle.hack_base.specs.declared.writes.Sink.{Ghosts as Taking}
use Rattle.hack_drive.specs.Answered.{NeedsAnswer}
use Rattle.hack_drive.specs.Shown.{note_lines}
use Rattle.hack_load.specs.Answers.{AreAnswers}
use Rattle.hack_load.specs.FailedLoads.{AnswersFailSo}
use Rattle.hack_load.specs.CargoQuestions.{told_version}
use Rattle.hack_load.specs.ContextOf.{IsContextCause, IsContextFrom, warnings_of}
use Rattle.hack_load.specs.Contexts.{ContextRecord}
use Rattle.hack_load.specs.declared.answers.Answers.{Answers}
use Rattle.hack_load.specs.declared.fault.ContextFault.{ContextFault}
use Rattle.hack_load.specs.declared.fault.ContextFault.TheVariants as context
use Rattle.hack_files.specs.FailedCalls.{NoneFailed}
use Rattle.hack_files.specs.Files.{Change, Contents, KeepsAll, Makes}
use Rattle.hack_files.specs.Restore.{AreSafe, Kept, Tried}
use Rattle.hack_files.specs.WriteBacks.{SaysBack, SaysReason}
use Rattle.hack_files.specs.declared.fs.FsFault.TheVariants as fs
use Rattle.hack_files.specs.declared.fs.Files.{Ghosts as Filing}
use Rattle.hack_plan.specs.View.{PlanView}
use Rattle.hack_planner.specs.CallPlan.{IsCauseOf, IsPackagesCause, IsPlanOf}
use Rattle.hack_planner.specs.Looks.{AreLongLooks}
use Rattle.hack_planner.specs.declared.fault.PlanFault.{PlanFault}
use Rattle.hack_planner.specs.declared.fault.PlanFault.TheVariants as plan
use Rattle.hack_metadata.specs.FailedQuestions.{WroteTo}
use Rattle.hack_prepare.specs.FailedCalls.{IsOfFailedCallIn}
use Rattle.hack_prepare.specs.PreparedView.{BeginWritesIn, IsPrepareFault, notes_in}
use Rattle.hack_prepare.specs.Writes.{MakesSome}
use Rattle.hack_prepare.specs.declared.fault.PrepareFault.{PrepareFault}
use Rattle.hack_prepare.specs.declared.fault.PrepareFault.TheVariants as prepare
use Rattle.hack_process.specs.Calls.{Call, IsSuccess, MayAdd}
use Rattle.hack_process.specs.CommandTexts.{text_of}
use Rattle.hack_process.specs.Faults.{GotAnswer, IsFault}
use Rattle.hack_process.specs.declared.fault.ProcessFault.{ProcessFault}
use Rattle.hack_process.specs.declared.caller.Caller.{Ghosts as Calling}
use Rattle.hack_report.specs.Reported.{SaysCutReport, SaysReport, are_reported}
use Rattle.hack_rules.specs.declared.fault.CliFault.{CliFault}
use Rattle.hack_session.specs.Histories.{Course}
use Rattle.hack_session.specs.ListLines.{is_failed, is_sent, lines_written}
use Rattle.hack_session.specs.StepEffects.{DoesAll, Scene, State, state}
use Rattle.hack_session.specs.StepOutput.{Manner, Streams, streams}
use Rattle.hack_session.specs.declared.step.Handed.{Handed}
use Rattle.hack_side.specs.Ends.{has_ended}
use Rattle.hack_term.specs.Lines.{info_line}
use Rattle.hack_term.specs.declared.log_group.LogGroup.TheVariants as log
use Rattle.hack_term.specs.declared.term.Coloring.{Coloring}
use Rattle.hack_term.specs.declared.term.Term.{Term}
use Rattle.hack_versions.specs.declared.rustup.Rustup.{Rustup}
use Rattle.hack_planner.specs.declared.stable.Stable.{Stable}
use Rattle.hack_planner.specs.declared.stable.Stable.TheVariants.{Unasked}
use Rattle.hack_words.specs.CommandLine.{ComesTo}
use Rattle.hack_words.specs.ParseAnswers.{AnswersCommandLine as IsAnswer, around_of}
use Rattle.hack_words.specs.Start.{wants_rustup}
use Rattle.hack_words.specs.declared.cli.args.Args.{Args}
use Rattle.hack_words.specs.declared.cli.env.Env.{Env}
use Rattle.hack_words.specs.declared.cli.parse.Parsed.{Parsed}
use Rattle.hack_words.specs.declared.cli.parse.Parsed.TheVariants as parsed
use Rattle.hack_run.specs.CallChanges.{EditsAndBack}
use Rattle.hack_run.specs.CallTrace.{colored_by, listing_asked, listing_command}
use Rattle.hack_run.specs.Conclusions.{Conclusion, ConcludesSo, SaysSearch}
use Rattle.hack_run.specs.Errors.{SaysEnd, ends_at_file}
use Rattle.hack_run.specs.Handed.{IsPlannedAsAsked, is_hunt, is_search}
use Rattle.hack_run.specs.Questions.{AsksRustup, AsksStable, MayAskStable, TellsReason, TellsStableReason, rustup_asked}
use Rattle.hack_run.specs.Readings.{IsReadingOrRefusal}
use Rattle.hack_run.specs.declared.fault.RunFault.{RunFault}
use Rattle.hack_run.specs.declared.fault.RunFault.TheVariants as fault
use Rattle.hack_run.specs.declared.host.Host.{Host}
use Rattle.hack_run.specs.declared.reading.Reading.TheVariants.{Refused}

-- ---- what is said at once

-- the programs called so far, and two streams
abbrev pub scene_at : {O E : Type 0} → List Call → Taking O → Taking E → O → E → Scene
scene_at calls o e out err = record { calls = calls; streams = streams o e out err }

-- those of a host
abbrev pub scene_on : {C O E : Type 0} → Calling C → Taking O → Taking E → Host C O E → Scene
scene_on c o e host = scene_at (c.calls host.caller.now) o e host.out.now host.err.now

-- a scene in which these programs were called, and this was written on `err`
abbrev pub scene_with : List Call → Stream → Scene → Scene
scene_with calls err scene = record { calls = calls; streams = record scene.streams { err = err } }

-- the lines of notices were written
abbrev pub SaysNotes : Coloring → List Note → Stream → Stream → Type 0
SaysNotes coloring notes old new = WritesAll (note_lines coloring notes) old new

-- which looks for samples will take long; a search for conflicts looks for none
abbrev pub SaysLooks : ContextRecord → Coloring → Stream → Stream → Type 0
SaysLooks cx coloring old new =
    MatchBool cx.args.find_conflicts (new ≡ old)
    ((texts : List Name) × AreLongLooks cx texts × WritesAll (map (info_line coloring) texts) old new)

-- ---- steps

-- how lines look: those of a terminal with this colouring; and whether an error was reported before
pub record Looks : Type 0 where
  pub coloring : Coloring
  pub verbose : Bool
  pub reported : Bool

abbrev pub looks_of : Term → Looks
looks_of term = record { coloring = term.coloring; verbose = term.verbose; reported = term.error }

-- the same, where an error was reported, or none
abbrev pub reported_on : Bool → Looks → Looks
reported_on reported looks = record looks { reported = reported }

-- lines look as before, whether an error was reported or not
abbrev pub KeepsLooks : Term → Term → Type 0
KeepsLooks old new = looks_of new ≡ reported_on new.error (looks_of old)

-- memory was refused, and nothing was said or called
abbrev pub SaysStarved : Result (Unit {0}) RunFault → Looks → Looks → Scene → Scene → Type 0
SaysStarved came looks now old new = (came ≡ Err fault.Memory) × (now ≡ looks) × (new ≡ old)

-- how steps are said: a list's without groups
abbrev pub manner_for : Bool → Args → Looks → Manner
manner_for listing args looks = record { group = if listing then log.None else args.log_group; coloring = looks.coloring; verbose = looks.verbose }

-- runs go on after a failed one, where that is asked for; searches don't
abbrev pub goes_on : Bool → Args → Bool
goes_on listing args = not (is_search listing args) && args.keep_going

-- the steps that a runner performs: of a list those that aren't listed
abbrev pub performed_of : Bool → List Handed → List Handed
performed_of listing handed = if listing then filter is_sent handed else handed

-- the call is at its end with what steps did so far
abbrev pub is_at_end : State → Bool
is_at_end state = has_ended state.kept state.refused

-- behind a step with which the call is at its end none was performed
abbrev pub StopsAtEnd : (tells : Type 0) (keep_going : Bool) (m : Manner) (plan : PlanView) (steps : List Handed) (old new : State) → DoesAll tells keep_going m plan steps old new → Type 0
StopsAtEnd tells keep_going m plan [] old new did = Unit {0}
StopsAtEnd tells keep_going m plan (h ∷ steps) old new did =
    ((steps ≡ []) ⊎ (is_at_end did.0 ≡ false)) × StopsAtEnd tells keep_going m plan steps did.0 new did.2

-- The notices of a plan were said, and then just what the steps say that were handed out; a search ends where its call
-- does. Lines of groups go to `out`, but a list has none.
pub record SaysSteps (tells : Type 0) (listing : Bool) (cx : ContextRecord) (stable : Stable) (rustup : Name) (looks : Looks) (old new : Scene) : Type 0 where
  pub course : Course
  pub notes : List Note
  pub fails : Bool
  pub warns : Bool
  pub planned : IsPlannedAsAsked (IsPlanOf cx.args.subcommand stable cx rustup) false listing cx rustup course notes fails warns
  pub begun : Streams
  pub first : listing ≡ false → begun.out ≡ old.streams.out
  pub told : SaysNotes looks.coloring notes old.streams.err begun.err
  pub last : State
  pub does : DoesAll tells (goes_on listing cx.args) (manner_for listing cx.args looks) course.plan (performed_of listing course.handed) (state old.calls begun None looks.reported 0) last
  pub stops : is_search listing cx.args ≡ true → StopsAtEnd tells (goes_on listing cx.args) (manner_for listing cx.args looks) course.plan (performed_of listing course.handed) (state old.calls begun None looks.reported 0) last does
  pub calls : new.calls ≡ last.scene.calls
  pub out : listing ≡ false → new.streams.out ≡ last.scene.streams.out
  pub err : new.streams.err ≡ last.scene.streams.err

-- nothing was called, and nothing printed
abbrev pub CallsNothing : Bool → Scene → Scene → Type 0
CallsNothing listing old new =
    (new.calls ≡ old.calls) × (listing ≡ false → new.streams.out ≡ old.streams.out) × Keeps old.streams.out.bytes new.streams.out.bytes

-- why there is no plan: a cause that the context and stable's answer have, or want of memory
abbrev pub IsNoPlan : Bool → ContextRecord → Stable → PlanFault → Type 0
IsNoPlan listing cx stable e = (e ≡ plan.Memory)
    ⊎ MatchBool (is_hunt listing cx.args) (IsSome cx.args.subcommand × IsPackagesCause cx e) (IsCauseOf cx.args.subcommand stable cx e)

-- a plan was made, its notices were said, and then memory was refused
abbrev pub SaysPlanNotes : ContextRecord → Stable → Name → Coloring → PlanFault → Stream → Stream → Type 0
SaysPlanNotes cx stable rustup coloring e old new =
    (e ≡ plan.Memory) × (made : PlanView) × (notes : List Note) × IsPlanOf cx.args.subcommand stable cx rustup made notes × SaysNotes coloring notes old new

-- That is so, nothing was called and nothing said; or, unless a search for conflicts is asked for, memory was refused
-- behind the notices of a plan.
abbrev pub HasNoPlan : Bool → ContextRecord → Stable → Name → Looks → Looks → Scene → Scene → PlanFault → Type 0
HasNoPlan listing cx stable rustup looks now old new e =
    IsNoPlan listing cx stable e × CallsNothing listing old new × (now ≡ looks)
    × ((new.streams.err ≡ old.streams.err) ⊎ ((is_hunt listing cx.args ≡ false) × SaysPlanNotes cx stable rustup looks.coloring e old.streams.err new.streams.err))

abbrev pub SaysNoPlan : Result (Unit {0}) RunFault → Bool → ContextRecord → Stable → Name → Looks → Looks → Scene → Scene → Type 0
SaysNoPlan came listing cx stable rustup looks now old new = (e : PlanFault) × (came ≡ Err (fault.Plan e)) × HasNoPlan listing cx stable rustup looks now old new e

-- What steps came to: the error that stopped them; else the report of the runs that failed, with the patterns that only
-- these show, and then an error was reported where one is reported there, or by a step; or memory was refused for that.
abbrev pub ComesOfRuns : Result (Unit {0}) RunFault → ContextRecord → Looks → Looks → Course → State → Stream → Stream → Type 0
ComesOfRuns came cx looks now course last old new = MatchOption last.kept
    (((came ≡ Err fault.Memory) × SaysCutReport looks.coloring course old new)
    ⊎ ((came ≡ Ok tt) × SaysReport looks.coloring cx course old new × (now.reported ≡ (last.told || are_reported course))))
    (λ failed. (came ≡ Err (fault.Process failed)) × (new ≡ old))

-- what the steps of a search came to: what is said of its conclusion, and the error that is left, if there is one
abbrev pub ComesOfSearch : Result (Unit {0}) RunFault → ContextRecord → Name → Looks → Looks → Course → List Note → Bool → Bool → State → Stream → Stream → Type 0
ComesOfSearch came cx rustup looks now course notes fails warns last old new = (conclusion : Conclusion) × (left : Option ProcessFault)
    × ConcludesSo cx rustup course notes fails warns (is_at_end last) conclusion
    × SaysSearch (nat_lt 0 last.refused) conclusion looks.coloring last.kept last.told left now.reported old new
    × MatchOption left (came ≡ Ok tt) (λ failed. came ≡ Err (fault.Process failed))

-- steps were said, and then what they came to
pub record SaysRuns (came : Result (Unit {0}) RunFault) (tells : Type 0) (cx : ContextRecord) (stable : Stable) (rustup : Name) (looks now : Looks) (old new : Scene) : Type 0 where
  pub mid : Scene
  pub steps : SaysSteps tells false cx stable rustup looks old mid
  pub calls : new.calls ≡ mid.calls
  pub out : new.streams.out ≡ mid.streams.out
  pub comes : MatchBool (is_search false cx.args)
      (ComesOfSearch came cx rustup looks now steps.course steps.notes steps.fails steps.warns steps.last mid.streams.err new.streams.err)
      (ComesOfRuns came cx looks now steps.course steps.last mid.streams.err new.streams.err)
  pub ends : now ≡ reported_on now.reported looks

-- a step of a list passed, or is one that isn't listed
abbrev pub IsListed : Handed → Type 0
IsListed h = (is_sent h ≡ true) ⊎ (is_failed h.outcome ≡ false)

-- How a list ends: for want of memory. Or each listed step passed, unless the list's stream counted a failure; and it
-- ends with the error that stopped its steps; else with that of a line that is missing for this, or, where each passed,
-- without one.
abbrev pub ComesOfList : Result (Unit {0}) RunFault → Looks → List Handed → State → Stream → Stream → Type 0
ComesOfList came now handed last old new = (came ≡ Err fault.Memory)
    ⊎ ((All IsListed handed ⊎ HasFailed old.failed new.failed)
    × MatchOption last.kept (((came ≡ Err fault.Unlisted) × HasFailed old.failed new.failed) ⊎ ((came ≡ Ok tt) × All IsListed handed × (now.reported ≡ last.told)))
    (λ failed. came ≡ Err (fault.Process failed)))

-- The same of a list's steps that aren't listed. Whatever came of them, just the lines of the steps that passed were
-- printed, in order; or a front of these lines, and their stream counted a failure.
pub record SaysList (came : Result (Unit {0}) RunFault) (tells : Type 0) (cx : ContextRecord) (stable : Stable) (rustup : Name) (looks now : Looks) (old new : Scene) : Type 0 where
  pub steps : SaysSteps tells true cx stable rustup looks old new
  pub wrote : WritesText (flat_map (lines_written steps.course.plan) steps.course.handed) old.streams.out new.streams.out
  pub comes : ComesOfList came now steps.course.handed steps.last old.streams.out new.streams.out
  pub ends : now ≡ reported_on now.reported looks

-- a plan's steps were said, or there is none; before a list memory may be refused
abbrev pub SaysPlan : Result (Unit {0}) RunFault → Type 0 → ContextRecord → Stable → Name → Looks → Looks → Scene → Scene → Type 0
SaysPlan came tells cx stable rustup looks now old new =
    SaysNoPlan came cx.args.print_command_list cx stable rustup looks now old new
    ⊎ MatchBool cx.args.print_command_list (SaysStarved came looks now old new ⊎ SaysList came tells cx stable rustup looks now old new) (SaysRuns came tells cx stable rustup looks now old new)

-- which looks take long was said, and then the plan's steps, unless memory was refused for that
abbrev pub SaysItsPlan : Result (Unit {0}) RunFault → Type 0 → ContextRecord → Stable → Name → Looks → Looks → Scene → Scene → Type 0
SaysItsPlan came tells cx stable rustup looks now old new =
    SaysStarved came looks now old new
    ⊎ ((looked : Stream) × SaysLooks cx looks.coloring old.streams.err looked × SaysPlan came tells cx stable rustup looks now (scene_with old.calls looked old) new)

-- ---- a call

-- no more was changed than the first of the edits
abbrev pub BeginsEdits : {F : Type 0} → Filing F → ContextRecord → F → F → Type 0
BeginsEdits f cx loaded edited = f.whole → MakesSome (BeginWritesIn cx f.tells (f.bytes_at loaded)) (f.trace loaded) (f.trace edited) (f.bytes_at loaded) (f.bytes_at edited)

-- What was said once the questions were answered: the warning of an unknown version of cargo, the notices on edits,
-- which looks take long, and the plan; an error may have ended it before. No call of the files failed, but the one that
-- an error of edits is of.
pub data SaysAfterLoading {F : Type 0} (f : Filing F) (loaded edited : F) (came : Result (Unit {0}) RunFault) (tells : Type 0) (args : Args) (answers : Answers) (rustup : Name) (looks now : Looks) (old new : Scene) : Type 0 where
  unloaded : (e : ContextFault) → (e ≡ context.Memory) ⊎ IsContextCause args answers e → came ≡ Err (fault.Context e) → edited ≡ loaded → now ≡ looks → new ≡ old
      → SaysAfterLoading f loaded edited came tells args answers rustup looks now old new
  unedited : (cx : ContextRecord) (warned : Stream) → IsContextFrom args answers cx → SaysNotes looks.coloring (warnings_of (told_version answers.cargo_version)) old.streams.err warned
      → (e : PrepareFault) → IsPrepareFault cx f.tells (f.bytes_at loaded) e → IsOfFailedCallIn f cx loaded edited e → BeginsEdits f cx loaded edited
      → came ≡ Err (fault.Manifests e) → now ≡ looks → new ≡ scene_with old.calls warned old → SaysAfterLoading f loaded edited came tells args answers rustup looks now old new
  unasked : (cx : ContextRecord) (warned told : Stream) → IsContextFrom args answers cx → SaysNotes looks.coloring (warnings_of (told_version answers.cargo_version)) old.streams.err warned
      → SaysNotes looks.coloring (notes_in cx) warned told → NoneFailed f loaded edited → MayAskStable rustup old.calls new.calls → (¬ NeedsAnswer args → new.calls ≡ old.calls)
      → came ≡ Err fault.Memory → now ≡ looks → new ≡ scene_with new.calls told old → SaysAfterLoading f loaded edited came tells args answers rustup looks now old new
  planned : (cx : ContextRecord) (warned told : Stream) (stable : Stable) (calls : List Call) → IsContextFrom args answers cx
      → SaysNotes looks.coloring (warnings_of (told_version answers.cargo_version)) old.streams.err warned → SaysNotes looks.coloring (notes_in cx) warned told → NoneFailed f loaded edited
      → AsksStable rustup stable old.calls calls → TellsStableReason looks.verbose rustup stable old.calls calls → (¬ NeedsAnswer args → stable ≡ Unasked) → SaysItsPlan came tells cx stable rustup looks now (scene_with calls told old) new
      → SaysAfterLoading f loaded edited came tells args answers rustup looks now old new

-- the call didn't end before its edits were made
abbrev pub has_edited : Result (Unit {0}) RunFault → Bool
has_edited (Err (fault.Context e)) = false
has_edited (Err (fault.Manifests e)) = false
has_edited came = true

-- the questions of a call were answered over these files: no call of theirs failed but the one that an error is of
pub record AsksOver {F : Type 0} (f : Filing F) (before loaded : F) (args : Args) (env : Env) (old new : List Call) (answers : Answers) : Type 0 where
  pub kept : f.stays before loaded
  pub asked : AreAnswers f.tells (WroteTo f before loaded) args env (f.bytes_at before) (f.failed before) (f.failed loaded) old new answers
  pub failed : AnswersFailSo f before loaded args env old new answers
  pub same : OnOk answers.loaded (f.tells → KeepsAll (f.bytes_at before) (f.bytes_at loaded))

-- the path whose write failed, where that ended the call
abbrev pub unwritten_in : Result (Unit {0}) RunFault → Option Name
unwritten_in (Err (fault.Manifests (prepare.Files (fs.Write path)))) = Some (string_bytes path)
unwritten_in came = None

-- What was said by a call with these arguments: what follows its questions; then why a file failed, where that ended
-- it; and at the end of each file that was kept, as it was written back, or wasn't. That reports an error just where a
-- write was refused. The files that were kept are all that was changed before, unless edits stay.
pub record SaysLoaded {F : Type 0} (f : Filing F) (before after : F) (came : Result (Unit {0}) RunFault) (tells : Type 0) (args : Args) (env : Env) (looks now : Looks) (old new : Scene) : Type 0 where
  pub answers : Answers
  pub calls : List Call
  pub loaded : F
  pub over : AsksOver f before loaded args env old.calls calls answers
  pub edited : F
  pub kept : f.stays loaded edited × f.stays edited after
  pub files : List Kept
  pub safe : MatchBool args.remove_dev_deps (files ≡ []) (f.tells → AreSafe files (f.bytes_at loaded) (f.bytes_at edited))
  pub edits : has_edited came ≡ true → (cx : ContextRecord) × IsContextFrom args answers cx × EditsAndBack f cx files loaded edited after
  pub mid : Scene
  pub at : Looks
  pub said : SaysAfterLoading f loaded edited came tells args answers (string_bytes env.rustup) looks at (scene_with calls old.streams.err old) mid
  pub same : new.calls ≡ mid.calls
  pub out : new.streams.out ≡ mid.streams.out
  pub reasoned : Stream
  pub reason : MatchBool (ends_at_file came) (SaysReason looks.coloring mid.streams.err reasoned) (reasoned ≡ mid.streams.err)
  pub failed : ℕ
  pub tried : f.whole → (made : List Change) × Tried files made failed × Makes made (f.trace edited) (f.trace after) (f.bytes_at edited) (f.bytes_at after)
  pub back : SaysBack f edited after looks.coloring looks.verbose (unwritten_in came) files failed reasoned new.streams.err
  pub ends : now ≡ reported_on (at.reported || nat_lt 0 failed) at

-- the looks that arguments ask for
abbrev pub dressed_by : Args → Looks → Looks
dressed_by args looks = record { coloring = colored_by args.coloring looks.coloring; verbose = args.verbose; reported = looks.reported }

-- cargo was called for its commands, and an error is that of this call
abbrev pub ComesOfListing : Type 0 → Name → Name → Result (Unit {0}) RunFault → List Call → List Call → Type 0
ComesOfListing tells cargo dir (Ok done) old new = GotAnswer (λ answer. IsSuccess answer.end) (listing_asked cargo) old new
ComesOfListing tells cargo dir (Err fault.Memory) old new = MayAdd (listing_asked cargo) old new
ComesOfListing tells cargo dir (Err (fault.Process e)) old new = IsFault tells (listing_asked cargo) (text_of true dir (listing_command cargo)) old new e
ComesOfListing tells cargo dir (Err other) old new = ⊥

-- a text was printed, or a front of it, and that is the error
abbrev pub SaysText : Result (Unit {0}) RunFault → List ℕ → Stream → Stream → Type 0
SaysText came text old new =
    ((came ≡ Ok tt) × Appends old.bytes new.bytes text)
    ⊎ ((came ≡ Err fault.Unprinted) × AppendsFront old.bytes new.bytes text × HasFailed old.failed new.failed)

-- what was said of what a command line asks for: its notices, and what follows them; a text is printed without them, and
-- neither that nor cargo's list changes or reads a file
abbrev pub SaysParsed : {F : Type 0} → Filing F → F → F → Result (Unit {0}) RunFault → Type 0 → Parsed → List Note → Env → Looks → Looks → Scene → Scene → Type 0
SaysParsed f before after came tells (parsed.Args args) notes env looks now old new =
    (noted : Stream) × SaysNotes (colored_by args.coloring looks.coloring) notes old.streams.err noted
    × SaysLoaded f before after came tells args env (dressed_by args looks) now (scene_with old.calls noted old) new
SaysParsed f before after came tells (parsed.Print text) notes env looks now old new =
    (after ≡ before) × SaysText came (string_bytes text) old.streams.out new.streams.out × (now ≡ looks) × (new.calls ≡ old.calls) × (new.streams.err ≡ old.streams.err)
SaysParsed f before after came tells parsed.List notes env looks now old new =
    (after ≡ before) × SaysNotes looks.coloring notes old.streams.err new.streams.err × (now ≡ looks) × (new.streams.out ≡ old.streams.out)
    × ComesOfListing tells (string_bytes env.cargo) (string_bytes env.current_dir) came old.calls new.calls

-- what was said once rustup was asked where an argument needs it, and the command line was read; a notice may say why
-- rustup's version isn't known
pub record SaysRead {F : Type 0} (f : Filing F) (before after : F) (came : Result (Unit {0}) RunFault) (tells : Type 0) (words : List Name) (env : Env) (looks now : Looks) (old new : Scene) : Type 0 where
  pub calls : List Call
  pub rustup : Rustup
  pub answer : Parsed
  pub notes : List Note
  pub asked : AsksRustup (wants_rustup words) (string_bytes env.rustup) rustup old.calls calls
  pub reason : TellsReason looks.verbose (string_bytes env.rustup) rustup old.calls calls
  pub read : IsAnswer (around_of env rustup) (ComesTo (around_of env rustup) words) answer notes
  pub said : SaysParsed f before after came tells answer notes env looks now (scene_with calls old.streams.err old) new

-- nothing was said, since the command line is refused, once rustup was asked where an argument needs it
pub record SaysRefusal (came : Result (Unit {0}) RunFault) (words : List Name) (env : Env) (looks now : Looks) (old new : Scene) : Type 0 where
  pub error : CliFault
  pub rustup : Rustup
  pub asked : AsksRustup (wants_rustup words) (string_bytes env.rustup) rustup old.calls new.calls
  pub reason : TellsReason looks.verbose (string_bytes env.rustup) rustup old.calls new.calls
  pub read : IsReadingOrRefusal (around_of env rustup) words (Refused error)
  pub came_to : came ≡ Err (fault.Words error)
  pub ends : now ≡ looks
  pub streams : new.streams ≡ old.streams

-- the same, or memory was refused for the question
abbrev pub SaysUnread : Result (Unit {0}) RunFault → List Name → Env → Looks → Looks → Scene → Scene → Type 0
SaysUnread came words env looks now old new =
    SaysRefusal came words env looks now old new
    ⊎ ((came ≡ Err fault.Memory) × MayAdd (rustup_asked (string_bytes env.rustup)) old.calls new.calls × (now ≡ looks) × (new.streams ≡ old.streams))

-- What a call said, and how it ended: the line of an error, if there is one, comes last. An error was reported where one
-- is told last, or before.
pub record SaysCall {F : Type 0} (f : Filing F) (before after : F) (tells : Type 0) (words : List Name) (env : Env) (looks now : Looks) (old new : Scene) : Type 0 where
  pub came : Result (Unit {0}) RunFault
  pub mid : Stream
  pub at : Looks
  pub said : ((after ≡ before) × SaysUnread came words env looks at old (scene_with new.calls mid new)) ⊎ SaysRead f before after came tells words env looks at old (scene_with new.calls mid new)
  pub end : SaysEnd came env at.coloring mid new.streams.err
  pub ends : now ≡ reported_on (is_err came || at.reported) at
