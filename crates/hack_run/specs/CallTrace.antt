-- What a call did, and how far it got. Where `done` is true it reported no error, and got to its end;
-- else an error may have ended it at any place.
use Rattle.std.specs.Prelude.{ℕ, ◌≡◌, ◌⊎◌, ◌||◌, ◌∷◌, [], All, Bool, List, Option, codes, false, filter, if◌then◌else◌, string_bytes, true}
use Rattle.std.specs.List.{flat_map}
use Rattle.std.specs.Result.{is_err}
use Rattle.std.specs.Io.KnownBytes.{Appends}
use Rattle.hack_base.specs.Names.{Name}
use Rattle.hack_base.specs.Notes.{Note}
use Rattle.hack_base.specs.Writes.{AppendsFront}
use Rattle.hack_term.specs.declared.term.Coloring.{Coloring}
use Rattle.hack_term.specs.declared.term.Coloring.TheVariants.{Auto, Always, Never}
use Rattle.hack_load.specs.ContextOf.{IsContextFrom}
use Rattle.hack_load.specs.Contexts.{ContextRecord}
use Rattle.hack_load.specs.declared.answers.Answers.{Answers}
use Rattle.hack_process.specs.Calls.{Asked, Call, IsSuccess, MayAdd}
use Rattle.hack_process.specs.CommandTexts.{Command}
use Rattle.hack_process.specs.Commands.{asked_of, plain_command}
use Rattle.hack_process.specs.Faults.{GotAnswer}
use Rattle.hack_planner.specs.CallPlan.{IsPerformableOf}
use Rattle.hack_prepare.specs.Prepared.{IsPrepared}
use Rattle.hack_prepare.specs.PreparedView.{member_manifests_in, wanted_in}
use Rattle.hack_session.specs.Histories.{Course, HasPassed}
use Rattle.hack_session.specs.ListLines.{is_sent, lines_written}
use Rattle.hack_session.specs.StepCalls.{MakesCalls, PerformsAll}
use Rattle.hack_versions.specs.declared.rustup.Rustup.{Rustup}
use Rattle.hack_planner.specs.declared.stable.Stable.{Stable}
use Rattle.hack_planner.specs.declared.stable.Stable.TheVariants.{Unasked}
use Rattle.hack_words.specs.ParseAnswers.{AnswersCommandLine as IsAnswer, around_of}
use Rattle.hack_words.specs.CommandLine.{ComesTo}
use Rattle.hack_words.specs.Start.{wants_rustup}
use Rattle.hack_words.specs.declared.cli.args.Args.{Args}
use Rattle.hack_words.specs.declared.cli.env.Env.{Env}
use Rattle.hack_words.specs.declared.cli.parse.Parsed.{Parsed}
use Rattle.hack_words.specs.declared.cli.parse.Parsed.TheVariants as parsed
use Rattle.hack_run.specs.Handed.{IsPlannedAsAsked, is_search}
use Rattle.hack_run.specs.Loading.{AreLoaded}
use Rattle.hack_drive.specs.Answered.{NeedsAnswer}
use Rattle.hack_run.specs.Questions.{AsksRustup, AsksStable, MayAskStable, rustup_asked}
use Rattle.hack_run.specs.Started.{MakesStarted}
use Rattle.hack_drive.specs.Warnings.{Warned, have_warning}
use Rattle.hack_run.specs.Worlds.{HostView, World, host_at, world_at}

-- an error ended the call after these calls: nothing more was called, and nothing printed
abbrev pub Stops : Bool → List Call → HostView → HostView → Type 0
Stops done calls old new = (done ≡ false) × (new.calls ≡ calls) × (new.out ≡ old.out)

-- this text was written, or a front of it where an error ended the call; of runs nothing is said
abbrev pub WritesText : Bool → Bool → Option (List ℕ) → Option (List ℕ) → List ℕ → Type 0
WritesText true true had has text = Appends had has text
WritesText false true had has text = AppendsFront had has text
WritesText done false had has text = Unit {0}

-- One history of a context's plan, made with this answer on stable's version, was handed out, or that of
-- a search. Its steps made just these calls, one after the other, of a list those that aren't listed,
-- which wrote the lines of the steps that passed. Where no error was reported, each command whose output
-- isn't captured was started, none was cut short for want of memory, and each step passed, unless it was a
-- search's; it is noted that something fails just where that was so before, or a search found it; and a
-- warning just where one was before, or where a notice of the plan counts as one, or a search warned.
pub record PerformsOne (done listing : Bool) (cx : ContextRecord)
    (stable : Stable) (rustup : Name) (warned : Bool)
    (old new : HostView) : Type 0 where
  pub course : Course
  pub notes : List Note
  pub cut : ℕ
  pub fails : Bool
  pub warns : Bool
  pub planned : IsPlannedAsAsked (IsPerformableOf cx.args.subcommand stable cx rustup) done listing cx rustup course notes fails warns
  pub calls : MakesCalls (λ made.
      PerformsAll course.plan (if listing then filter is_sent course.handed else course.handed) made cut) old.calls new.calls
  pub wrote : WritesText done listing old.out new.out (flat_map (lines_written course.plan) course.handed)
  pub started : done ≡ true → MakesStarted old.calls new.calls
  pub uncut : done ≡ true → cut ≡ 0
  pub passed : done ≡ true → is_search listing cx.args ≡ false → All HasPassed course.handed
  pub unreported : is_search listing cx.args ≡ false → warns ≡ false
  pub noted : done ≡ true → new.fails ≡ (fails || old.fails)
  pub counted : done ≡ true → Warned notes (warns || warned) new.term.warn

-- stable's version was asked for, only where the range needs it, and then an error ended the call;
-- or with the answer one history was performed
abbrev pub PerformsPlan : Bool → ContextRecord → Name → Bool → HostView → HostView → Type 0
PerformsPlan done cx rustup warned old new =
    ((mid : List Call) × MayAskStable rustup old.calls mid × (¬ NeedsAnswer cx.args → mid ≡ old.calls)
    × (done ≡ false) × (new.calls ≡ mid) × WritesText false cx.args.print_command_list old.out new.out [])
    ⊎ ((mid : List Call) × (stable : Stable)
    × AsksStable rustup stable old.calls mid × (¬ NeedsAnswer cx.args → stable ≡ Unasked)
    × PerformsOne done cx.args.print_command_list cx stable rustup warned (host_at mid old) new)

-- An error ended the call; or a context was made of what was loaded, where an unknown version of
-- cargo warns, and its plan was performed. At the end edits that stay were made of what was held,
-- where the files show that.
abbrev pub AfterLoading : Bool → Type 0 → Args → Answers → Name → Bool → World → World → Type 0
AfterLoading done tells args answers rustup warned old new =
    Stops done old.host.calls old.host new.host
    ⊎ ((cx : ContextRecord) × IsContextFrom args answers cx
    × PerformsPlan done cx rustup (is_err answers.cargo_version || warned) old.host new.host
    × (done ≡ true → tells → args.remove_dev_deps ≡ true
    → IsPrepared (wanted_in cx) (member_manifests_in cx) old.files.held new.files.held))

-- the questions of these arguments were asked in order, up to one that ended them, and then what was
-- loaded was performed, unless an error ended the call
pub record LoadsAndPerforms (done : Bool) (tells : Type 0) (args : Args) (env : Env) (warned : Bool)
    (old new : World) : Type 0 where
  pub answers : Answers
  pub mid : List Call
  pub asked : AreLoaded tells args env old.files.held old.host.calls mid answers
  pub behind :
      AfterLoading done tells args answers (string_bytes env.rustup) warned (world_at mid old) new

-- the command that has cargo list its commands
abbrev pub listing_command : Name → Command
listing_command cargo = plain_command cargo [] (codes "--list" ∷ [])

-- the same, as a caller gets it
abbrev pub listing_asked : Name → Asked
listing_asked cargo = asked_of false (listing_command cargo)

-- What a command line asks for: the plan was performed, or a text was printed, or cargo called for its
-- commands, which are all there where no error was reported, without a further warning or finding.
abbrev pub Obeys : Bool → Type 0 → Parsed → Env → Bool → World → World → Type 0
Obeys done tells (parsed.Args args) env warned old new =
    LoadsAndPerforms done tells args env warned old new
Obeys done tells (parsed.Print text) env warned old new =
    (new.host.calls ≡ old.host.calls)
    × WritesText done true old.host.out new.host.out (string_bytes text)
    × (done ≡ true → (new.host.term.warn ≡ warned) × (new.host.fails ≡ old.host.fails))
Obeys done tells parsed.List env warned old new =
    MayAdd (listing_asked (string_bytes env.cargo)) old.host.calls new.host.calls
    × (new.host.out ≡ old.host.out)
    × (done ≡ true → (new.host.term.warn ≡ warned) × (new.host.fails ≡ old.host.fails) × GotAnswer (λ answer. IsSuccess answer.end)
    (listing_asked (string_bytes env.cargo)) old.host.calls new.host.calls)

-- whether a warning is noted after the command line's notices; a text is printed without them
abbrev pub warned_by : Parsed → List Note → Bool → Bool
warned_by (parsed.Print text) notes warned = warned
warned_by answer notes warned = have_warning notes || warned

-- rustup was asked where an argument needs it, the command line was parsed and its warning, if any,
-- noted, and what it asks for was done
pub record ReadsAndObeys (done : Bool) (tells : Type 0) (words : List Name) (env : Env)
    (mid : List Call) (old new : World) : Type 0 where
  pub rustup : Rustup
  pub answer : Parsed
  pub notes : List Note
  pub told : AsksRustup (wants_rustup words) (string_bytes env.rustup) rustup old.host.calls mid
  pub read : IsAnswer (around_of env rustup) (ComesTo (around_of env rustup) words) answer notes
  pub obeyed :
      Obeys done tells answer env (warned_by answer notes old.host.term.warn) (world_at mid old) new

-- rustup was asked for its version at most, only where an argument needs it; then the command line
-- was read and obeyed, or an error ended the call
pub record IsCallTrace (done : Bool) (tells : Type 0) (words : List Name) (env : Env)
    (old new : World) : Type 0 where
  pub mid : List Call
  pub asked : MayAdd (rustup_asked (string_bytes env.rustup)) old.host.calls mid
  pub needed : wants_rustup words ≡ false → mid ≡ old.host.calls
  pub behind : Stops done mid old.host new.host ⊎ ReadsAndObeys done tells words env mid old new

-- the colouring of a call: what `--color` asks for, and under `auto` that of its terminal
abbrev pub colored_by : Coloring → Coloring → Coloring
colored_by Auto own = own
colored_by Always own = Always
colored_by Never own = Never
