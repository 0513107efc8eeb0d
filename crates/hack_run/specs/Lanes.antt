-- What happened to the commands of runs that go side by side.
use Rattle.std.specs.Prelude.{◌≡◌, ◌++◌, ◌⊎◌, ◌||◌, ℕ, Bool, List, [], MatchBool, None, codes, false, nat_eq, string_bytes, true, if◌then◌else◌}
use Rattle.std.specs.List.{list_any, starts_with}
use Rattle.std.specs.Option.{unwrap_or}
use Rattle.std.specs.Str.{bytes_eq}
use Rattle.hack_base.specs.Names.{Name, names_of}
use Rattle.hack_base.specs.Notes.{Note}
use Rattle.hack_planner.specs.declared.stable.Stable.{Stable}
use Rattle.hack_versions.specs.declared.rustup.Rustup.{Rustup}
use Rattle.hack_words.specs.CommandLine.{ComesTo}
use Rattle.hack_words.specs.ParseAnswers.{AnswersCommandLine as IsAnswer, around_of}
use Rattle.hack_words.specs.Start.{wants_rustup}
use Rattle.hack_words.specs.declared.cli.args.Args.{Args}
use Rattle.hack_words.specs.declared.cli.env.Env.{Env}
use Rattle.hack_words.specs.declared.cli.parse.Parsed.{Parsed}
use Rattle.hack_words.specs.declared.cli.parse.Parsed.TheVariants as parsed
use Rattle.hack_files.specs.Files.{Contents}
use Rattle.hack_load.specs.ContextOf.{IsContextFrom}
use Rattle.hack_load.specs.Contexts.{ContextRecord}
use Rattle.hack_load.specs.declared.answers.Answers.{Answers}
use Rattle.hack_process.specs.Calls.{Call, MayAdd}
use Rattle.hack_planner.specs.CallPlan.{IsPlanOf}
use Rattle.hack_run.specs.Handed.{IsPlannedAsAsked, is_search}
use Rattle.hack_run.specs.Loading.{AreLoaded}
use Rattle.hack_run.specs.Questions.{AsksRustup, AsksStable, MayAskStable, rustup_asked}
use Rattle.hack_session.specs.Histories.{Course}
use Rattle.hack_starts.specs.Events.{Event, Layout}
use Rattle.hack_lanes.specs.Lanes.{Scene, Goes}
use Rattle.hack_side.specs.Turns.{RunsAll, RunsSerially}

-- the folder that cargo builds into: the one that it reports, or `target` in that of the workspace
abbrev pub target_folder : ContextRecord → Name
target_folder cx = unwrap_or cx.metadata.target_directory (cx.metadata.workspace_root ++ codes "/target")

-- a word is the option for the folder that cargo builds into
abbrev pub is_target_option : Name → Bool
is_target_option word = bytes_eq word (codes "--target-dir") || starts_with nat_eq word (codes "--target-dir=")

-- a word is a value of `--config` that names that folder, by itself or behind the option
abbrev pub is_configured_dir : Name → Bool
is_configured_dir word = starts_with nat_eq word (codes "build.target-dir") || starts_with nat_eq word (codes "--config=build.target-dir")

-- a word names that folder, or the next word does
abbrev pub is_target_dir : Name → Bool
is_target_dir word = is_target_option word || is_configured_dir word

-- cargo is told by an argument where to build: then it heeds no variable for that
abbrev pub names_target_dir : List Name → Bool
names_target_dir words = list_any is_target_dir words

-- as many lanes as the arguments ask for; one where they name the folder that cargo builds into
abbrev pub lanes_for : Args → ℕ
lanes_for args = if names_target_dir (names_of args.leading_args.items) then 1 else unwrap_or args.parallel 1

-- these lanes, the first of which builds where cargo does
abbrev pub layout_for : ContextRecord → Layout
layout_for cx = record { count = lanes_for cx.args; folder = target_folder cx }

-- these lanes before anything was started
abbrev pub scene_at : {S : Type 0} → Layout → S → Scene S
scene_at layout s = record {
  turn = record { place = None; offers = []; layout = layout };
  state = record { last = None; pending = [] };
  starts = s;
}

-- one history of a context's plan, made with this answer on stable's version, was performed by the
-- rules of lanes; in a search nothing was started ahead
pub record RunsOne {S : Type 0} (did : List Event → S → S → Type 0) (cx : ContextRecord)
    (stable : Stable) (rustup : Name) (old new : Scene S) : Type 0 where
  pub course : Course
  pub notes : List Note
  pub fails : Bool
  pub warns : Bool
  pub planned : IsPlannedAsAsked (IsPlanOf cx.args.subcommand stable cx rustup) false false cx rustup course notes fails warns
  pub ran : MatchBool (is_search false cx.args) (RunsSerially did course.handed old new)
      (RunsAll did cx.args.partition course.plan course.handed old new)

-- One history was performed in the lanes that a context asks for, from fresh ones on; and then all
-- that was started and not told was ended.
pub record RunsInLanes {S : Type 0} (did : List Event → S → S → Type 0) (cx : ContextRecord)
    (stable : Stable) (rustup : Name) (old new : S) : Type 0 where
  pub mid : Scene S
  pub last : Scene S
  pub one : RunsOne did cx stable rustup (scene_at (layout_for cx) old) mid
  pub ended : Goes did [] mid last
  pub none : last.state.pending ≡ []
  pub now : last.starts ≡ new

-- the same, or nothing was handed out
abbrev pub MayRunInLanes : {S : Type 0} → (List Event → S → S → Type 0) → ContextRecord → Stable → Name → S → S → Type 0
MayRunInLanes did cx stable rustup old new = (new ≡ old) ⊎ RunsInLanes did cx stable rustup old new

-- `did` says what became of commands that were started, `course` which calls were made between, and `calls` which the caller
-- tells, where it does
module _ {S : Type 0} (did : List Event → S → S → Type 0) (course : S → S → Type 0) (talks : Type 0) (calls : S → List Call) where
  -- an error ended the call before its plan: stable's version was asked for at most
  abbrev pub EndsEarly : Bool → Name → S → S → Type 0
  EndsEarly done rustup old new =
      (done ≡ false) × course old new × (talks → (calls new ≡ calls old) ⊎ MayAskStable rustup (calls old) (calls new))

  -- Calls in the caller's course alone were made, where the plan is listed, or before an error; or a context was made of
  -- these answers, stable's version asked for, and the plan performed in lanes.
  abbrev pub FollowsInLanes : Bool → Args → Answers → Name → S → S → Type 0
  FollowsInLanes done args answers rustup old new =
      (course old new × (args.print_command_list ≡ true)) ⊎ EndsEarly done rustup old new
      ⊎ ((cx : ContextRecord) × IsContextFrom args answers cx × (stable : Stable) × (before : S) × course old before
      × (talks → AsksStable rustup stable (calls old) (calls before)) × RunsInLanes did cx stable rustup before new)

  -- the questions of these arguments were asked, and what follows from the answers was done in lanes
  pub record LoadsInLanes (done : Bool) (tells : Type 0) (args : Args) (env : Env) (held : Contents) (old new : S) : Type 0 where
    pub answers : Answers
    pub mid : S
    pub between : course old mid
    pub asked : talks → AreLoaded tells args env held (calls old) (calls mid) answers
    pub behind : FollowsInLanes done args answers (string_bytes env.rustup) mid new

  -- what a command line asks for was done in lanes, where it asks for runs
  abbrev pub ObeysInLanes : Bool → Type 0 → Parsed → Env → Contents → S → S → Type 0
  ObeysInLanes done tells (parsed.Args args) env held old new = LoadsInLanes done tells args env held old new
  ObeysInLanes done tells answer env held old new = course old new

  -- a command line was read with what rustup answered, and what it asks for was done in lanes
  pub record ReadsInLanes (done : Bool) (tells : Type 0) (words : List Name) (env : Env) (held : Contents) (old mid new : S) : Type 0 where
    pub rustup : Rustup
    pub answer : Parsed
    pub notes : List Note
    pub told : talks → AsksRustup (wants_rustup words) (string_bytes env.rustup) rustup (calls old) (calls mid)
    pub read : IsAnswer (around_of env rustup) (ComesTo (around_of env rustup) words) answer notes
    pub obeyed : ObeysInLanes done tells answer env held mid new

  -- rustup's version was asked for at most; then a command line was read and obeyed in lanes, or an error ended the call
  pub record IsLaneCall (done : Bool) (tells : Type 0) (words : List Name) (env : Env) (held : Contents) (old new : S) : Type 0 where
    pub mid : S
    pub between : course old mid
    pub asked : talks → MayAdd (rustup_asked (string_bytes env.rustup)) (calls old) (calls mid)
    pub behind : ((done ≡ false) × (new ≡ mid)) ⊎ ReadsInLanes done tells words env held old mid new
