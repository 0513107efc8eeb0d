-- What a call leaves in files, whatever comes of it, also where its edits stay.
use Rattle.std.specs.Prelude.{◌≡◌, ◌⊎◌, Contains, List, string_bytes, true}
use Rattle.hack_base.specs.Names.{Name}
use Rattle.hack_base.specs.Notes.{Note}
use Rattle.hack_files.specs.Files.{Contents, KeepsAllBut}
use Rattle.hack_load.specs.ContextOf.{IsContextFrom}
use Rattle.hack_load.specs.Contexts.{ContextRecord}
use Rattle.hack_load.specs.declared.answers.Answers.{Answers}
use Rattle.hack_prepare.specs.PreparedView.{IsPartlyPreparedIn, KeepsUneditedIn}
use Rattle.hack_process.specs.Calls.{Call}
use Rattle.hack_versions.specs.declared.rustup.Rustup.{Rustup}
use Rattle.hack_words.specs.CommandLine.{ComesTo}
use Rattle.hack_words.specs.ParseAnswers.{AnswersCommandLine as IsAnswer, around_of}
use Rattle.hack_words.specs.Start.{wants_rustup}
use Rattle.hack_words.specs.declared.cli.args.Args.{Args}
use Rattle.hack_words.specs.declared.cli.env.Env.{Env}
use Rattle.hack_words.specs.declared.cli.parse.Parsed.{Parsed}
use Rattle.hack_words.specs.declared.cli.parse.Parsed.TheVariants as parsed
use Rattle.hack_run.specs.Loading.{AreLoaded}
use Rattle.hack_run.specs.Questions.{AsksRustup}

-- a write or removal of this path was refused
abbrev pub IsSpoilt : (List Name → Type 0) → Name → Type 0
IsSpoilt Refuses path = (paths : List Name) × Refuses paths × Contains paths path

-- each manifest that the context has edited holds its edit or what it held, unless its own write was
-- refused; and every other path holds what it held
pub record LeavesEdits (Refuses : List Name → Type 0) (tells : Type 0) (cx : ContextRecord) (old new : Contents) : Type 0 where
  pub edited : tells → IsPartlyPreparedIn cx (IsSpoilt Refuses) old new
  pub others : tells → KeepsUneditedIn cx old new

-- `Refuses` says of which paths writes or removals were refused
module _ (Refuses : List Name → Type 0) (tells talks : Type 0) where
  -- edits stay: the questions of these arguments were asked, and at most the edits were made of the
  -- context that comes of the answers
  pub record LoadsAndLeaves (args : Args) (env : Env) (calls : List Call) (old new : Contents) : Type 0 where
    pub answers : Answers
    pub mid : List Call
    pub cx : ContextRecord
    pub asked : talks → AreLoaded tells args env old calls mid answers
    pub context : IsContextFrom args answers cx
    pub stay : args.remove_dev_deps ≡ true
    pub edits : LeavesEdits Refuses tells cx old new

  -- each path holds what it held, unless its own write was refused; or these arguments have edits that
  -- stay, and at most these were made
  abbrev pub LeavesAtMost : Args → Env → List Call → Contents → Contents → Type 0
  LeavesAtMost args env calls old new = KeepsAllBut Refuses tells old new ⊎ LoadsAndLeaves args env calls old new

  -- the same of what a command line asks for
  abbrev pub ObeysAndLeaves : Parsed → Env → List Call → Contents → Contents → Type 0
  ObeysAndLeaves answer env calls old new =
      KeepsAllBut Refuses tells old new
      ⊎ ((args : Args) × (answer ≡ parsed.Args args) × LoadsAndLeaves args env calls old new)

  -- a command line was read with what rustup answered, and at most its edits were made, which stay
  pub record ReadsAndLeaves (words : List Name) (env : Env) (calls : List Call) (old new : Contents) : Type 0 where
    pub mid : List Call
    pub rustup : Rustup
    pub args : Args
    pub notes : List Note
    pub told : talks → AsksRustup (wants_rustup words) (string_bytes env.rustup) rustup calls mid
    pub read : IsAnswer (around_of env rustup) (ComesTo (around_of env rustup) words) (parsed.Args args) notes
    pub left : LoadsAndLeaves args env mid old new

  -- each path holds what it held, unless its own write was refused; or at most such edits were made
  abbrev pub LeavesAtMostEdits : List Name → Env → List Call → Contents → Contents → Type 0
  LeavesAtMostEdits words env calls old new = KeepsAllBut Refuses tells old new ⊎ ReadsAndLeaves words env calls old new
