-- Manifests once held their edits, also those that come back afterwards.
use Rattle.std.specs.Prelude.{◌≡◌, List, string_bytes}
use Rattle.hack_base.specs.Names.{Name}
use Rattle.hack_base.specs.Notes.{Note}
use Rattle.hack_files.specs.Files.{Contents}
use Rattle.hack_files.specs.declared.fs.Files.{Ghosts as Filing}
use Rattle.hack_load.specs.ContextOf.{IsContextFrom}
use Rattle.hack_load.specs.Contexts.{ContextRecord}
use Rattle.hack_load.specs.declared.answers.Answers.{Answers}
use Rattle.hack_prepare.specs.PreparedView.{IsPreparedIn}
use Rattle.hack_process.specs.Calls.{Call}
use Rattle.hack_versions.specs.declared.rustup.Rustup.{Rustup}
use Rattle.hack_words.specs.CommandLine.{ComesTo}
use Rattle.hack_words.specs.ParseAnswers.{AnswersCommandLine as IsAnswer, around_of}
use Rattle.hack_words.specs.Start.{wants_rustup}
use Rattle.hack_words.specs.declared.cli.args.Args.{Args}
use Rattle.hack_words.specs.declared.cli.env.Env.{Env}
use Rattle.hack_words.specs.declared.cli.parse.Parsed.{Parsed}
use Rattle.hack_words.specs.declared.cli.parse.Parsed.TheVariants as parsed
use Rattle.hack_run.specs.Loading.{AreLoaded}
use Rattle.hack_run.specs.Questions.{AsksRustup}

-- Between two states files held this. In code over any files no other state is to be had than one that they were in.
abbrev pub Between : {F : Type 0} → Filing F → F → F → Contents → Type 0
Between {F} f old new held = (at : F) × f.stays old at × f.stays at new × (held ≡ f.bytes_at at)

-- `Held` says what was held meanwhile
module _ (Held : Contents → Type 0) (tells talks : Type 0) where
  -- once each manifest that the context has edited held its edit, and every other path what it held
  pub record EditsStood (cx : ContextRecord) (held : Contents) : Type 0 where
    pub at : Contents
    pub was : Held at
    pub stood : tells → IsPreparedIn cx held at

  -- the questions of these arguments were asked, and the edits of the context that comes of the answers stood
  pub record LoadsAndEdits (args : Args) (env : Env) (held : Contents) (calls : List Call) : Type 0 where
    pub answers : Answers
    pub mid : List Call
    pub cx : ContextRecord
    pub asked : talks → AreLoaded tells args env held calls mid answers
    pub context : IsContextFrom args answers cx
    pub edits : EditsStood cx held

  -- the edits of what a command line asks for stood
  abbrev pub ObeysAndEdits : Parsed → Env → Contents → List Call → Type 0
  ObeysAndEdits (parsed.Args args) env held calls = LoadsAndEdits args env held calls
  ObeysAndEdits answer env held calls = Unit {0}

  -- a command line was read with what rustup answered, and its edits stood
  pub record EditsStand (words : List Name) (env : Env) (held : Contents) (calls : List Call) : Type 0 where
    pub mid : List Call
    pub rustup : Rustup
    pub answer : Parsed
    pub notes : List Note
    pub told : talks → AsksRustup (wants_rustup words) (string_bytes env.rustup) rustup calls mid
    pub read : IsAnswer (around_of env rustup) (ComesTo (around_of env rustup) words) answer notes
    pub obeyed : ObeysAndEdits answer env held mid
