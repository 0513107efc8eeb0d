-- The results of all questions of a call.
use Rattle.std.specs.Prelude.{◌≡◌, ◌⊎◌, [], ℕ, true, List, Option, Result, Ok, Err, MatchResult, string_bytes}
use Rattle.std.specs.Result.{result_unwrap_or}
use Rattle.hack_base.specs.Names.{Name}
use Rattle.hack_files.specs.Files.{Change, Contents}
use Rattle.hack_process.specs.Calls.{Call, MayAdd}
use Rattle.hack_process.specs.Commands.{asked_of}
use Rattle.hack_metadata.specs.QuestionCalls.{EndsSo, Stage, begun}
use Rattle.hack_metadata.specs.Requests.{question}
use Rattle.hack_metadata.specs.MetadataView.{metadata_view}
use Rattle.hack_metadata.specs.declared.ask.fault.AskFault.{AskFault}
use Rattle.hack_metadata.specs.declared.ask.fault.AskFault.TheVariants as ask
use Rattle.hack_metadata.specs.declared.metadata.Metadata.{Metadata}
use Rattle.hack_manifest.specs.declared.manifest.Manifest.{Manifest}
use Rattle.hack_words.specs.declared.cli.args.Args.{Args}
use Rattle.hack_words.specs.declared.cli.env.Env.{Env}
use Rattle.hack_load.specs.CargoQuestions.{AreOfMembers, IsMemberFault, IsLocated, FailsLocate, IsSelf, locate, self_command, told_version}
use Rattle.hack_load.specs.declared.fault.ContextFault.{ContextFault}
use Rattle.hack_load.specs.declared.fault.ContextFault.TheVariants as faults
use Rattle.hack_load.specs.declared.loaded.Loaded.{Loaded}
use Rattle.hack_load.specs.declared.answers.Answers.{Answers}

-- what was loaded names cargo and the folder of the call, and has the manifests of the members
pub record IsLoaded (tells : Type 0) (held : Contents) (env : Env) (l : Loaded) : Type 0 where
  pub cargo : string_bytes l.cargo ≡ string_bytes env.cargo
  pub folder : string_bytes l.current_dir ≡ string_bytes env.current_dir
  pub manifests : AreOfMembers tells held (metadata_view l.metadata) l.manifests.items

-- an error of the question for metadata as an error of the call
abbrev pub IsAskFault : AskFault → ContextFault → Type 0
IsAskFault ask.Memory e = e ≡ faults.Memory
IsAskFault asked e = e ≡ faults.Asked asked

-- `held` is what the files held before, where they say it; `before` and `now` count failed calls
module _ (tells : Type 0) (args : Args) (env : Env) (held : Contents) (before now : ℕ) where
  -- manifests were read, the current one asked for, and just that was loaded; or an error ended it
  abbrev pub LoadsFromMetadata : Metadata → List Call → List Call → Result Loaded ContextFault → Type 0
  LoadsFromMetadata m mid new (Ok l) = (l.metadata ≡ m) × IsLocated args env mid new l.located × IsLoaded tells held env l
  LoadsFromMetadata m mid new (Err e) = ((new ≡ mid) × IsMemberFault tells held (metadata_view m) before now e)
      ⊎ ((xs : List Manifest) × AreOfMembers tells held (metadata_view m) xs
      × FailsLocate (Unit {0}) (locate args env) (string_bytes env.current_dir) mid new e)

  -- the questions after the one for the version: that for metadata was answered, and the others
  -- followed; or it ended in an error, and nothing followed. `W` holds of the writes of that one:
  -- the others make none
  pub record LoadsTo (W : Stage → List Change → Type 0) (minor : ℕ) (host : Option Name)
      (old new : List Call) (r : Result Loaded ContextFault) : Type 0 where
    pub asked : Result Metadata AskFault
    pub mid : List Call
    pub ends : EndsSo tells (question args env minor host) held old mid W asked
    pub follows : MatchResult asked (λ m. LoadsFromMetadata m mid new r)
        (λ e. (new ≡ mid) × (fault : ContextFault) × IsAskFault e fault × (r ≡ Err fault))

-- the questions of a call in their order, with the result of each; none follows one that ended
-- them. `W` holds of their writes, at the stage where the question for metadata ended
pub record AreAsked (tells : Type 0) (W : Stage → List Change → Type 0) (args : Args) (env : Env)
    (held : Contents) (before now : ℕ) (old new : List Call) (a : Answers) : Type 0 where
  pub host : Option Name
  pub mid : List Call
  pub own : IsSelf args env (told_version a.cargo_version) host old mid
  pub loads : LoadsTo tells args env held before now W (result_unwrap_or a.cargo_version 0) host
      mid new a.loaded

-- the same; or memory was refused at the first question, and nothing was written
abbrev pub AreAnswers : Type 0 → (Stage → List Change → Type 0) → Args → Env → Contents → ℕ → ℕ
    → List Call → List Call → Answers → Type 0
AreAnswers tells W args env held before now old new a =
    AreAsked tells W args env held before now old new a
    ⊎ ((a.loaded ≡ Err faults.Memory) × W begun []
    × MayAdd (asked_of true (self_command (string_bytes env.cargo))) old new)
