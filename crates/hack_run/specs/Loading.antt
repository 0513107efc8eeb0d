-- What a call asks cargo before it has a plan, and what it loads.
use Rattle.std.specs.Prelude.{◌≡◌, ◌⊎◌, [], ℕ, true, List, Option, Some, None, string_bytes}
use Rattle.std.specs.Result.{result_ok, result_unwrap_or}
use Rattle.hack_base.specs.Names.{Name}
use Rattle.hack_files.specs.Files.{Change, Contents}
use Rattle.hack_process.specs.Calls.{Call, MayAdd}
use Rattle.hack_process.specs.CommandTexts.{Command}
use Rattle.hack_process.specs.Commands.{asked_of}
use Rattle.hack_versions.specs.ToolTexts.{TellsRelease}
use Rattle.hack_versions.specs.declared.version.Version.{Version}
use Rattle.hack_manifest.specs.declared.manifest.Manifest.{Manifest}
use Rattle.hack_metadata.specs.MetadataReading.{read_metadata}
use Rattle.hack_metadata.specs.MetadataView.{metadata_view}
use Rattle.hack_metadata.specs.QuestionCalls.{FailsToRead, LeadsToStage, MayAsk, ReadsOutput, Stage, TellsAs, taken}
use Rattle.hack_metadata.specs.Requests.{Question, question}
use Rattle.hack_metadata.specs.declared.metadata.Metadata.{Metadata}
use Rattle.hack_words.specs.declared.cli.args.Args.{Args}
use Rattle.hack_words.specs.declared.cli.env.Env.{Env}
use Rattle.hack_load.specs.Answers.{IsLoaded}
use Rattle.hack_load.specs.CargoQuestions.{AreOfMembers, IsSelf, locate, self_command, told_version}
use Rattle.hack_load.specs.declared.answers.Answers.{Answers}
use Rattle.hack_load.specs.declared.loaded.Loaded.{Loaded}

-- the minor version of the release in a part of an answer; none where it has no release
abbrev pub IsMinorIn : Option Name → Option ℕ → Type 0
IsMinorIn part (Some minor) = (v : Version) × TellsRelease part v × (minor ≡ v.minor)
IsMinorIn part None = (v : Version) → ¬ TellsRelease part v

-- a command was called for its output, and P holds of that; of none where it gave none, as where its
-- program has no name and isn't called
abbrev pub AsksFor : (Option Name → Type 0) → Command → List Call → List Call → Type 0
AsksFor P c old new =
    ((text : Name) × ReadsOutput c text old new × P (Some text))
    ⊎ (FailsToRead c old new × (c.program ≡ [] → new ≡ old) × P None)

-- `held` is what the files held before, where they say it
module _ (tells : Type 0) (args : Args) (env : Env) (held : Contents) where
  -- the metadata are those of the answer that is used
  abbrev pub AnswersMetadata : Question → List Call → List Call → Metadata → Type 0
  AnswersMetadata q old new m =
      (c : Command) × (text : Name) × (minor : ℕ) × (made : List Change)
      × LeadsToStage tells q held old (taken c text minor) new made
      × TellsAs (read_metadata minor) text (metadata_view m)

  -- an error ended the questions: one for the metadata, the reading of the members' manifests, or
  -- the question for the current manifest, which follows them
  pub data StopsLoading (q : Question) (old new : List Call) : Type 0 where
    at_metadata : (stage : Stage) (mid : List Call) (made : List Change)
        → LeadsToStage tells q held old stage mid made → MayAsk q stage mid new
        → StopsLoading q old new
    at_manifests : (m : Metadata) → AnswersMetadata q old new m → StopsLoading q old new
    at_location : (m : Metadata) (mid : List Call) (xs : List Manifest)
        → AnswersMetadata q old mid m → AreOfMembers tells held (metadata_view m) xs
        → MayAdd (asked_of true (locate args env)) mid new → StopsLoading q old new

  -- the questions after that for the version, in order: just this was loaded, or an error ended them
  abbrev pub Loads : Question → List Call → List Call → Option Loaded → Type 0
  Loads q old new None = StopsLoading q old new
  Loads q old new (Some l) =
      (mid : List Call) × AnswersMetadata q old mid l.metadata
      × ReadsOutput (locate args env) (string_bytes l.located.text) mid new
      × IsLoaded tells held env l

  -- cargo's version and host were asked for, and what that leads to
  pub record AsksAll (old new : List Call) (a : Answers) : Type 0 where
    pub host : Option Name
    pub mid : List Call
    pub own : IsSelf args env (told_version a.cargo_version) host old mid
    pub loads : Loads (question args env (result_unwrap_or a.cargo_version 0) host) mid new
        (result_ok a.loaded)

  -- the questions of a call in their order, whichever error ended them; memory may end the first
  abbrev pub AreLoaded : List Call → List Call → Answers → Type 0
  AreLoaded old new a =
      AsksAll old new a ⊎ ((result_ok a.loaded ≡ None)
      × MayAdd (asked_of true (self_command (string_bytes env.cargo))) old new)
