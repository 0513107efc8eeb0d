-- Which calls of files failed while what a call needs was loaded.
use Rattle.std.specs.Prelude.{◌≡◌, ◌⊎◌, [], ℕ, true, List, Option, Some, Result, Ok, Err, Contains, slice_get, string_bytes}
use Rattle.std.specs.Result.{result_unwrap_or}
use Rattle.hack_base.specs.Names.{Name}
use Rattle.hack_files.specs.Files.{Makes}
use Rattle.hack_files.specs.FailedCalls.{LookFailed, NoneFailed, ReadFailed, WriteFailed}
use Rattle.hack_files.specs.declared.fs.Files.{Ghosts as Filing}
use Rattle.hack_files.specs.declared.fs.FsFault.TheVariants as fs
use Rattle.hack_process.specs.Calls.{Call, MayAdd}
use Rattle.hack_process.specs.Commands.{asked_of}
use Rattle.hack_metadata.specs.FailedQuestions.{EndsQuestion, IsOfCallAt, WroteTo}
use Rattle.hack_metadata.specs.MetadataView.{metadata_view}
use Rattle.hack_metadata.specs.QuestionCalls.{EndsSo}
use Rattle.hack_metadata.specs.Records.{PackageRecord, MetadataRecord}
use Rattle.hack_metadata.specs.Requests.{Question, question}
use Rattle.hack_metadata.specs.declared.ask.fault.AskFault.{AskFault}
use Rattle.hack_metadata.specs.declared.metadata.Metadata.{Metadata}
use Rattle.hack_words.specs.declared.cli.args.Args.{Args}
use Rattle.hack_words.specs.declared.cli.env.Env.{Env}
use Rattle.hack_load.specs.Answers.{IsAskFault}
use Rattle.hack_load.specs.CargoQuestions.{IsSelf, self_command, told_version}
use Rattle.hack_load.specs.declared.answers.Answers.{Answers}
use Rattle.hack_load.specs.declared.fault.ContextFault.{ContextFault}
use Rattle.hack_load.specs.declared.fault.ContextFault.TheVariants as faults
use Rattle.hack_load.specs.declared.loaded.Loaded.{Loaded}

-- the path of a package's manifest
abbrev pub IsManifestAt : MetadataRecord → ℕ → Name → Type 0
IsManifestAt m id path = (of : PackageRecord) × (slice_get m.packages id ≡ Some of) × (path ≡ of.manifest_path)

-- the path of a member's manifest
abbrev pub IsMemberPath : MetadataRecord → Name → Type 0
IsMemberPath m path = (id : ℕ) × Contains m.workspace_members id × IsManifestAt m id path

module _ {F : Type 0} (f : Filing F) where
  -- the error is that of the one read that failed, at a path of which `P` holds; refused memory may be
  -- the files', and any other error is of no failed call
  abbrev pub IsOfReadAt : (Name → Type 0) → F → F → ContextFault → Type 0
  IsOfReadAt P old new faults.Memory = NoneFailed f old new ⊎ ((path : Name) × P path × LookFailed f path old new)
  IsOfReadAt P old new (faults.Files (fs.Read p)) = P (string_bytes p) × ReadFailed f (string_bytes p) old new
  IsOfReadAt P old new (faults.Files (fs.NotText p)) = NoneFailed f old new
  IsOfReadAt P old new (faults.Files _) = ⊥
  IsOfReadAt P old new (faults.Asked _) = ⊥
  IsOfReadAt P old new _ = NoneFailed f old new

  -- without an error no call failed, and with one at most the read that it is of
  abbrev pub FailsOnlyReading : {X : Type 0} → (Name → Type 0) → F → F → Result X ContextFault → Type 0
  FailsOnlyReading P old new (Ok x) = NoneFailed f old new
  FailsOnlyReading P old new (Err e) = IsOfReadAt P old new e

  -- the error is that of the one call that failed, at the path that it names: of the lockfile, or the
  -- read of a manifest; refused memory may be the files', and any other error is of no failed call
  abbrev pub IsOfLoading : F → F → ContextFault → Type 0
  IsOfLoading old new faults.Memory = NoneFailed f old new ⊎ ((path : Name) × (LookFailed f path old new ⊎ WriteFailed f path old new))
  IsOfLoading old new (faults.Asked e) = (path : Name) × IsOfCallAt f path old new e
  IsOfLoading old new (faults.Files (fs.Read p)) = ReadFailed f (string_bytes p) old new
  IsOfLoading old new (faults.Files (fs.NotText p)) = NoneFailed f old new
  IsOfLoading old new (faults.Files _) = ⊥
  IsOfLoading old new _ = NoneFailed f old new

  -- without an error no call failed, and with one at most the one that it is of
  abbrev pub FailsToLoad : {X : Type 0} → F → F → Result X ContextFault → Type 0
  FailsToLoad old new (Ok x) = NoneFailed f old new
  FailsToLoad old new (Err e) = IsOfLoading old new e

  -- these metadata were told, and at most the read of a member's manifest failed, before anything else
  -- was called; the writes of that question were all
  pub record FailsBehind (old new : F) (q : Question) (first last : List Call) (r : Result Loaded ContextFault) : Type 0 where
    pub metadata : Metadata
    pub mid : List Call
    pub told : EndsSo f.tells q (f.bytes_at old) first mid (WroteTo f old new) (Ok metadata)
    pub reads : FailsOnlyReading (λ path. (last ≡ mid) × IsMemberPath (metadata_view metadata) path) old new r

  -- the question for metadata ended in this error, with at most one failed call, of the lockfile
  pub record FailsAsking (old new : F) (q : Question) (first last : List Call) (r : Result Loaded ContextFault) : Type 0 where
    pub why : AskFault
    pub fault : ContextFault
    pub stops : EndsQuestion f old new q first last (Err why)
    pub told : IsAskFault why fault
    pub is : r ≡ Err fault

  -- one or the other
  abbrev pub LoadFails : F → F → Question → List Call → List Call → Result Loaded ContextFault → Type 0
  LoadFails old new q first last r = FailsBehind old new q first last r ⊎ FailsAsking old new q first last r

  -- cargo was asked for its version, and the rest was loaded, or failed, in this way
  pub record AnswersFail (old new : F) (args : Args) (env : Env) (first last : List Call) (a : Answers) : Type 0 where
    pub host : Option Name
    pub mid : List Call
    pub own : IsSelf args env (told_version a.cargo_version) host first mid
    pub loads : LoadFails old new (question args env (result_unwrap_or a.cargo_version 0) host) mid last a.loaded

  -- the same; or memory was refused at the first question, that for the version, and no call of files
  -- failed
  abbrev pub AnswersFailSo : F → F → Args → Env → List Call → List Call → Answers → Type 0
  AnswersFailSo old new args env first last a = AnswersFail old new args env first last a
      ⊎ ((a.loaded ≡ Err faults.Memory) × NoneFailed f old new × (f.whole → Makes [] (f.trace old) (f.trace new) (f.bytes_at old) (f.bytes_at new))
      × MayAdd (asked_of true (self_command (string_bytes env.cargo))) first last)
