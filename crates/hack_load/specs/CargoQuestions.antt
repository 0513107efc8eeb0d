-- What cargo is asked for a call, and how its answers are read.
use Rattle.std.specs.Prelude.{◌≡◌, ◌≢◌, ◌⊎◌, ◌++◌, ◌∷◌, [], ℕ, true, List, Option, Some, None, Result, Ok, Err, Contains, codes, slice_get, string_bytes}
use Rattle.std.specs.List.{AllZip}
use Rattle.std.proofs.Common.{Global, String}
use Rattle.hack_base.specs.Names.{Name, optional_text}
use Rattle.hack_files.specs.Files.{Contents}
use Rattle.hack_files.specs.Faults.{IsOfText}
use Rattle.hack_files.specs.declared.fs.FsFault.{FsFault}
use Rattle.hack_files.specs.declared.fs.FsFault.TheVariants as fs
use Rattle.hack_versions.specs.declared.version.Version.{Version}
use Rattle.hack_versions.specs.declared.rustup.VersionTextFault.{VersionTextFault}
use Rattle.hack_versions.specs.ToolTexts.{TellsRelease, IsAnswerFault, answer_fault_text}
use Rattle.hack_process.specs.Calls.{Call, MayAdd}
use Rattle.hack_process.specs.CargoTexts.{host_of, release_part}
use Rattle.hack_process.specs.CommandTexts.{Command, text_of}
use Rattle.hack_process.specs.Commands.{asked_of, manifest_words, plain_command}
use Rattle.hack_process.specs.Faults.{IsReadFault, fault_text}
use Rattle.hack_process.specs.declared.fault.ProcessFault.{ProcessFault}
use Rattle.hack_process.specs.declared.fault.ProcessFault.TheVariants as process
use Rattle.hack_metadata.specs.QuestionCalls.{ReadsOutput}
use Rattle.hack_metadata.specs.Records.{PackageRecord, MetadataRecord}
use Rattle.hack_manifest.specs.ManifestResults.{IsManifest, IsRefusal}
use Rattle.hack_manifest.specs.declared.manifest.Manifest.{Manifest}
use Rattle.hack_manifest.specs.declared.manifest.ManifestFault.{ManifestFault}
use Rattle.hack_manifest.specs.declared.manifest.ManifestFault.TheVariants as manifest
use Rattle.hack_words.specs.declared.cli.args.Args.{Args}
use Rattle.hack_words.specs.declared.cli.env.Env.{Env}
use Rattle.hack_load.specs.declared.fault.ContextFault.{ContextFault}
use Rattle.hack_load.specs.declared.fault.ContextFault.TheVariants as faults
use Rattle.hack_load.specs.declared.located.Located.{Located}

-- ---- cargo's own version

-- the command that asks cargo for its version
abbrev pub self_command : Name → Command
self_command cargo = plain_command cargo [] (codes "-vV" ∷ [])

-- the warning that the version can't be determined
abbrev pub unknown_version : Name → Name
unknown_version reason = codes "unable to determine cargo version: " ++ reason

-- a minor version, or the warning, as plain data
abbrev pub told_version : Result ℕ (String Global) → Result ℕ Name
told_version (Ok minor) = Ok minor
told_version (Err warning) = Err (string_bytes warning)

-- the minor version in an answer, or the warning, which shows the command as `shown`
abbrev pub TellsVersion : Name → Name → Result ℕ Name → Type 0
TellsVersion shown text (Ok minor) = (v : Version) × TellsRelease (release_part text) v × (minor ≡ v.minor)
TellsVersion shown text (Err warning) = (e : VersionTextFault) × IsAnswerFault text (release_part text) e × (warning ≡ unknown_version (answer_fault_text shown e))

-- the version and the host in an answer of cargo
pub record TellsSelf (shown text : Name) (version : Result ℕ Name) (host : Option Name) : Type 0 where
  pub tells : TellsVersion shown text version
  pub named : host ≡ host_of text

-- asking cargo for its version failed, but not for memory: a warning, and no host
pub record FailsSelf (e : ProcessFault) (version : Result ℕ Name) (host : Option Name) : Type 0 where
  pub memory : e ≢ process.Memory
  pub warns : version ≡ Err (unknown_version (fault_text e))
  pub unnamed : host ≡ None

-- how the command is shown to the user
abbrev pub shown_self : Args → Env → Name
shown_self args env = text_of args.verbose (string_bytes env.current_dir) (self_command (string_bytes env.cargo))

-- cargo was asked for its version, and this is the result
abbrev pub IsSelf : Args → Env → Result ℕ Name → Option Name → List Call → List Call → Type 0
IsSelf args env version host old new =
    ((text : Name) × ReadsOutput (self_command (string_bytes env.cargo)) text old new × TellsSelf (shown_self args env) text version host)
    ⊎ ((e : ProcessFault) × IsReadFault (Unit {0}) (asked_of true (self_command (string_bytes env.cargo))) (text_of true (string_bytes env.current_dir) (self_command (string_bytes env.cargo))) old new e × FailsSelf e version host)

-- ---- manifests

-- a member's manifest has the text of its file, and what is read from that
pub record IsOfMember (tells : Type 0) (held : Contents) (m : MetadataRecord) (id : ℕ) (x : Manifest) : Type 0 where
  pub of : PackageRecord
  pub at : slice_get m.packages id ≡ Some of
  pub says : IsManifest (string_bytes x.text) m.cargo_version x
  pub read : tells → held of.manifest_path ≡ Some (string_bytes x.text)

-- one manifest for each member, in their order
abbrev pub AreOfMembers : Type 0 → Contents → MetadataRecord → List Manifest → Type 0
AreOfMembers tells held m xs = AllZip (IsOfMember tells held m) m.workspace_members xs

-- the file of a package's manifest can't be read
pub record CantRead (tells : Type 0) (held : Contents) (m : MetadataRecord) (id before now : ℕ) (e : FsFault) : Type 0 where
  pub of : PackageRecord
  pub at : slice_get m.packages id ≡ Some of
  pub fault : IsOfText of.manifest_path tells (held of.manifest_path) before now e
  pub memory : e ≢ fs.Memory

-- what the file holds is no manifest
pub record IsIllFormed (tells : Type 0) (held : Contents) (m : MetadataRecord) (id : ℕ) (e : ManifestFault) : Type 0 where
  pub of : PackageRecord
  pub text : Name
  pub at : slice_get m.packages id ≡ Some of
  pub read : tells → held of.manifest_path ≡ Some text
  pub fault : IsRefusal of.manifest_path text m.cargo_version e
  pub memory : e ≢ manifest.Memory

-- why the manifest of a package can't be read; or memory was refused
abbrev pub IsPackageFault : Type 0 → Contents → MetadataRecord → ℕ → ℕ → ℕ → ContextFault → Type 0
IsPackageFault tells held m id before now faults.Memory = Unit {0}
IsPackageFault tells held m id before now (faults.Files e) = CantRead tells held m id before now e
IsPackageFault tells held m id before now (faults.Manifest e) = IsIllFormed tells held m id e
IsPackageFault tells held m id before now _ = ⊥

-- why the manifest of some member can't be read; or memory was refused
abbrev pub IsMemberFault : Type 0 → Contents → MetadataRecord → ℕ → ℕ → ContextFault → Type 0
IsMemberFault tells held m before now e = (e ≡ faults.Memory) ⊎ ((id : ℕ) × Contains m.workspace_members id × IsPackageFault tells held m id before now e)

-- ---- the current manifest

-- the command that asks cargo for the current manifest
abbrev pub locate : Args → Env → Command
locate args env = plain_command (string_bytes env.cargo) []
    (codes "locate-project" ∷ manifest_words (optional_text args.manifest_path))

-- asking cargo for the current manifest failed; or memory was refused
abbrev pub FailsLocate : Type 0 → Command → Name → List Call → List Call → ContextFault → Type 0
FailsLocate tells c dir old new faults.Memory = tells → MayAdd (asked_of true c) old new
FailsLocate tells c dir old new (faults.Process e) = IsReadFault tells (asked_of true c) (text_of true dir c) old new e × (e ≢ process.Memory)
FailsLocate tells c dir old new _ = ⊥

-- the answer of cargo, with the command as it is shown
pub record IsLocated (args : Args) (env : Env) (old new : List Call) (l : Located) : Type 0 where
  pub shown : string_bytes l.command ≡ text_of args.verbose (string_bytes env.current_dir) (locate args env)
  pub reads : ReadsOutput (locate args env) (string_bytes l.text) old new
