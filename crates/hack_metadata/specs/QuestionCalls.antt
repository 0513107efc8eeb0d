-- Which calls a question to cargo makes, and which answer is used.
use Rattle.std.specs.Prelude.{◌≡◌, ◌⊎◌, ◌<◌, ◌≤◌, ◌++◌, ◌∷◌, ℕ, true, false, List, [], Some, None, Result, Ok, Err, codes, string_bytes, IsSome}
use Rattle.std.specs.Str.{IsUtf8}
use Rattle.serde_json.specs.Data.{Members}
use Rattle.hack_base.specs.Names.{Name}
use Rattle.hack_files.specs.Files.{Change, Contents, Makes, Trace, puts}
use Rattle.hack_metadata.specs.FileFaults.{IsUnread, IsUnwritten}
use Rattle.hack_versions.specs.declared.version.Version.{Version}
use Rattle.hack_versions.specs.declared.rustup.VersionTextFault.{VersionTextFault}
use Rattle.hack_versions.specs.ToolTexts.{TellsRelease, IsAnswerFault}
use Rattle.hack_process.specs.Calls.{Call, MayAdd, IsSuccess}
use Rattle.hack_process.specs.CargoTexts.{release_part}
use Rattle.hack_process.specs.CommandTexts.{Command, text_of}
use Rattle.hack_process.specs.Commands.{asked_of, plain_command}
use Rattle.hack_process.specs.Faults.{GotAnswer, IsReadFault, without_line_ends}
use Rattle.hack_base.specs.PathTexts.{join_of}
use Rattle.hack_metadata.specs.Fields.{object_in_text, string_in}
use Rattle.hack_base.specs.FieldReadings.{FieldReading}
use Rattle.hack_metadata.specs.MetadataReading.{read_metadata}
use Rattle.hack_metadata.specs.Requests.{Question, by_stable, version_command, first_command, lock_command}
use Rattle.hack_metadata.specs.MetadataView.{metadata_view}
use Rattle.hack_metadata.specs.declared.metadata.Metadata.{Metadata}
use Rattle.hack_metadata.specs.declared.ask.fault.AskFault.{AskFault}
use Rattle.hack_metadata.specs.declared.ask.fault.AskFault.TheVariants as fault

-- just this command was called, and ended with status 0
abbrev pub Runs : Command → List Call → List Call → Type 0
Runs c old new = GotAnswer (λ answer. IsSuccess answer.end) (asked_of true c) old new

-- just this command was called, and ended with status 0; without line ends, its output is this text
abbrev pub ReadsOutput : Command → Name → List Call → List Call → Type 0
ReadsOutput c text old new = GotAnswer (λ answer. IsSuccess answer.end × IsUtf8 answer.stdout × (text ≡ without_line_ends answer.stdout)) (asked_of true c) old new

-- its program has no name and wasn't called; or just it was called, and failed or wrote no text
abbrev pub FailsToRead : Command → List Call → List Call → Type 0
FailsToRead c old new = ((c.program ≡ []) × (new ≡ old)) ⊎ GotAnswer (λ answer. ¬ (IsSuccess answer.end × IsUtf8 answer.stdout)) (asked_of true c) old new

-- the minor version in an answer, or 0 where it has none
abbrev pub MinorOf : Name → ℕ → Type 0
MinorOf text minor = ((v : Version) × TellsRelease (release_part text) v × (minor ≡ v.minor)) ⊎ (((e : VersionTextFault) × IsAnswerFault text (release_part text) e) × (minor ≡ 0))

-- stable's cargo was asked for its version, and this is its minor version; 0 where it failed
abbrev pub TellsStableMinor : Name → ℕ → List Call → List Call → Type 0
TellsStableMinor rustup minor old new = ((text : Name) × ReadsOutput (version_command rustup) text old new × MinorOf text minor) ⊎ (FailsToRead (version_command rustup) old new × (minor ≡ 0))

-- the answer is a JSON object, and f reads this from it
abbrev pub TellsAs : {A : Type 0} → (Members → FieldReading A) → Name → A → Type 0
TellsAs f text a = (ms : Members) × (object_in_text text ≡ Some ms) × (f ms ≡ Ok a)

-- the folder of the workspace
abbrev pub root_of : Members → FieldReading Name
root_of ms = string_in (codes "workspace_root") ms

-- the path is the lockfile of the workspace whose folder the answer names
abbrev pub IsLockfile : Name → Name → Type 0
IsLockfile text path = (root : Name) × TellsAs root_of text root × (path ≡ join_of root (codes "Cargo.lock"))

-- how far asking has come
pub data Stage : Type 0 where
  -- nothing was asked
  begun : Stage
  -- stable's cargo has this minor version
  versioned : ℕ → Stage
  -- the full request to cargo is next
  to_cargo : Stage
  -- stable's cargo has this minor version, which is newer
  newer : ℕ → Stage
  -- the same, and cargo's first answer is this text
  first : ℕ → Name → Stage
  -- the same, and the lockfile is missing
  missing : ℕ → Name → Stage
  -- the same, and the lockfile is there
  locked : ℕ → Name → Stage
  -- the answer of this command is used, as that of a cargo of this minor version
  taken : Command → Name → ℕ → Stage

-- the lockfile of an answer is written, with what it held, where the files say what they hold
pub record PutsBack (tells : Type 0) (held : Contents) (text : Name) (put : Change) : Type 0 where
  pub path : Name
  pub bytes : List ℕ
  pub lockfile : IsLockfile text path
  pub kept : tells → held path ≡ Some bytes
  pub is : put ≡ puts path bytes

-- `held` is what the files held before, where they say it
module _ (tells : Type 0) (q : Question) (held : Contents) (old : List Call) where
  -- these calls and writes lead to a stage
  pub data LeadsToStage : Stage → List Call → List Change → Type 0 where
    starts : LeadsToStage begun old []
    tells_minor : {new : List Call} (minor : ℕ) → TellsStableMinor q.rustup minor old new → LeadsToStage (versioned minor) new []
    is_older : {new : List Call} {minor : ℕ} → LeadsToStage (versioned minor) new [] → minor ≤ q.cargo_version → LeadsToStage to_cargo new []
    is_newer : {new : List Call} {minor : ℕ} → LeadsToStage (versioned minor) new [] → q.cargo_version < minor → LeadsToStage (newer minor) new []
    answers : {mid new : List Call} {minor : ℕ} (text : Name) → LeadsToStage (newer minor) mid [] → ReadsOutput (first_command q) text mid new → LeadsToStage (first minor text) new []
    is_there : {mid : List Call} {minor : ℕ} {text : Name} (path : Name) → LeadsToStage (first minor text) mid [] → IsLockfile text path → (tells → IsSome (held path)) → LeadsToStage (locked minor text) mid []
    is_missing : {mid : List Call} {minor : ℕ} {text : Name} (path : Name) → LeadsToStage (first minor text) mid [] → IsLockfile text path → (tells → ¬ IsSome (held path)) → LeadsToStage (missing minor text) mid []
    is_made : {mid new : List Call} {minor : ℕ} {text : Name} → LeadsToStage (missing minor text) mid [] → Runs (lock_command q) mid new → LeadsToStage (locked minor text) new []
    tells_newer : {mid new : List Call} {minor : ℕ} {text : Name} {put : Change} (words : List Name) (told : Name) → q.full ≡ Some words → LeadsToStage (locked minor text) mid [] → ReadsOutput (by_stable q words) told mid new → PutsBack tells held text put
        → LeadsToStage (taken (by_stable q words) told minor) new (put ∷ [])
    first_counts : {mid new : List Call} {minor : ℕ} {text : Name} {put : Change} (words : List Name) → q.full ≡ Some words → LeadsToStage (locked minor text) mid [] → FailsToRead (by_stable q words) mid new → PutsBack tells held text put → q.deps ≡ false
        → LeadsToStage (taken (first_command q) text q.cargo_version) new (put ∷ [])
    asks_again : {mid new : List Call} {minor : ℕ} {text : Name} {put : Change} (words : List Name) → q.full ≡ Some words → LeadsToStage (locked minor text) mid [] → FailsToRead (by_stable q words) mid new → PutsBack tells held text put → q.deps ≡ true
        → LeadsToStage to_cargo new (put ∷ [])
    tells_older : {mid new : List Call} {made : List Change} (words : List Name) (text : Name) → q.full ≡ Some words → LeadsToStage to_cargo mid made → ReadsOutput (plain_command q.cargo [] words) text mid new
        → LeadsToStage (taken (plain_command q.cargo [] words) text q.cargo_version) new made

-- the command that may be called at a stage
abbrev pub IsNextCommand : Question → Stage → Command → Type 0
IsNextCommand q begun c = c ≡ version_command q.rustup
IsNextCommand q to_cargo c = (words : List Name) × (q.full ≡ Some words) × (c ≡ plain_command q.cargo [] words)
IsNextCommand q (newer minor) c = c ≡ first_command q
IsNextCommand q (missing minor text) c = c ≡ lock_command q
IsNextCommand q (locked minor text) c = (words : List Name) × (q.full ≡ Some words) × (c ≡ by_stable q words)
IsNextCommand q _ c = ⊥

-- nothing more was called, or just the next command
abbrev pub MayAsk : Question → Stage → List Call → List Call → Type 0
MayAsk q stage mid new = (new ≡ mid) ⊎ ((c : Command) × IsNextCommand q stage c × MayAdd (asked_of true c) mid new)

-- the answer that is read at a stage is this text, of this command
abbrev pub IsAnswer : Question → Stage → Command → Name → Type 0
IsAnswer q (first minor told) c text = (c ≡ first_command q) × (text ≡ told)
IsAnswer q (taken by told minor) c text = (c ≡ by) × (text ≡ told)
IsAnswer q _ c text = ⊥

-- the answer of a stage can't be read at this field: the workspace's folder, or any of the metadata
abbrev pub Lacks : Stage → Name → Type 0
Lacks (first minor text) name = (ms : Members) × (object_in_text text ≡ Some ms) × (root_of ms ≡ Err name)
Lacks (taken c text minor) name = (ms : Members) × (object_in_text text ≡ Some ms) × (read_metadata minor ms ≡ Err name)
Lacks _ name = ⊥

-- a command that fails at this stage ends the question; stable's cargo may fail
abbrev pub IsNeeded : Stage → Type 0
IsNeeded to_cargo = Unit {0}
IsNeeded (newer minor) = Unit {0}
IsNeeded (missing minor text) = Unit {0}
IsNeeded _ = ⊥

-- why a question ends after a stage; at most one more call was made. The lockfile can't be looked
-- for or read before stable's cargo runs, or not be put back after it.
abbrev pub StopsQuestion : Question → Stage → List Call → List Call → AskFault → Type 0
StopsQuestion q stage mid new fault.Memory = MayAsk q stage mid new
StopsQuestion q stage mid new fault.NoHost = (minor : ℕ) × (stage ≡ versioned minor) × (new ≡ mid) × (q.full ≡ None)
StopsQuestion q stage mid new (fault.Process p) = IsNeeded stage × ((c : Command) × IsNextCommand q stage c × IsReadFault (Unit {0}) (asked_of true c) (text_of true q.dir c) mid new p)
StopsQuestion q stage mid new (fault.Files f) = (minor : ℕ) × (text path : Name) × IsLockfile text path
    × (((new ≡ mid) × IsUnread path f × ((stage ≡ first minor text) ⊎ (stage ≡ locked minor text)))
    ⊎ (MayAsk q stage mid new × IsUnwritten path f × (stage ≡ locked minor text)))
StopsQuestion q stage mid new (fault.Output shown) = (new ≡ mid) × ((c : Command) × (text : Name) × IsAnswer q stage c text × (object_in_text text ≡ None) × (string_bytes shown ≡ text_of q.verbose q.dir c))
StopsQuestion q stage mid new (fault.Field name) = (new ≡ mid) × Lacks stage name.now

module _ (tells : Type 0) (q : Question) (held : Contents) (old new : List Call) where
  -- the metadata are those of the answer that is used, or calls and writes led to a stage where
  -- this error ends the question; and `W` holds of the writes
  abbrev pub EndsSo : (Stage → List Change → Type 0) → Result Metadata AskFault → Type 0
  EndsSo W (Ok m) = (c : Command) × (text : Name) × (minor : ℕ) × (made : List Change) × LeadsToStage tells q held old (taken c text minor) new made × W (taken c text minor) made × TellsAs (read_metadata minor) text (metadata_view m)
  EndsSo W (Err e) = (stage : Stage) × (mid : List Call) × (made : List Change)
      × LeadsToStage tells q held old stage mid made × StopsQuestion q stage mid new e × W stage made

-- just the writes that led to a stage were made; at `locked` the lockfile may be put back too
abbrev pub Wrote : Type 0 → Contents → (List Change → Type 0) → Stage → List Change → Type 0
Wrote tells held Made (locked minor text) made = Made made ⊎ ((put : Change) × PutsBack tells held text put × Made (made ++ put ∷ []))
Wrote tells held Made _ made = Made made

-- where the files say which changes were made, these are all of them
abbrev pub WroteWhereKnown : Type 0 → Type 0 → Trace → Trace → Contents → Contents → Stage → List Change → Type 0
WroteWhereKnown whole tells before now held later stage made = whole → Wrote tells held (λ cs. Makes cs before now held later) stage made
