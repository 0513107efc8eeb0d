-- What rustup is asked before there is a plan.
use Rattle.std.specs.Prelude.{◌≡◌, ◌≢◌, ◌⊎◌, ◌∷◌, [], Bool, IfSome, List, None, Option, codes, false, option_and_then, string_bytes, true}
use Rattle.hack_base.specs.Names.{Name}
use Rattle.hack_metadata.specs.QuestionCalls.{ReadsOutput}
use Rattle.hack_metadata.specs.Requests.{version_command}
use Rattle.hack_process.specs.Calls.{Asked, Call, MayAdd}
use Rattle.hack_process.specs.CargoTexts.{release_part}
use Rattle.hack_process.specs.Commands.{asked_of, plain_command}
use Rattle.hack_process.specs.CommandTexts.{Command, text_of}
use Rattle.hack_process.specs.Faults.{IsFault, IsReadFault, fault_text}
use Rattle.hack_process.specs.declared.fault.ProcessFault.{ProcessFault}
use Rattle.hack_process.specs.declared.fault.ProcessFault.TheVariants as process
use Rattle.hack_versions.specs.ToolTexts.{IsAnswerFault, TellsRelease, answer_fault_text, rustup_part}
use Rattle.hack_versions.specs.declared.rustup.Rustup.{Rustup}
use Rattle.hack_versions.specs.declared.rustup.Rustup.TheVariants.{Unasked}
use Rattle.hack_versions.specs.declared.rustup.VersionTextFault.{VersionTextFault}
use Rattle.hack_versions.specs.declared.version.Version.{Version}
use Rattle.hack_planner.specs.declared.stable.Stable.{Stable}
use Rattle.hack_planner.specs.declared.stable.Stable.TheVariants as stable
use Rattle.hack_words.specs.RustupView.{known_of, unknown_of}
use Rattle.hack_session.specs.StepCalls.{BreaksInstall, Installs, MakesCalls}
use Rattle.hack_session.specs.Toolchains.{addition_of, trial_of}
use Rattle.hack_session.specs.declared.step.Outcome.TheVariants.{Failed, Passed}
use Rattle.hack_run.specs.Loading.{AsksFor, IsMinorIn}

-- the command that asks rustup for its version
abbrev pub rustup_command : Name → Command
rustup_command rustup = plain_command rustup [] (codes "--version" ∷ [])

-- the same, as a caller gets it
abbrev pub rustup_asked : Name → Asked
rustup_asked rustup = asked_of true (rustup_command rustup)

-- where an argument needs it, rustup was asked, and `known` is the minor version in its answer, or
-- unknown where there is none; else nothing was asked, and `known` says so
abbrev pub AsksRustup : Bool → Name → Rustup → List Call → List Call → Type 0
AsksRustup false rustup known old new = (known ≡ Unasked) × (new ≡ old)
AsksRustup true rustup known old new =
    (known ≢ Unasked) × AsksFor (λ text. IsMinorIn (option_and_then rustup_part text) (known_of known))
    (rustup_command rustup) old new

-- the toolchain `stable` is installed: it was tried, and added where that failed
abbrev pub InstallsStable : Name → List Call → List Call → Type 0
InstallsStable rustup old new =
    MakesCalls (λ calls. Installs [] (asked_of true (trial_of rustup (codes "stable"))) (asked_of true (addition_of rustup (codes "stable") [])) calls Passed) old new

-- stable's cargo answered with this version
abbrev pub ReadsStable : Name → Version → List Call → List Call → Type 0
ReadsStable rustup v old new =
    (answer : Name) × ReadsOutput (version_command rustup) answer old new × TellsRelease (release_part answer) v

-- the toolchain is installed, and then its cargo answered with this version
pub record TellsStable (rustup : Name) (v : Version) (old new : List Call) : Type 0 where
  pub mid : List Call
  pub installed : InstallsStable rustup old mid
  pub read : ReadsStable rustup v mid new

-- the toolchain isn't installed: trying it failed, and then adding it
abbrev pub CannotInstallStable : Name → List Call → List Call → Type 0
CannotInstallStable rustup old new =
    MakesCalls (λ calls. Installs [] (asked_of true (trial_of rustup (codes "stable"))) (asked_of true (addition_of rustup (codes "stable") [])) calls Failed) old new

-- stable's cargo gave no answer, or one without a version
abbrev pub CannotReadStable : Name → List Call → List Call → Type 0
CannotReadStable rustup old new = AsksFor (λ text. IsMinorIn (option_and_then release_part text) None) (version_command rustup) old new

-- the toolchain couldn't be installed, or it was, and then its version couldn't be read
abbrev pub AsksStableInVain : Name → List Call → List Call → Type 0
AsksStableInVain rustup old new =
    CannotInstallStable rustup old new ⊎ ((mid : List Call) × InstallsStable rustup old mid × CannotReadStable rustup mid new)

-- stable's version was asked for, or nothing was; it is unknown only where it was asked for in vain
abbrev pub AsksStable : Name → Stable → List Call → List Call → Type 0
AsksStable rustup stable.Unasked old new = new ≡ old
AsksStable rustup (stable.Known v) old new = TellsStable rustup v old new
AsksStable rustup (stable.Unknown text) old new = AsksStableInVain rustup old new

-- installing the toolchain `stable` failed: it was tried, and added where that failed, up to the
-- command that failed or for which memory was refused
abbrev pub FailsStable : Name → List Call → List Call → Type 0
FailsStable rustup old new =
    MakesCalls (λ calls. Installs [] (asked_of true (trial_of rustup (codes "stable"))) (asked_of true (addition_of rustup (codes "stable") [])) calls Failed
    ⊎ BreaksInstall [] (asked_of true (trial_of rustup (codes "stable"))) (asked_of true (addition_of rustup (codes "stable") [])) calls) old new

-- stable's version was asked for at most once: the toolchain is installed, and its cargo was asked at
-- most once; or installing it failed, maybe before anything was called
abbrev pub MayAskStable : Name → List Call → List Call → Type 0
MayAskStable rustup old new =
    ((mid : List Call) × InstallsStable rustup old mid × MayAdd (asked_of true (version_command rustup)) mid new)
    ⊎ FailsStable rustup old new

-- ---- why a version is unknown

-- an answer has no version in this part, and the reason is the error of reading it, which shows the command so
abbrev pub IsAnswerReason : Name → Option Name → Name → Name → Type 0
IsAnswerReason answer part shown why = (e : VersionTextFault) × IsAnswerFault answer part e × (why ≡ answer_fault_text shown e)

-- Why a command that was called for its output told no version: the error of its call; or where it answered, that of
-- reading the part of its answer that should be one. The first shows the command in full, and the second in verbose mode
-- alone. No argument of it is a path, so that its text doesn't depend on a folder.
abbrev pub IsReason : (Name → Option Name) → Bool → Command → List Call → List Call → Name → Type 0
IsReason part verbose c old new why =
    ((e : ProcessFault) × (e ≢ process.Memory) × IsReadFault (Unit {0}) (asked_of true c) (text_of true [] c) old new e × (why ≡ fault_text e))
    ⊎ ((answer : Name) × ReadsOutput c answer old new × IsAnswerReason answer (part answer) (text_of verbose [] c) why)

-- where rustup was asked for its version, and it is unknown, this is why
abbrev pub TellsReason : Bool → Name → Rustup → List Call → List Call → Type 0
TellsReason verbose rustup known old new = IfSome (unknown_of known) (IsReason rustup_part verbose (rustup_command rustup) old new)

-- a command was called without a word, and failed with this error, but not for memory
abbrev pub FailsWith : Command → List Call → List Call → ProcessFault → Type 0
FailsWith c old new e = (e ≢ process.Memory) × IsFault (Unit {0}) (asked_of true c) (text_of true [] c) old new e

-- the toolchain `stable` isn't installed: trying it failed, and then adding it, whose error is the reason
abbrev pub IsInstallReason : Name → List Call → List Call → Name → Type 0
IsInstallReason rustup old new why =
    (mid : List Call) × (tried added : ProcessFault) × FailsWith (trial_of rustup (codes "stable")) old mid tried
    × FailsWith (addition_of rustup (codes "stable") []) mid new added × (why ≡ fault_text added)

-- where stable's version was asked for, and it is unknown, this is why
abbrev pub TellsStableReason : Bool → Name → Stable → List Call → List Call → Type 0
TellsStableReason verbose rustup (stable.Unknown text) old new =
    IsInstallReason rustup old new (string_bytes text)
    ⊎ ((mid : List Call) × InstallsStable rustup old mid × IsReason release_part verbose (version_command rustup) mid new (string_bytes text))
TellsStableReason verbose rustup known old new = Unit {0}
