-- What only private functions of the crate promise each other.
use Rattle.std.specs.Prelude.{◌≡◌, ◌⊎◌, ℕ, true, false, List, [], Some, None, Result, Ok, Err, string_bytes}
use Rattle.serde_json.specs.Data.{Members}
use Rattle.hack_base.specs.Names.{Name}
use Rattle.hack_process.specs.Calls.{Call}
use Rattle.hack_process.specs.CommandTexts.{Command}
use Rattle.hack_process.specs.declared.fault.ProcessFault.{ProcessFault}
use Rattle.hack_metadata.specs.Fields.{object_in_text}
use Rattle.hack_base.specs.FieldReadings.{FieldReading}
use Rattle.hack_metadata.specs.MetadataReading.{read_metadata}
use Rattle.hack_metadata.specs.Requests.{Question, first_command}
use Rattle.hack_process.specs.Commands.{plain_command}
use Rattle.hack_metadata.specs.MetadataView.{metadata_view}
use Rattle.hack_metadata.specs.declared.metadata.Metadata.{Metadata}
use Rattle.hack_metadata.specs.declared.ask.fault.AskFault.{AskFault}
use Rattle.hack_metadata.specs.declared.ask.fault.AskFault.TheVariants as fault
use Rattle.hack_metadata.specs.QuestionCalls.{ReadsOutput, StopsQuestion, TellsAs, first, newer, taken, to_cargo}

-- an answer is used: the result is the metadata in it, or the error says why it can't be read
abbrev pub UsesAnswer : Question → Command → Name → ℕ → List Call → Result Metadata AskFault → Type 0
UsesAnswer q c text minor now (Ok m) = TellsAs (read_metadata minor) text (metadata_view m)
UsesAnswer q c text minor now (Err e) = StopsQuestion q (taken c text minor) now now e

-- the full request was made to cargo, and its answer is used; or an error ended the question
abbrev pub AsksCargo : Question → List Call → List Call → Result Metadata AskFault → Type 0
AsksCargo q old new r = ((e : AskFault) × (r ≡ Err e) × StopsQuestion q to_cargo old new e)
    ⊎ ((words : List Name) × (text : Name) × (q.full ≡ Some words) × ReadsOutput (plain_command q.cargo [] words) text old new × UsesAnswer q (plain_command q.cargo [] words) text q.cargo_version new r)

-- cargo's first answer, this text, is used; or the full request, where dependencies are wanted
abbrev pub FallsBack : Question → Name → List Call → List Call → Result Metadata AskFault → Type 0
FallsBack q text old new r = ((q.deps ≡ false) × (new ≡ old) × UsesAnswer q (first_command q) text q.cargo_version new r) ⊎ ((q.deps ≡ true) × AsksCargo q old new r)

-- the question ended at the first request to cargo, or at its answer
abbrev pub FailsFirst : Question → ℕ → List Call → List Call → AskFault → Type 0
FailsFirst q minor old new e = StopsQuestion q (newer minor) old new e ⊎ ((text : Name) × ReadsOutput (first_command q) text old new × StopsQuestion q (first minor text) new new e)

-- why f can't be read from a text
abbrev pub IsTextFault : {A : Type 0} → (Members → FieldReading A) → Name → Name → AskFault → Type 0
IsTextFault f text shown fault.Memory = Unit {0}
IsTextFault f text shown (fault.Output told) = (object_in_text text ≡ None) × (string_bytes told ≡ shown)
IsTextFault f text shown (fault.Field name) = (ms : Members) × (object_in_text text ≡ Some ms) × (f ms ≡ Err name.now)
IsTextFault f text shown _ = ⊥

-- why a text can't be read as an object
abbrev pub IsObjectFault : Name → Name → AskFault → Type 0
IsObjectFault text shown fault.Memory = Unit {0}
IsObjectFault text shown (fault.Output told) = (object_in_text text ≡ None) × (string_bytes told ≡ shown)
IsObjectFault text shown _ = ⊥

-- memory was refused and M holds, or a command failed by an error of which P holds
abbrev pub FailsAs : Type 0 → (ProcessFault → Type 0) → AskFault → Type 0
FailsAs M P fault.Memory = M
FailsAs M P (fault.Process p) = P p
FailsAs M P _ = ⊥
