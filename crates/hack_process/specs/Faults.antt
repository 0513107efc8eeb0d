-- What the error of a command says.
use Rattle.std.specs.Prelude.{◌≡◌, ◌≢◌, ◌⊎◌, ◌-◌, ◌==◌, ◌||◌, ℕ, Bool, List, [], ◌∷◌, ◌++◌, codes, length, take, string_bytes}
use Rattle.std.specs.Fmt.{signed_decimal}
use Rattle.std.specs.List.{suffix_len}
use Rattle.std.specs.Str.{IsUtf8, trim_start}
use Rattle.hack_process.specs.declared.caller.End.{End}
use Rattle.hack_process.specs.declared.caller.End.TheVariants.{Status, Signal, NeverStarted}
use Rattle.hack_process.specs.declared.fault.Failure.{Failure}
use Rattle.hack_process.specs.declared.fault.ProcessFault.{ProcessFault}
use Rattle.hack_process.specs.declared.fault.ProcessFault.TheVariants.{Memory, EmptyProgram, Failed, NeverExecuted, NotText}
use Rattle.hack_process.specs.Calls.{Asked, Answer, Call, AddsCall, MayAdd, IsSuccess, IsFailure}

-- these bytes are UTF-8, and more than white space
abbrev pub SaysMore : List ℕ → Type 0
SaysMore bytes = IsUtf8 bytes × (trim_start bytes ≢ [])

-- the text is these bytes where they are UTF-8 and more than white space, and else empty
abbrev pub IsCapturedText : List ℕ → List ℕ → Type 0
IsCapturedText bytes text = (SaysMore bytes × (text ≡ bytes)) ⊎ ((¬ SaysMore bytes) × (text ≡ []))

-- a failure reports this answer
pub record ReportsAnswer (failure : Failure) (answer : Answer) : Type 0 where
  pub ended : failure.end ≡ answer.end
  pub stdout : IsCapturedText answer.stdout (string_bytes failure.stdout)
  pub stderr : IsCapturedText answer.stderr (string_bytes failure.stderr)

-- an error shows no output
abbrev pub ShowsNothing : ProcessFault → Type 0
ShowsNothing (Failed failure) =
    (string_bytes failure.stdout ≡ []) × (string_bytes failure.stderr ≡ [])
ShowsNothing Memory = Unit {0}
ShowsNothing EmptyProgram = Unit {0}
ShowsNothing (NeverExecuted text) = Unit {0}
ShowsNothing (NotText text) = Unit {0}

-- just this call was made, and P holds of its answer
abbrev pub GotAnswer : (Answer → Type 0) → Asked → List Call → List Call → Type 0
GotAnswer P asked old new = (answer : Answer) × P answer × AddsCall asked answer old new

-- why a command failed, which is called as `asked` and shown as `shown`: its program has no name,
-- and it was not called; or just it was called, and could not be started, or ended by a signal or
-- with a status other than 0; or memory was refused, and just it was called or nothing was
abbrev pub IsFault : Type 0 → Asked → List ℕ → List Call → List Call → ProcessFault → Type 0
IsFault tells asked shown old new Memory = (asked.program ≢ []) × (tells → MayAdd asked old new)
IsFault tells asked shown old new EmptyProgram = (asked.program ≡ []) × (tells → new ≡ old)
IsFault tells asked shown old new (NeverExecuted text) =
    (asked.program ≢ []) × (string_bytes text ≡ shown)
    × (tells → GotAnswer (λ answer. answer.end ≡ NeverStarted) asked old new)
IsFault tells asked shown old new (Failed failure) =
    (asked.program ≢ []) × (string_bytes failure.command ≡ shown) × IsFailure failure.end
    × (tells → GotAnswer (ReportsAnswer failure) asked old new)
IsFault tells asked shown old new (NotText text) = ⊥

-- the same where the output is read: it may also be that it ended with status 0, but wrote no UTF-8
abbrev pub IsReadFault : Type 0 → Asked → List ℕ → List Call → List Call → ProcessFault → Type 0
IsReadFault tells asked shown old new (NotText text) =
    (asked.program ≢ []) × (string_bytes text ≡ shown)
    × (tells → GotAnswer (λ answer. IsSuccess answer.end × (¬ IsUtf8 answer.stdout)) asked old new)
IsReadFault tells asked shown old new e = IsFault tells asked shown old new e

-- a byte is a line feed or a carriage return
abbrev pub ends_line : ℕ → Bool
ends_line b = b == 10 || b == 13

-- a text without the line feeds and carriage returns at its end
abbrev pub without_line_ends : List ℕ → List ℕ
without_line_ends text = take (length text - suffix_len ends_line text) text

-- how a program ended, as a user reads it
abbrev pub end_text : End → List ℕ
end_text (Status code) = codes "exit status: " ++ signed_decimal code
end_text (Signal number) = codes "signal: " ++ signed_decimal number
end_text NeverStarted = codes "never executed"

-- what was captured, after a line with the stream's name; nothing where it is empty
abbrev pub output_text : List ℕ → List ℕ → List ℕ
output_text name [] = []
output_text name (b ∷ bs) = codes "\n--- " ++ (name ++ (codes "\n" ++ (b ∷ bs)))

-- the text of a failure: the command, how it ended, and what was captured
abbrev pub failure_text : Failure → List ℕ
failure_text f = codes "process didn't exit successfully: " ++ (string_bytes f.command
    ++ (codes " (" ++ (end_text f.end ++ (codes ")" ++ (output_text (codes "stdout")
    (string_bytes f.stdout) ++ output_text (codes "stderr") (string_bytes f.stderr))))))

-- the text of an error
abbrev pub fault_text : ProcessFault → List ℕ
fault_text Memory = codes "out of memory"
fault_text EmptyProgram = codes "empty program name"
fault_text (NeverExecuted command) =
    codes "could not execute process " ++ (string_bytes command ++ codes " (never executed)")
fault_text (Failed failure) = failure_text failure
fault_text (NotText command) = codes "failed to parse output from " ++ string_bytes command
