-- What a program that replaces cargo or rustup in tests does with the files of a folder.
use Rattle.std.specs.Prelude.{◌≡◌, ◌++◌, ℕ, List, [], Option, Some, MatchOption, codes, string_bytes, unwrap_or, if◌then◌else◌}
use Rattle.std.specs.Str.{IsUtf8}
use Rattle.hack_files.specs.Files.{Contents, KeepsAll, KeepsOthers}
use Rattle.hack_base.specs.Counters.{GrowsBy}
use Rattle.hack_files.specs.declared.fs.FsFault.{FsFault}
use Rattle.hack_files.specs.declared.fs.FsFault.TheVariants.{Read, Write, NotText, Memory}
use Rattle.hack_stand.specs.declared.stand.Tool.{Tool}
use Rattle.hack_stand.specs.Words.{has_line, arguments_line, printed_by}

-- a file of a folder
abbrev pub file_in : List ℕ → List ℕ → List ℕ
file_in dir name = dir ++ (codes "/" ++ name)

-- the contents at a path, empty where there is no file
abbrev pub held_or_none : Option (List ℕ) → List ℕ
held_or_none held = unwrap_or held []

-- the status of a call that is recorded: 101 where the folder's list of failing calls has its line
abbrev pub noted_status : List ℕ → List ℕ → Contents → ℕ
noted_status dir line old =
    if has_line line (held_or_none (old (file_in dir (codes "fail")))) then 101 else 0

-- a call's line is appended to the record, all other files are unchanged, and nothing is printed
pub record Notes (dir line : List ℕ) (old new : Contents) (output : List ℕ) (status : ℕ)
    : Type 0 where
  pub noted : new (file_in dir (codes "calls"))
      ≡ Some (held_or_none (old (file_in dir (codes "calls"))) ++ (line ++ codes "\n"))
  pub others : KeepsOthers (file_in dir (codes "calls")) old new
  pub silent : output ≡ []
  pub ended : status ≡ noted_status dir line old

-- a file is printed, and all files are unchanged
pub record PrintsFile (dir name : List ℕ) (old new : Contents) (output : List ℕ) (status : ℕ)
    : Type 0 where
  pub printed : old (file_in dir name) ≡ Some output
  pub kept : KeepsAll old new
  pub ended : status ≡ 0

-- what a stand-in does with its arguments in a folder: it prints a file, or records the call
abbrev pub Stands : Tool → List ℕ → List (List ℕ) → Contents → Contents → List ℕ → ℕ → Type 0
Stands tool dir words old new output status = MatchOption (printed_by tool words)
    (Notes dir (arguments_line words) old new output status)
    (λ name. PrintsFile dir name old new output status)

-- the path is a file of this folder
abbrev pub IsIn : List ℕ → List ℕ → Type 0
IsIn dir path = (name : List ℕ) × (path ≡ file_in dir name)

-- a file of the folder can't be read or written, which was counted, or memory ran out
abbrev pub IsDeviceFault : List ℕ → ℕ → ℕ → FsFault → Type 0
IsDeviceFault dir before now (Read path) = IsIn dir (string_bytes path) × GrowsBy 1 before now
IsDeviceFault dir before now (Write path) = IsIn dir (string_bytes path) × GrowsBy 1 before now
IsDeviceFault dir before now (NotText path) = ⊥
IsDeviceFault dir before now Memory = Unit {0}

-- why a stand-in can't answer: the same, or the list of failing calls is not UTF-8
abbrev pub IsStandFault : List ℕ → Type 0 → Contents → ℕ → ℕ → FsFault → Type 0
IsStandFault dir tells old before now (NotText path) =
    (string_bytes path ≡ file_in dir (codes "fail")) × GrowsBy 0 before now
    × (tells → ¬ IsUtf8 (held_or_none (old (file_in dir (codes "fail")))))
IsStandFault dir tells old before now (Read path) = IsDeviceFault dir before now (Read path)
IsStandFault dir tells old before now (Write path) = IsDeviceFault dir before now (Write path)
IsStandFault dir tells old before now Memory = IsDeviceFault dir before now Memory
