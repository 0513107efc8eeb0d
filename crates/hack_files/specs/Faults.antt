-- What the errors of calls of files say.
use Rattle.std.specs.Prelude.{◌≡◌, ◌⊎◌, ◌++◌, [], ◌∷◌, ℕ, Bool, true, false, List, Option, Some, None, Result, Ok, Err, codes, string_bytes}
use Rattle.std.specs.Str.{IsUtf8}
use Rattle.hack_base.specs.Counters.{GrowsBy}
use Rattle.hack_files.specs.declared.fs.FsFault.{FsFault}
use Rattle.hack_files.specs.declared.fs.FsFault.TheVariants.{Read, Write, NotText, Memory}

-- an error says that this path could not be read, or that memory was refused
abbrev pub IsOfRead : List ℕ → FsFault → Type 0
IsOfRead path (Read p) = string_bytes p ≡ path
IsOfRead path (Write p) = ⊥
IsOfRead path (NotText p) = ⊥
IsOfRead path Memory = Unit {0}

-- an error says that this path could not be written, or that memory was refused
abbrev pub IsOfWrite : List ℕ → FsFault → Type 0
IsOfWrite path (Read p) = ⊥
IsOfWrite path (Write p) = string_bytes p ≡ path
IsOfWrite path (NotText p) = ⊥
IsOfWrite path Memory = Unit {0}

-- where the files say what they hold, the path holds bytes that are not UTF-8
abbrev pub HoldsNoText : Type 0 → Option (List ℕ) → Type 0
HoldsNoText tells held = tells → (bytes : List ℕ) × (held ≡ Some bytes) × (¬ IsUtf8 bytes)

-- the path could not be read, which counts one failure; or it holds bytes that are not UTF-8, which
-- counts none; or memory was refused, which counts one or none
abbrev pub IsOfText : List ℕ → Type 0 → Option (List ℕ) → ℕ → ℕ → FsFault → Type 0
IsOfText path tells held old new (Read p) = (string_bytes p ≡ path) × GrowsBy 1 old new
IsOfText path tells held old new (Write p) = ⊥
IsOfText path tells held old new (NotText p) =
    (string_bytes p ≡ path) × GrowsBy 0 old new × HoldsNoText tells held
IsOfText path tells held old new Memory = GrowsBy 0 old new ⊎ GrowsBy 1 old new

-- the path is unseen where it could not be read, unless the files tell that nothing is there; where
-- memory was refused, it may be; no other path is
abbrev pub IsUnseenUnlessNoText : {T : Type 0} → (List (List ℕ) → Type 0) → Type 0 → Option (List ℕ) → List ℕ → Result T FsFault → Type 0
IsUnseenUnlessNoText Unseen tells held path (Ok _) = Unseen []
IsUnseenUnlessNoText Unseen tells held path (Err (Read p)) = Unseen (path ∷ []) ⊎ (Unseen [] × tells × (held ≡ None))
IsUnseenUnlessNoText Unseen tells held path (Err (Write p)) = ⊥
IsUnseenUnlessNoText Unseen tells held path (Err (NotText p)) = Unseen []
IsUnseenUnlessNoText Unseen tells held path (Err Memory) = Unseen (path ∷ []) ⊎ Unseen []

-- what the error says
abbrev pub file_text : FsFault → List ℕ
file_text (Read p) = codes "failed to read from file `" ++ (string_bytes p ++ codes "`")
file_text (Write p) = codes "failed to write to file `" ++ (string_bytes p ++ codes "`")
file_text (NotText p) = codes "file `" ++ (string_bytes p ++ codes "` is not UTF-8 text")
file_text Memory = codes "out of memory"

-- the device failed, so that the files may say why
abbrev pub of_device : FsFault → Bool
of_device (Read p) = true
of_device (Write p) = true
of_device (NotText p) = false
of_device Memory = false
