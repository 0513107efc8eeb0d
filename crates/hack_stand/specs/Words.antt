-- What the arguments of a call ask for.
use Rattle.std.specs.Prelude.{ℕ, Bool, false, List, [], ◌∷◌, Option, Some, None, codes, bytes_eq, if◌then◌else◌}
use Rattle.std.specs.List.{list_any, join_by}
use Rattle.std.specs.Str.Lines.{lines}
use Rattle.hack_stand.specs.declared.stand.Tool.{Tool}
use Rattle.hack_stand.specs.declared.stand.Tool.TheVariants.{Cargo, Rustup}

-- this is one of the arguments
abbrev pub has_word : List ℕ → List (List ℕ) → Bool
has_word word words = list_any (λ w. bytes_eq w word) words

-- this is the last argument
abbrev pub ends_with_word : List ℕ → List (List ℕ) → Bool
ends_with_word word [] = false
ends_with_word word (w ∷ []) = bytes_eq w word
ends_with_word word (w ∷ v ∷ words) = ends_with_word word (v ∷ words)

-- this is the only argument
abbrev pub is_lone_word : List ℕ → List (List ℕ) → Bool
is_lone_word word [] = false
is_lone_word word (w ∷ []) = bytes_eq w word
is_lone_word word (w ∷ v ∷ words) = false

-- the file with the answer to `-vV`
abbrev pub version_file : Tool → List ℕ
version_file Cargo = codes "version"
version_file Rustup = codes "stable"

-- the file that is printed for these arguments, if any
abbrev pub printed_by : Tool → List (List ℕ) → Option (List ℕ)
printed_by tool words =
    if ends_with_word (codes "-vV") words then Some (version_file tool)
    else (if is_lone_word (codes "--version") words then Some (codes "rustup")
    else (if has_word (codes "metadata") words then Some (codes "metadata.json")
    else (if has_word (codes "locate-project") words then Some (codes "locate.json") else None)))

-- arguments on one line
abbrev pub arguments_line : List (List ℕ) → List ℕ
arguments_line words = join_by (λ word. word) (codes " ") words

-- a text has this line
abbrev pub has_line : List ℕ → List ℕ → Bool
has_line line text = list_any (λ l. bytes_eq l line) (lines text)
