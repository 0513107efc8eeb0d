-- What only private functions of the crate promise each other.
use Rattle.std.specs.Prelude.{ℕ, List, Option, Some, None, length, drop, nat_eq, if◌then◌else◌, ◌++◌, codes, Bool, [], ◌∷◌, ◌&&◌, not}
use Rattle.std.specs.List.{starts_with}
use Rattle.hack_process.specs.CommandTexts.{is_manifest_path}

-- what follows a name at the beginning of a line
abbrev pub behind_prefix : List ℕ → List ℕ → Option (List ℕ)
behind_prefix name line = if starts_with nat_eq line name then Some (drop (length name) line) else None

-- features with one more name
abbrev pub with_name : Option (List ℕ) → List ℕ → List ℕ
with_name None name = name
with_name (Some list) name = list ++ codes "," ++ name

-- `--manifest-path`, where its value is still to come
abbrev pub pending_option : Bool → List (List ℕ)
pending_option awaits = if awaits then codes "--manifest-path" ∷ [] else []

-- an argument is `--manifest-path` itself, and not the value of one before it
abbrev pub awaits_path : Bool → List ℕ → Bool
awaits_path is_path word = not is_path && is_manifest_path word
