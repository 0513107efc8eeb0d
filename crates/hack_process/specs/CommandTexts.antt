-- Commands, and how they are shown.
use Rattle.std.specs.Prelude.{ℕ, Bool, true, ◌&&◌, not, Option, Some, None, List, [], ◌∷◌, ◌++◌, codes, bytes_eq, if◌then◌else◌}
use Rattle.std.specs.List.{flat_map, join_with_byte}
use Rattle.std.specs.Option.{option_map_or}
use Rattle.hack_base.specs.PathTexts.{stem_of, under_of}

-- a command: its program, its arguments by who gave them, and the names of features joined by `,`
pub record Command : Type 0 where
  pub program : List ℕ
  pub strip_program_path : Bool
  pub leading : List (List ℕ)
  pub passed : List (List ℕ)
  pub own : List (List ℕ)
  pub features : Option (List ℕ)
  pub trailing : List (List ℕ)

-- features with more names, all joined by `,`
abbrev pub with_names : Option (List ℕ) → List (List ℕ) → Option (List ℕ)
with_names list [] = list
with_names None (name ∷ names) = Some (join_with_byte 44 (name ∷ names))
with_names (Some list) (name ∷ names) = Some (join_with_byte 44 (list ∷ name ∷ names))

-- the features as arguments: none, or `--features` and its value
abbrev pub feature_words : Option (List ℕ) → List (List ℕ)
feature_words list = option_map_or (λ names. codes "--features" ∷ names ∷ []) list []

-- `--` and the trailing arguments, where there are any
abbrev pub marked_words : List (List ℕ) → List (List ℕ)
marked_words [] = []
marked_words (word ∷ words) = codes "--" ∷ word ∷ words

-- the arguments of a command's program, in order
abbrev pub words_behind : Command → List (List ℕ)
words_behind c = c.leading ++ c.passed ++ c.own ++ feature_words c.features ++ marked_words c.trailing

-- a word after a space
abbrev pub spaced_word : List ℕ → List ℕ
spaced_word word = codes " " ++ word

-- several words, each after a space
abbrev pub each_spaced : List (List ℕ) → List ℕ
each_spaced words = flat_map spaced_word words

-- a word is `--manifest-path`
abbrev pub is_manifest_path : List ℕ → Bool
is_manifest_path word = bytes_eq word (codes "--manifest-path")

-- in a full text `--manifest-path` and its value relative to a folder, and else nothing
abbrev pub shown_path : Bool → List ℕ → List ℕ → List (List ℕ)
shown_path full dir path = if full then codes "--manifest-path" ∷ under_of path dir ∷ [] else []

-- the own arguments that a text shows: all, but `--manifest-path` with a value as `shown_path` says
abbrev pub shown_words : Bool → List ℕ → List (List ℕ) → List (List ℕ)
shown_words full dir [] = []
shown_words full dir (word ∷ []) = word ∷ []
shown_words full dir (word ∷ value ∷ words) = if is_manifest_path word then shown_path full dir value ++ shown_words full dir words else word ∷ shown_words full dir (value ∷ words)

-- `--features` and the features, where there are any
abbrev pub shown_features : Option (List ℕ) → List ℕ
shown_features list = option_map_or (λ names. codes " --features " ++ names) list []

-- `--` and the trailing arguments, where there are any
abbrev pub shown_trailing : List (List ℕ) → List ℕ
shown_trailing words = each_spaced (marked_words words)

-- the program as a text shows it: whole in a full text, unless the path is stripped; else its stem
abbrev pub shown_program : Bool → Command → List ℕ
shown_program full c = if full && not c.strip_program_path then c.program else stem_of c.program

-- a command's line, with the program shown as given
abbrev pub words_of : List ℕ → Bool → List ℕ → Command → List ℕ
words_of program full dir c = program ++ each_spaced c.leading ++ each_spaced c.passed ++ each_spaced (shown_words full dir c.own) ++ shown_features c.features ++ shown_trailing c.trailing

-- the text of a command; a full one is long or verbose
abbrev pub text_of : Bool → List ℕ → Command → List ℕ
text_of full dir c = codes "`" ++ words_of (shown_program full c) full dir c ++ codes "`"

-- a command in a list of commands: its full line with the program's stem
abbrev pub listed_of : List ℕ → Command → List ℕ
listed_of dir c = words_of (stem_of c.program) true dir c
