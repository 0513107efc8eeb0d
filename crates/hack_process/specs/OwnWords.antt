-- A builder's own arguments, one by one.
use Rattle.std.specs.Prelude.{ℕ, Bool, true, false, List, [], if◌then◌else◌}
use Rattle.hack_process.specs.CommandTexts.{spaced_word, each_spaced, is_manifest_path, shown_path}

-- what is shown for an own argument, which is the value of `--manifest-path` or not
abbrev pub shown_own : Bool → Bool → List ℕ → List ℕ → List ℕ
shown_own true full dir word = each_spaced (shown_path full dir word)
shown_own false full dir word = if is_manifest_path word then [] else spaced_word word
