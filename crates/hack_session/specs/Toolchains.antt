-- The commands of rustup on a toolchain.
use Rattle.std.specs.Prelude.{ℕ, ◌==◌, List, [], ◌∷◌, ◌++◌, codes, if◌then◌else◌}
use Rattle.std.specs.List.{join_by}
use Rattle.hack_process.specs.CommandTexts.{Command}
use Rattle.hack_process.specs.Commands.{plain_command}

-- a name without one leading `+`
abbrev pub toolchain_name : List ℕ → List ℕ
toolchain_name [] = []
toolchain_name (b ∷ bs) = if b == 43 then bs else b ∷ bs

-- the command that fails where a toolchain isn't installed
abbrev pub trial_of : List ℕ → List ℕ → Command
trial_of rustup toolchain = plain_command rustup [] (codes "run" ∷ toolchain ∷ codes "cargo" ∷ codes "--version" ∷ [])

-- targets in one argument after their option, where there are any
abbrev pub target_words : List (List ℕ) → List (List ℕ)
target_words [] = []
target_words (target ∷ targets) = codes "--target" ∷ join_by (λ text. text) (codes ",") (target ∷ targets) ∷ []

-- the command that adds a toolchain for targets
abbrev pub addition_of : List ℕ → List ℕ → List (List ℕ) → Command
addition_of rustup toolchain targets =
    plain_command rustup [] ((codes "toolchain" ∷ codes "add" ∷ toolchain ∷ codes "--no-self-update" ∷ []) ++ target_words targets)
