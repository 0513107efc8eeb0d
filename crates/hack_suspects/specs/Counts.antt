-- How many runs failed, and how many of these show one of some patterns.
use Rattle.std.specs.Prelude.{◌≡◌, ◌≤◌, ◌+◌, ◌++◌, ◌↔◌, ℕ, List, [], ◌∷◌, Bool, true, false, Contains, length}
use Rattle.hack_suspects.specs.Suspects.{RunOutcome, IsShown, Rises}
use Rattle.hack_suspects.specs.Faults.{ShowsOneOf}
use Rattle.hack_samples.specs.Samples.{RowShows}
use Rattle.hack_samples.specs.declared.sets.Setting.{Setting}

-- n is how many of the runs have P
pub data IsNumberOf (P : RunOutcome → Type 0) : List RunOutcome → ℕ → Type 0 where
  no_runs : IsNumberOf P [] 0
  counted : {runs : List RunOutcome} {n : ℕ} (run : RunOutcome) → IsNumberOf P runs n → P run → IsNumberOf P (runs ++ run ∷ []) (n + 1)
  left_out : {runs : List RunOutcome} {n : ℕ} (run : RunOutcome) → IsNumberOf P runs n → (P run → ⊥) → IsNumberOf P (runs ++ run ∷ []) n

-- the run failed
abbrev pub Fails : RunOutcome → Type 0
Fails run = run.failed ≡ true

-- the run failed, and shows one of the patterns
abbrev pub FailsWith : List (List Setting) → RunOutcome → Type 0
FailsWith patterns run = (run.failed ≡ true) × ShowsOneOf patterns run.on

-- the row shows a pattern of at most t of the candidates below n that no passed run shows
pub record HasOwnPattern (outcomes : List RunOutcome) (n t : ℕ) (row : List Bool) : Type 0 where
  pub pattern : List Setting
  pub rises : Rises 0 n pattern
  pub small : length pattern ≤ t
  pub shows : RowShows row pattern
  pub passed : IsShown false outcomes pattern → ⊥

-- just those failed runs show one of the patterns that have such a pattern
abbrev pub TellTheFailed : List RunOutcome → ℕ → ℕ → List (List Setting) → Type 0
TellTheFailed outcomes n t found = (run : RunOutcome) → Contains outcomes run → run.failed ≡ true → ShowsOneOf found run.on ↔ HasOwnPattern outcomes n t run.on
