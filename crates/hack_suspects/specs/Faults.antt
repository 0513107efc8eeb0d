-- Faults as patterns: a run fails if it shows one of them, and only then.
use Rattle.std.specs.Prelude.{◌≡◌, ◌≤◌, ◌↔◌, ℕ, List, Bool, true, Contains, length}
use Rattle.hack_suspects.specs.Suspects.{RunOutcome, Rises, IsPart, IsSuspect}
use Rattle.hack_samples.specs.Samples.{RowShows}
use Rattle.hack_samples.specs.declared.sets.Setting.{Setting}

-- the row shows one of the faults
pub record ShowsOneOf (faults : List (List Setting)) (row : List Bool) : Type 0 where
  pub fault : List Setting
  pub among : Contains faults fault
  pub shows : RowShows row fault

-- exactly those of the runs failed that show one of the faults
abbrev pub FailBy : List (List Setting) → List RunOutcome → Type 0
FailBy faults outcomes = (run : RunOutcome) → Contains outcomes run → (run.failed ≡ true) ↔ ShowsOneOf faults run.on

-- the pattern has a suspect: it is one, or one is a part of it
pub record HasSuspect (outcomes : List RunOutcome) (n t : ℕ) (pattern : List Setting) : Type 0 where
  pub part : List Setting
  pub inside : IsPart part pattern
  pub suspect : IsSuspect outcomes n t part

-- each fault of at most t of the candidates below n that a run shows has a suspect
abbrev pub FaultsAreFound : List RunOutcome → ℕ → ℕ → List (List Setting) → Type 0
FaultsAreFound outcomes n t faults =
    (fault : List Setting) → Contains faults fault → Rises 0 n fault → length fault ≤ t → (run : RunOutcome) → Contains outcomes run → RowShows run.on fault → HasSuspect outcomes n t fault
