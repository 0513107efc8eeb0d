-- What a builder in memory answers.
use Rattle.std.specs.Prelude.{List, Bool, All, ◌⊎◌, ◌≡◌}
use Rattle.hack_conflicts.specs.Sets.{rows_of, HasInside}
use Rattle.hack_conflicts.specs.Runs.{Run}
use Rattle.hack_conflicts.specs.declared.scripted.Scripted.{Scripted}
use Rattle.hack_conflicts.specs.declared.tried.BuildOutcome.{BuildOutcome}
use Rattle.hack_conflicts.specs.declared.tried.BuildOutcome.TheVariants.{Passed, Failed, Broken}

-- one of the sets by which builds end so lies inside the set, and none by which they end otherwise
abbrev pub IsAnswer : Scripted → List Bool → BuildOutcome → Type 0
IsAnswer a set Broken = HasInside (rows_of a.broken.items) set
IsAnswer a set Passed = (¬ HasInside (rows_of a.broken.items) set) × (HasInside (rows_of a.passing.items) set ⊎ ¬ HasInside (rows_of a.failing.items) set)
IsAnswer a set Failed = (¬ HasInside (rows_of a.broken.items) set) × (¬ HasInside (rows_of a.passing.items) set) × HasInside (rows_of a.failing.items) set

-- the outcomes are the builder's, which stays as it is
pub record AreAnswers (runs : List Run) (old new : Scripted) : Type 0 where
  pub same : new ≡ old
  pub each : All (λ run. IsAnswer old run.set run.outcome) runs
