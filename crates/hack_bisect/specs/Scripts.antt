-- What a tester in memory answers.
use Rattle.std.specs.Prelude.{◌≡◌, ◌≢◌, ◌<◌, ◌≤◌, ℕ, List, All, Some}
use Rattle.hack_bisect.specs.Searches.{Trial}
use Rattle.hack_bisect.specs.declared.scripted.Scripted.{Scripted}
use Rattle.hack_bisect.specs.declared.tries.TrialOutcome.{TrialOutcome}
use Rattle.hack_bisect.specs.declared.tries.TrialOutcome.TheVariants.{Passed, Failed, Broken}

-- how a trial of the place ends
abbrev pub IsAnswer : Scripted → ℕ → TrialOutcome → Type 0
IsAnswer a place Broken = a.broken ≡ Some place
IsAnswer a place Passed = (a.broken ≢ Some place) × (a.least ≤ place)
IsAnswer a place Failed = (a.broken ≢ Some place) × (place < a.least)

-- the outcomes are the tester's, which stays as it is
pub record AreAnswers (trials : List Trial) (old new : Scripted) : Type 0 where
  pub same : new ≡ old
  pub each : All (λ t. IsAnswer old t.place t.outcome) trials
