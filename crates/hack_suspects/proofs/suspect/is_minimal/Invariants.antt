use Rattle.std.proofs.Common.{ℕ, ◌<◌, remove, false}
use Rattle.hack_suspects.specs.Suspects.{IsShown, outcomes_of}
use Rattle.hack_suspects.proofs.suspect.is_minimal.Given as goal

abbrev pub invariant-loop-place : goal.invariant-loop-place
invariant-loop-place l = (k : ℕ) → k < l.place → IsShown false (outcomes_of l.outcomes) (remove l.pattern k)
