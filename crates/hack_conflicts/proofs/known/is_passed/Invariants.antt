use Rattle.std.proofs.Common.{◌≡◌, ℕ, ◌<◌, [], get_or}
use Rattle.hack_conflicts.specs.Sets.{IsWithin}
use Rattle.hack_conflicts.specs.Runs.{runs_in}
use Rattle.hack_conflicts.specs.declared.tried.BuildOutcome.TheVariants.{Passed, Broken}
use Rattle.hack_conflicts.proofs.known.is_passed.Given as goal

abbrev pub invariant-loop-place : goal.invariant-loop-place
invariant-loop-place l =
    (k : ℕ) → k < l.place → (get_or (runs_in l.runs) k (record { set = []; outcome = Broken })).outcome ≡ Passed
    → IsWithin l.set (get_or (runs_in l.runs) k (record { set = []; outcome = Broken })).set → ⊥
