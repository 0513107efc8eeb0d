-- Lemmas on the counts of failed runs.
use Rattle.std.proofs.Common.{◌≡◌, ◌++◌, ℕ, ◌+◌, ◌<◌, List, [], ◌∷◌, length, get_or, take, refl, sym, subst, Bool, true, false, cond, arith, append_assoc}
use Rattle.std.specs.List.{fold}
use Rattle.std.proofs.lemmas.List.{append-nil}
use Rattle.hack_samples.proofs.SetLemmas.{not_both}
use Rattle.hack_suspects.specs.Suspects.{RunOutcome, outcomes_of}
use Rattle.hack_suspects.specs.Counts.{Fails, IsNumberOf, counted, left_out}
use Rattle.hack_suspects.specs.declared.suspect.RunOutcome.{RunOutcome as Run}
use Rattle.hack_suspects.proofs.SuspectLemmas.{runs-more}

-- a run as plain data
abbrev pub plain : Run → RunOutcome
plain run = record { on = run.on.items; failed = run.failed }

module _ (P : RunOutcome → Type 0) (runs : List Run) (i : ℕ) (run : Run) (lt : i < length runs) (is : run ≡ get_or runs i run) (n : ℕ) (count : IsNumberOf P (outcomes_of (take i runs)) n) where
  -- one more run, which is counted
  pub one-counted : (m : ℕ) → m ≡ n + 1 → P (plain run) → IsNumberOf P (outcomes_of (take (i + 1) runs)) m
  one-counted m e p = subst (λ l. IsNumberOf P l m) (sym (runs-more runs i run lt is)) (subst (IsNumberOf P (outcomes_of (take i runs) ++ plain run ∷ [])) (sym e) (counted (plain run) count p))

  -- one more run, which is not
  pub one-left : (m : ℕ) → m ≡ n → (P (plain run) → ⊥) → IsNumberOf P (outcomes_of (take (i + 1) runs)) m
  one-left m e not = subst (λ l. IsNumberOf P l m) (sym (runs-more runs i run lt is)) (subst (IsNumberOf P (outcomes_of (take i runs) ++ plain run ∷ [])) (sym e) (left_out (plain run) count not))

-- the number of the failed ones among some runs and more runs
pub failed-from : (front : List RunOutcome) (n : ℕ) → IsNumberOf Fails front n → (runs : List Run) → IsNumberOf Fails (front ++ outcomes_of runs) (fold (λ a run. a + cond run.failed 1 0) n runs)
failed-from front n h [] = subst (λ l. IsNumberOf Fails l n) (sym (append-nil front)) h
failed-from front n h (run ∷ runs) =
    subst (λ l. IsNumberOf Fails l (fold (λ a run. a + cond run.failed 1 0) n (run ∷ runs))) (append_assoc front (plain run ∷ []) (outcomes_of runs))
    (failed-from (front ++ plain run ∷ []) (n + cond run.failed 1 0) (one run.failed refl) runs)
  where
    one : (b : Bool) → run.failed ≡ b → IsNumberOf Fails (front ++ plain run ∷ []) (n + cond b 1 0)
    one true e = counted (plain run) h e
    one false e = subst (IsNumberOf Fails (front ++ plain run ∷ [])) (omega arith) (left_out (plain run) h (λ f. not_both f e))
