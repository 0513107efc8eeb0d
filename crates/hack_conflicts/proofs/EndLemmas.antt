-- The start and the end of a search.
use Rattle.std.proofs.Common.{◌≡◌, ◌≢◌, ◌≤◌, ℕ, List, [], length, arith, Bool, true, false, cond, sym, ◌∙◌, ap, subst, inl, inr, ◌↔◌, All, Contains, Option, None, Some, IfSome, refl}
use Rattle.std.specs.Prelude.{AllPairs}
use Rattle.std.proofs.lemmas.Bool.{false≢true, cases_Bool}
use Rattle.std.proofs.lemmas.List.Elements.{All-nil, All-contains}
use Rattle.hack_conflicts.specs.Sets.{HasInside, IsInside, AreApart, rows_of}
use Rattle.hack_conflicts.specs.Rules.{IsChoice}
use Rattle.hack_conflicts.specs.Runs.{Run, runs_in, HasFailed, HasPassed, IsNew, IsLeast, IsDecided, Answers, IsMonotone}
use Rattle.hack_conflicts.specs.Internal.{IsSound, IsSettled, IsWidest, told, conflicts_of, passing_of}
use Rattle.hack_conflicts.specs.declared.rules.Rules.{Rules}
use Rattle.hack_conflicts.specs.declared.known.Known.{Known}
use Rattle.hack_conflicts.specs.declared.tried.BuildOutcome.{BuildOutcome}
use Rattle.hack_conflicts.specs.declared.tried.BuildOutcome.TheVariants.{Passed, Failed}
use Rattle.hack_conflicts.proofs.ShrinkLemmas.{passed-not-failed}

none_within : (most : Option ℕ) → (n : ℕ) → n ≡ 0 → IfSome most (λ m. n ≤ m)
none_within None n e = tt
none_within (Some m) n e = omega arith

no_pairs : {X : Type 0} (R : X → X → Type 0) (xs : List X) → xs ≡ [] → AllPairs R xs
no_pairs R xs e = subst (AllPairs R) (sym e) (λ i j d lt le. absurd (omega arith))

pub sound_none : (r : Rules) (most : Option ℕ) (k : Known) → k.runs.items ≡ [] → k.conflicts.items ≡ [] → k.passing.items ≡ [] → IsSound r most k
sound_none r most k e f g =
    let runs : told k ≡ [] = ap runs_in e in
    let conflicts : conflicts_of k ≡ [] = ap rows_of f in
    let passing : passing_of k ≡ [] = ap rows_of g in
    record {
      course = record {
        chosen = subst (All (λ (run : Run). IsChoice r run.set)) (sym runs) (All-nil (λ (run : Run). IsChoice r run.set));
        fresh = no_pairs IsNew (told k) runs;
        within = none_within most (length (told k)) (ap length runs);
      };
      failed = subst (All (HasFailed (told k))) (sym conflicts) (All-nil (HasFailed (told k)));
      passed = subst (All (HasPassed (told k))) (sym passing) (All-nil (HasPassed (told k)));
      least = subst (All (IsLeast r (told k))) (sym conflicts) (All-nil (IsLeast r (told k)));
      widest = subst (All (IsWidest (told k))) (sym passing) (All-nil (IsWidest (told k)));
      conflicts_apart = no_pairs AreApart (conflicts_of k) conflicts;
      passing_apart = no_pairs AreApart (passing_of k) passing;
    }

-- what is settled by what is known is decided by what is found
pub decided_by : (k : Known) (passing : List (List Bool)) → ((s : List Bool) → HasPassed (told k) s → IsInside passing s) → (s : List Bool) → IsSettled k s → IsDecided (conflicts_of k) passing s
decided_by k passing covers s settled = elim settled [
  | inl h ↦ inl h
  | inr (t, passed, w) ↦ (let (u, there, v) = covers t passed in inr (u, there, λ p has. v p (w p has)))
]

-- and what isn't isn't
pub undecided_by : (k : Known) (passing : List (List Bool)) → All (HasPassed (told k)) passing → (s : List Bool) → ¬ IsSettled k s → ¬ IsDecided (conflicts_of k) passing s
undecided_by k passing passed s open' decided = elim decided [
  | inl h ↦ open' (inl h)
  | inr (t, there, w) ↦ open' (inr (t, All-contains (HasPassed (told k)) passing t passed there, w))
]

passes : (b : Bool) → Passed ≡ cond b Passed Failed → b ≡ true
passes true e = refl
passes false e = absurd (passed-not-failed e)

fails : (b : Bool) → Failed ≡ cond b Passed Failed → b ≡ false
fails true e = absurd (passed-not-failed (sym e))
fails false e = refl

module _ (r : Rules) (builds : List Bool → Bool) (monotone : IsMonotone r builds) (runs : List Run) (answers : Answers builds runs) (chosen : All (λ (run : Run). IsChoice r run.set) runs) where
  choice_of : (s : List Bool) (o : BuildOutcome) → Contains runs (record { set = s; outcome = o }) → IsChoice r s
  choice_of s o there = All-contains (λ (run : Run). IsChoice r run.set) runs (record { set = s; outcome = o }) chosen there

  answer : (s : List Bool) (o : BuildOutcome) → Contains runs (record { set = s; outcome = o }) → o ≡ cond (builds s) Passed Failed
  answer s o there = All-contains (λ (run : Run). run.outcome ≡ cond (builds run.set) Passed Failed) runs (record { set = s; outcome = o }) answers there

  fails_there : (conflicts passing : List (List Bool)) → All (HasPassed runs) passing → (s : List Bool) → IsChoice r s → IsDecided conflicts passing s → builds s ≡ false → HasInside conflicts s
  fails_there conflicts passing passed s choice decided e = elim decided [
    | inl h ↦ h
    | inr (t, there, w) ↦
        let run : HasPassed runs t = All-contains (HasPassed runs) passing t passed there in
        absurd (false≢true (sym e ∙ monotone s t choice (choice_of t Passed run) w (passes (builds t) (answer t Passed run))))
  ]

  fails_with : (conflicts : List (List Bool)) → All (HasFailed runs) conflicts → (s : List Bool) → IsChoice r s → HasInside conflicts s → builds s ≡ false
  fails_with conflicts failed s choice (d, there, w) =
      let run : HasFailed runs d = All-contains (HasFailed runs) conflicts d failed there in
      elim (cases_Bool (builds s)) [
        | inl e ↦ absurd (false≢true (sym (fails (builds d) (answer d Failed run)) ∙ monotone d s (choice_of d Failed run) choice w e))
        | inr e ↦ e
      ]

  pub law : (conflicts passing : List (List Bool)) → All (HasFailed runs) conflicts → All (HasPassed runs) passing → (s : List Bool) → IsChoice r s → IsDecided conflicts passing s → (builds s ≡ false) ↔ HasInside conflicts s
  law conflicts passing failed passed s choice decided = (fails_there conflicts passing passed s choice decided, fails_with conflicts failed s choice)
