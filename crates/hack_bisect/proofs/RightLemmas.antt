-- The answer of a search is right for each monotone test of which its outcomes are.
use Rattle.std.proofs.Common.{◌≡◌, ◌≤◌, ◌-◌, ℕ, List, [], arith, Bool, true, false, cond, IsTrue, sym, ◌∙◌, subst, inl, inr, refl, Contains}
use Rattle.std.proofs.lemmas.Bool.{false≢true, cases_Bool}
use Rattle.std.proofs.lemmas.List.Elements.{All-contains, Contains-push}
use Rattle.hack_bisect.specs.Searches.{Trial, HasFailed, HasPassed, IsSearch, IsMonotone, Answers, IsRight}
use Rattle.hack_bisect.specs.declared.tries.TrialOutcome.TheVariants.{Passed, Failed, Broken}
use Rattle.hack_bisect.specs.declared.find.Least.{Least}
use Rattle.hack_bisect.specs.declared.find.Least.TheVariants.{At, Nowhere, Broken as BrokenOff}

true_of_passed : (b : Bool) → Passed ≡ cond b Passed Failed → IsTrue b
true_of_passed true e = refl
true_of_passed false e = cc

false_of_failed : (b : Bool) → Failed ≡ cond b Passed Failed → b ≡ false
false_of_failed true e = cc
false_of_failed false e = refl

not_of_broken : (b : Bool) → Broken ≡ cond b Passed Failed → ⊥
not_of_broken true e = cc
not_of_broken false e = cc

module _ (passes : ℕ → Bool) (trials : List Trial) (answers : Answers passes trials) where
  of_trial : (t : Trial) → Contains trials t → t.outcome ≡ cond (passes t.place) Passed Failed
  of_trial t there = All-contains (λ (t : Trial). t.outcome ≡ cond (passes t.place) Passed Failed) trials t answers there

  passes_there : (p : ℕ) → HasPassed trials p → IsTrue (passes p)
  passes_there p h = true_of_passed (passes p) (of_trial (record { place = p; outcome = Passed }) h)

  fails_there : (p : ℕ) → HasFailed trials p → passes p ≡ false
  fails_there p h = false_of_failed (passes p) (of_trial (record { place = p; outcome = Failed }) h)

  -- below a place that fails each one fails
  fails_below : (greatest : ℕ) → IsMonotone greatest passes → (p q : ℕ) → p ≤ q → q ≤ greatest → passes q ≡ false → passes p ≡ false
  fails_below greatest monotone p q le within fails = elim (cases_Bool (passes p)) [
    | inl e ↦ absurd (false≢true (sym fails ∙ monotone p q le within e))
    | inr e ↦ e
  ]

pub right_of_search : (greatest : ℕ) (trials : List Trial) (answer : Least) → IsSearch greatest trials answer → IsRight greatest trials answer
right_of_search greatest trials (At place) h = λ passes monotone answers.
    let within : place ≤ greatest = All-contains (λ (t : Trial). t.place ≤ greatest) trials (record { place = place; outcome = Passed }) h.within h.answered.high_passed in (
      within,
      passes_there passes trials answers place h.answered.high_passed,
      λ p lt. elim h.answered.low_failed [
        | inl e ↦ absurd (omega arith)
        | inr failed ↦ fails_below passes trials answers greatest monotone p (place - 1) (omega arith) (omega arith) (fails_there passes trials answers (place - 1) failed)
      ],
    )
right_of_search greatest trials Nowhere h = λ passes monotone answers p le.
    let t : Trial = record { place = greatest; outcome = Failed } in
    let there : HasFailed trials greatest = subst (λ l. Contains l t) (sym h.answered) (Contains-push [] t) in
    fails_below passes trials answers greatest monotone p greatest le (omega arith) (fails_there passes trials answers greatest there)
right_of_search greatest trials BrokenOff h = λ passes monotone answers.
    let (before, place, e) = h.answered in
    let t : Trial = record { place = place; outcome = Broken } in
    not_of_broken (passes place) (of_trial passes trials answers t (subst (λ l. Contains l t) (sym e) (Contains-push before t)))
