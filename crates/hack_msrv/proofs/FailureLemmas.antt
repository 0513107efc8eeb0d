-- Which run failed last in a search by halving.
use Rattle.std.proofs.Common.{◌≡◌, ◌≢◌, ◌+◌, ◌-◌, ◌/◌, ◌<◌, ◌≤◌, ℕ, zero, suc, List, [], ◌∷◌, All, Option, Some, length, get_or, take, refl, sym, ap, subst, ◌∙◌, inl, inr, arith}
use Rattle.std.specs.Prelude.{AllPairs, slice_get}
use Rattle.std.specs.List.{AllZip}
use Rattle.std.proofs.lemmas.List.{get_or-take, length-take-le}
use Rattle.std.proofs.lemmas.List.Elements.{All-tail}
use Rattle.hack_base.proofs.Members.{Contains-cons_cases, Contains-head, Contains-nil, Contains-tail}
use Rattle.hack_bisect.specs.Searches.{AreHalving, HasFailed, IsBeside, Trial as Tried}
use Rattle.hack_bisect.specs.declared.tries.TrialOutcome.TheVariants as outcome
use Rattle.hack_msrv.specs.Internal.{failed_after, kept}
use Rattle.hack_msrv.specs.Searches.{HasFailedAt, IsTrialAt, outcome_of}
use Rattle.hack_msrv.specs.Trials.{Trial}
use Rattle.hack_msrv.specs.declared.trial.Came.{Came}
use Rattle.hack_msrv.specs.declared.trial.Came.TheVariants as came

-- a place that failed is below each that is tried behind it
abbrev pub Climbs : Tried → Tried → Type 0
Climbs earlier later = earlier.outcome ≡ outcome.Failed → earlier.place < later.place

-- no place above one failed
abbrev pub IsTop : ℕ → Tried → Type 0
IsTop k t = t.outcome ≡ outcome.Failed → t.place ≤ k

-- a version's run failed last, and it is that of the place
abbrev pub IsLast : List ℕ → List Trial → ℕ → Option ℕ → Type 0
IsLast uses trials k failed = (version place : ℕ) × (slice_get uses k ≡ Some version) × HasFailedAt trials version place × (failed ≡ Some place)

pairs-head : {X : Type 0} (R : X → X → Type 0) (x : X) (xs : List X) → AllPairs R (x ∷ xs) → All (R x) xs
pairs-head R x xs h = λ k d lt. h zero (suc k) d (omega arith) (omega arith)

pairs-tail : {X : Type 0} (R : X → X → Type 0) (x : X) (xs : List X) → AllPairs R (x ∷ xs) → AllPairs R xs
pairs-tail R x xs h = λ i j d lt within. h (suc i) (suc j) d (omega arith) (omega arith)

kept-same : (failed : Option ℕ) (c : Came) → outcome_of c ≢ outcome.Failed → kept c failed ≡ failed
kept-same failed came.Passed ne = refl
kept-same failed (came.Failed place) ne = absurd (ne refl)
kept-same failed came.Broken ne = refl

came-failed : (c : Came) → outcome_of c ≡ outcome.Failed → (place : ℕ) × (c ≡ came.Failed place)
came-failed came.Passed is = absurd (cc is)
came-failed (came.Failed place) is = (place, refl)
came-failed came.Broken is = absurd (cc is)

-- nothing failed, so what failed last is as before
pub none-failed : (uses : List ℕ) (tried : List Tried) (trials : List Trial) (failed : Option ℕ) → AllZip (IsTrialAt uses) tried trials → All (λ t. t.outcome ≢ outcome.Failed) tried
    → failed_after failed trials ≡ failed
none-failed uses [] [] failed same none = refl
none-failed uses [] (t ∷ trials) failed same none = absurd same
none-failed uses (u ∷ tried) [] failed same none = absurd same
none-failed uses (u ∷ tried) (t ∷ trials) failed same none =
    none-failed uses tried trials (kept t.came failed) same.1 (All-tail (λ (t : Tried). t.outcome ≢ outcome.Failed) u tried none)
    ∙ kept-same failed t.came (λ is. none 0 u (omega arith) (same.0.outcome ∙ is))

-- behind a place that failed, above which none failed, none did
none-behind : (k : ℕ) (u : Tried) (tried : List Tried) → u ≡ record { place = k; outcome = outcome.Failed } → All (Climbs u) tried → All (IsTop k) tried → All (λ (t : Tried). t.outcome ≢ outcome.Failed) tried
none-behind k u tried e climbs top = λ i d lt is.
    let above : u.place < (get_or tried i d).place = climbs i d lt (ap (λ (t : Tried). t.outcome) e) in
    let below : (get_or tried i d).place ≤ k = top i d lt is in
    let here : u.place ≡ k = ap (λ (t : Tried). t.place) e in
    omega arith

-- the greatest place that failed is the one that failed last
pub last-failed : (uses : List ℕ) (tried : List Tried) (trials : List Trial) (failed : Option ℕ) (k : ℕ) → AllZip (IsTrialAt uses) tried trials → All (IsTop k) tried → AllPairs Climbs tried
    → HasFailed tried k → IsLast uses trials k (failed_after failed trials)
last-failed uses [] trials failed k same top climbs has = absurd (Contains-nil (record { place = k; outcome = outcome.Failed }) has)
last-failed uses (u ∷ tried) [] failed k same top climbs has = absurd same
last-failed uses (u ∷ tried) (t ∷ trials) failed k same top climbs has =
    elim (Contains-cons_cases u tried (record { place = k; outcome = outcome.Failed }) has) [
      | inl e ↦
          let f = came-failed t.came (sym same.0.outcome ∙ ap (λ (t : Tried). t.outcome) e) in
          let none = none-behind k u tried e (pairs-head Climbs u tried climbs) (All-tail (IsTop k) u tried top) in (
            t.version,
            f.0,
            subst (λ (j : ℕ). slice_get uses j ≡ Some t.version) (ap (λ (t : Tried). t.place) e) same.0.version,
            (t, Contains-head t trials, refl, f.1),
            none-failed uses tried trials (kept t.came failed) same.1 none ∙ ap (λ (c : Came). kept c failed) f.1,
          )
      | inr w ↦
          let l = last-failed uses tried trials (kept t.came failed) k same.1 (All-tail (IsTop k) u tried top) (pairs-tail Climbs u tried climbs) w in
          (l.0, l.1, l.2, (l.3.0, Contains-tail t trials l.3.0 l.3.1, l.3.2, l.3.3), l.4)
    ]

-- in a search by halving each place that failed is below those tried behind it
pub climbs-of : (tried : List Tried) → AreHalving tried → AllPairs Climbs tried
climbs-of tried halving = λ i j d lt within is.
    let m = halving j d (omega arith) within in
    let same : get_or (take j tried) i d ≡ get_or tried i d = get_or-take j tried i d lt in
    let long : i < length (take j tried) = subst (λ n. i < n) (sym (length-take-le j tried (omega arith))) lt in
    elim (subst (IsBeside m.0 m.1) same (m.2.beside i d long)) [
      | inl failed ↦ let place : (get_or tried j d).place ≡ m.0 + (m.1 - m.0) / 2 = m.4 in omega (arith, failed.1)
      | inr passed ↦ absurd (cc (passed.0, is))
    ]
