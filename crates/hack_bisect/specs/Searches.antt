-- Trials of places, and the search among them by halving.
use Rattle.std.specs.Prelude.{◌≡◌, ◌≢◌, ◌<◌, ◌≤◌, ◌+◌, ◌-◌, ◌*◌, ◌/◌, ◌^◌, ℕ, List, [], ◌∷◌, ◌++◌, length, take, slice_index_or, Bool, false, cond, IsTrue, All, AllPairs, Contains, ◌⊎◌}
use Rattle.hack_bisect.specs.declared.tries.TrialOutcome.{TrialOutcome}
use Rattle.hack_bisect.specs.declared.tries.TrialOutcome.TheVariants.{Passed, Failed, Broken}
use Rattle.hack_bisect.specs.declared.find.Least.{Least}
use Rattle.hack_bisect.specs.declared.find.Least.TheVariants.{At, Nowhere, Broken as BrokenOff}

-- a trial of a place, and how it ended
pub record Trial : Type 0 where
  pub place : ℕ
  pub outcome : TrialOutcome

-- the place was tried, and failed
abbrev pub HasFailed : List Trial → ℕ → Type 0
HasFailed trials place = Contains trials (record { place = place; outcome = Failed })

-- the place was tried, and passed
abbrev pub HasPassed : List Trial → ℕ → Type 0
HasPassed trials place = Contains trials (record { place = place; outcome = Passed })

-- the trial failed below low, or passed at high or above
abbrev pub IsBeside : ℕ → ℕ → Trial → Type 0
IsBeside low high t = ((t.outcome ≡ Failed) × (t.place < low)) ⊎ ((t.outcome ≡ Passed) × (high ≤ t.place))

-- the trials leave the places from low to high: each of them failed below low, or passed at high or
-- above; low is 0 or just above one that failed; and high passed
pub record AreLeft (trials : List Trial) (low high : ℕ) : Type 0 where
  pub beside : All (IsBeside low high) trials
  pub low_failed : (low ≡ 0) ⊎ HasFailed trials (low - 1)
  pub high_passed : HasPassed trials high

-- the place is in the middle of those that the trials leave, which are more than one
abbrev pub IsMiddle : List Trial → ℕ → Type 0
IsMiddle trials place = (low : ℕ) × (high : ℕ) × AreLeft trials low high × (low < high) × (place ≡ low + (high - low) / 2)

-- the first trial is of the greatest place
abbrev pub IsFirst : ℕ → List Trial → Type 0
IsFirst greatest trials = (o : TrialOutcome) × (later : List Trial) × (trials ≡ record { place = greatest; outcome = o } ∷ later)

-- each trial but the first is in the middle of the places that the trials before it leave
abbrev pub AreHalving : List Trial → Type 0
AreHalving trials = (k : ℕ) (d : Trial) → 0 < k → k < length trials → IsMiddle (take k trials) (slice_index_or trials k d).place

-- what the trials say: that this place is the only one that they leave; or that the greatest failed,
-- which was tried alone; or nothing, since the last of them was broken
abbrev pub IsAnswer : ℕ → List Trial → Least → Type 0
IsAnswer greatest trials (At place) = AreLeft trials place place
IsAnswer greatest trials Nowhere = trials ≡ record { place = greatest; outcome = Failed } ∷ []
IsAnswer greatest trials BrokenOff = (before : List Trial) × (place : ℕ) × (trials ≡ before ++ record { place = place; outcome = Broken } ∷ [])

-- the trials of a search, and what it answers: the greatest place is tried first, and then always the
-- middle of those that are left; no place is tried twice, and none above the greatest; no trial but
-- the last is broken; and they are few, since each but the first halves the places that are left
pub record IsSearch (greatest : ℕ) (trials : List Trial) (answer : Least) : Type 0 where
  pub first : IsFirst greatest trials
  pub halving : AreHalving trials
  pub once : AllPairs (λ earlier later. earlier.place ≢ later.place) trials
  pub within : All (λ t. t.place ≤ greatest) trials
  pub whole : AllPairs (λ earlier later. earlier.outcome ≢ Broken) trials
  pub few : 2 ^ length trials ≤ 4 * greatest + 2
  pub answered : IsAnswer greatest trials answer

-- the outcomes are those of the test
abbrev pub Answers : (ℕ → Bool) → List Trial → Type 0
Answers passes trials = All (λ t. t.outcome ≡ cond (passes t.place) Passed Failed) trials

-- what passes at a place passes at each greater one, up to the greatest
abbrev pub IsMonotone : ℕ → (ℕ → Bool) → Type 0
IsMonotone greatest passes = (p q : ℕ) → p ≤ q → q ≤ greatest → IsTrue (passes p) → IsTrue (passes q)

-- of the places up to the greatest, this one passes and each lesser one fails; or each of them fails;
-- and a search that was broken off is right for no test
abbrev pub IsLeast : ℕ → (ℕ → Bool) → Least → Type 0
IsLeast greatest passes (At place) = (place ≤ greatest) × IsTrue (passes place) × ((p : ℕ) → p < place → passes p ≡ false)
IsLeast greatest passes Nowhere = (p : ℕ) → p ≤ greatest → passes p ≡ false
IsLeast greatest passes BrokenOff = ⊥

-- the answer is right for each monotone test of which the outcomes are
abbrev pub IsRight : ℕ → List Trial → Least → Type 0
IsRight greatest trials answer = (passes : ℕ → Bool) → IsMonotone greatest passes → Answers passes trials → IsLeast greatest passes answer
