-- The trials of a search, with one more.
use Rattle.std.proofs.Common.{◌≡◌, ◌≢◌, ◌<◌, ◌≤◌, ◌+◌, ◌-◌, ◌*◌, ◌/◌, ◌^◌, ℕ, suc, List, [], ◌∷◌, ◌++◌, length, take, get_or, arith, sym, ◌∙◌, ap, subst, inl, inr, ◌⊎◌, refl, All}
use Rattle.std.specs.Prelude.{AllPairs}
use Rattle.std.proofs.Math.Nat.{mul-le-mul_left, pow-suc}
use Rattle.std.proofs.Math.Seq.{get_or-append_seam, take-append_seam}
use Rattle.std.proofs.lemmas.Bool.{cases_lt}
use Rattle.std.proofs.lemmas.List.{length-append, take-append-le, get_or_append_left}
use Rattle.std.proofs.lemmas.List.Quantifiers.{all_pairs_push}
use Rattle.std.proofs.lemmas.List.Elements.{All-nil, All-cons, All-push, All-weaker, Contains-push, Contains-append_left}
use Rattle.hack_bisect.specs.Searches.{Trial, HasFailed, HasPassed, IsBeside, AreLeft, IsMiddle, IsFirst, AreHalving, IsAnswer, IsSearch}
use Rattle.hack_bisect.specs.declared.tries.TrialOutcome.{TrialOutcome}
use Rattle.hack_bisect.specs.declared.tries.TrialOutcome.TheVariants.{Passed, Failed, Broken}
use Rattle.hack_bisect.specs.declared.find.Least.{Least}
use Rattle.hack_bisect.specs.declared.find.Least.TheVariants.{Broken as BrokenOff}

-- the trials so far, which leave the places from low to high
pub record IsGoing (greatest : ℕ) (trials : List Trial) (low high : ℕ) : Type 0 where
  pub first : IsFirst greatest trials
  pub halving : AreHalving trials
  pub once : AllPairs (λ (earlier later : Trial). earlier.place ≢ later.place) trials
  pub within : All (λ (t : Trial). t.place ≤ greatest) trials
  pub whole : AllPairs (λ (earlier later : Trial). earlier.outcome ≢ Broken) trials
  pub few : 2 ^ length trials ≤ 4 * greatest + 2
  pub halved : 2 ^ length trials * (high - low) ≤ 2 * greatest
  pub left : AreLeft trials low high
  pub ordered : low ≤ high
  pub top : high ≤ greatest

not_broken : (low high : ℕ) (t : Trial) → IsBeside low high t → t.outcome ≢ Broken
not_broken low high t (inl h) e = let f = h.0 in cc
not_broken low high t (inr h) e = let f = h.0 in cc

apart : (low high place : ℕ) (t : Trial) → low ≤ place → place < high → IsBeside low high t → t.place ≢ place
apart low high place t from to (inl h) e = let lt = h.1 in absurd (omega arith)
apart low high place t from to (inr h) e = let le = h.1 in absurd (omega arith)

beside_less : (low high place : ℕ) → place ≤ high → (t : Trial) → IsBeside low high t → IsBeside low place t
beside_less low high place le t (inl h) = inl h
beside_less low high place le t (inr h) = let from : high ≤ t.place = h.1 in inr (h.0, omega arith)

beside_more : (low high place : ℕ) → low ≤ place → (t : Trial) → IsBeside low high t → IsBeside place high t
beside_more low high place le t (inl h) = let to : t.place < low = h.1 in inl (h.0, omega arith)
beside_more low high place le t (inr h) = inr h

power_more : (n m : ℕ) → m ≡ n + 1 → 2 ^ m ≡ 2 * 2 ^ n
power_more n m e = let f : m ≡ suc n = omega arith in ap (λ k. 2 ^ k) f ∙ pow-suc 2 n ∙ omega arith

-- a bound is kept by a doubled power and a halved number
bound_halved : (p q m n bound : ℕ) → q ≡ 2 * p → 2 * n ≤ m → p * m ≤ bound → q * n ≤ bound
bound_halved p q m n bound e le h = let k : p * (2 * n) ≤ p * m = mul-le-mul_left p le in let f : q * n ≡ (2 * p) * n = ap (λ r. r * n) e in omega arith

bound_one : (p m bound : ℕ) → 0 < m → p * m ≤ bound → p ≤ bound
bound_one p m bound lt h = let k : p * 1 ≤ p * m = mul-le-mul_left p lt in omega arith

module _ (greatest : ℕ) (trials : List Trial) (low high : ℕ) (going : IsGoing greatest trials low high) (lt : low < high) (place : ℕ) (middle : place ≡ low + (high - low) / 2) (o : TrialOutcome) where
  abbrev last : Trial
  last = record { place = place; outcome = o }

  abbrev pub more : List Trial
  more = trials ++ record { place = place; outcome = o } ∷ []

  one_more : length more ≡ length trials + 1
  one_more = length-append trials (last ∷ [])

  first_more : IsFirst greatest more
  first_more = let (p, later, e) = going.first in (p, later ++ last ∷ [], ap (λ l. l ++ last ∷ []) e)

  is_middle : IsMiddle trials place
  is_middle = (low, high, going.left, lt, middle)

  halving_more : AreHalving more
  halving_more k d from to = elim (cases_lt k (length trials)) [
    | inl below ↦
        let same : take k more ≡ take k trials = take-append-le k trials (last ∷ []) (omega arith) in
        let at : get_or more k d ≡ get_or trials k d = get_or_append_left trials (last ∷ []) d k below in
        subst (λ l. IsMiddle l (get_or more k d).place) (sym same) (subst (λ (t : Trial). IsMiddle (take k trials) t.place) (sym at) (going.halving k d from below))
    | inr above ↦
        let k_is : length trials ≡ k = omega (arith, one_more) in
        subst (λ n. IsMiddle (take n more) (get_or more n d).place) k_is
        (subst (λ l. IsMiddle l (get_or more (length trials) d).place) (sym (take-append_seam trials (last ∷ [])))
        (subst (λ (t : Trial). IsMiddle trials t.place) (sym (get_or-append_seam trials last [] d)) is_middle))
  ]

  once_more : AllPairs (λ (earlier later : Trial). earlier.place ≢ later.place) more
  once_more = all_pairs_push (λ (earlier later : Trial). earlier.place ≢ later.place) trials last going.once
      (λ k d below. apart low high place (get_or trials k d) (omega arith) (omega arith) (going.left.beside k d below))

  within_more : All (λ (t : Trial). t.place ≤ greatest) more
  within_more = let top : high ≤ greatest = going.top in All-push (λ (t : Trial). t.place ≤ greatest) trials last going.within (omega arith)

  whole_more : AllPairs (λ (earlier later : Trial). earlier.outcome ≢ Broken) more
  whole_more = all_pairs_push (λ (earlier later : Trial). earlier.outcome ≢ Broken) trials last going.whole
      (λ k d below. not_broken low high (get_or trials k d) (going.left.beside k d below))

  power : 2 ^ length more ≡ 2 * 2 ^ length trials
  power = power_more (length trials) (length more) one_more

  few_more : 2 ^ length more ≤ 4 * greatest + 2
  few_more =
      let h : 2 ^ length trials ≤ 2 * greatest = bound_one (2 ^ length trials) (high - low) (2 * greatest) (omega arith) going.halved in
      omega (arith, power)

  halved_more : (n : ℕ) → 2 * n ≤ high - low → 2 ^ length more * n ≤ 2 * greatest
  halved_more n le = bound_halved (2 ^ length trials) (2 ^ length more) (high - low) n (2 * greatest) power le going.halved

  low_failed_more : (low ≡ 0) ⊎ HasFailed more (low - 1)
  low_failed_more = elim going.left.low_failed [
    | inl e ↦ inl e
    | inr h ↦ inr (Contains-append_left trials (last ∷ []) (record { place = low - 1; outcome = Failed }) h)
  ]

  high_passed_more : HasPassed more high
  high_passed_more = Contains-append_left trials (last ∷ []) (record { place = high; outcome = Passed }) going.left.high_passed

  going_more : (from to : ℕ) → AreLeft more from to → from ≤ to → to ≤ greatest → 2 * (to - from) ≤ high - low → IsGoing greatest more from to
  going_more from to left ordered top less = record {
    first = first_more;
    halving = halving_more;
    once = once_more;
    within = within_more;
    whole = whole_more;
    few = few_more;
    halved = halved_more (to - from) less;
    left = left;
    ordered = ordered;
    top = top;
  }

  pub passed_more : o ≡ Passed → IsGoing greatest more low place
  passed_more e =
      let top : high ≤ greatest = going.top in
      going_more low place
      record {
        beside = All-push (IsBeside low place) trials last (All-weaker (IsBeside low high) (IsBeside low place) (beside_less low high place (omega arith)) trials going.left.beside) (inr (e, omega arith));
        low_failed = low_failed_more;
        high_passed = subst (λ (p : TrialOutcome). HasPassed (trials ++ record { place = place; outcome = p } ∷ []) place) (sym e) (Contains-push trials (record { place = place; outcome = Passed }));
      }
      (omega arith)
      (omega arith)
      (omega arith)

  pub failed_more : o ≡ Failed → IsGoing greatest more (place + 1) high
  failed_more e =
      let top : high ≤ greatest = going.top in
      let same : place ≡ place + 1 - 1 = omega arith in
      going_more (place + 1) high
      record {
        beside = All-push (IsBeside (place + 1) high) trials last (All-weaker (IsBeside low high) (IsBeside (place + 1) high) (beside_more low high (place + 1) (omega arith)) trials going.left.beside) (inl (e, omega arith));
        low_failed = inr (subst (λ n. HasFailed more n) same (subst (λ (p : TrialOutcome). HasFailed (trials ++ record { place = place; outcome = p } ∷ []) place) (sym e) (Contains-push trials (record { place = place; outcome = Failed }))));
        high_passed = high_passed_more;
      }
      (omega arith)
      (omega arith)
      (omega arith)

  pub broken_more : o ≡ Broken → IsSearch greatest more BrokenOff
  broken_more e = record {
    first = first_more;
    halving = halving_more;
    once = once_more;
    within = within_more;
    whole = whole_more;
    few = few_more;
    answered = (trials, place, ap (λ (p : TrialOutcome). trials ++ record { place = place; outcome = p } ∷ []) e);
  }

-- the greatest place alone was tried

module _ (greatest : ℕ) (o : TrialOutcome) where
  abbrev alone : List Trial
  alone = record { place = greatest; outcome = o } ∷ []

  alone_first : IsFirst greatest alone
  alone_first = (o, [], refl)

  alone_halving : AreHalving alone
  alone_halving k d from to = absurd (omega arith)

  alone_pairs : (R : Trial → Trial → Type 0) → AllPairs R alone
  alone_pairs R i j d lt to = absurd (omega arith)

  alone_within : All (λ (t : Trial). t.place ≤ greatest) alone
  alone_within = All-cons (λ (t : Trial). t.place ≤ greatest) (record { place = greatest; outcome = o }) [] (omega arith) (All-nil (λ (t : Trial). t.place ≤ greatest))

  pub alone_search : (answer : Least) → IsAnswer greatest alone answer → IsSearch greatest alone answer
  alone_search answer h = record {
    first = alone_first;
    halving = alone_halving;
    once = alone_pairs (λ (earlier later : Trial). earlier.place ≢ later.place);
    within = alone_within;
    whole = alone_pairs (λ (earlier later : Trial). earlier.outcome ≢ Broken);
    few = omega arith;
    answered = h;
  }
