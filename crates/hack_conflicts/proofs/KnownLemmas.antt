-- What a search knows after another run.
use Rattle.std.proofs.Common.{◌≡◌, ◌<◌, ◌≤◌, ℕ, ◌+◌, List, [], ◌∷◌, ◌++◌, length, get_or, set, ◌-◌, arith, Bool, sym, ◌∙◌, ap, subst, inl, inr, ◌⊎◌, All, Contains, Option, Some, None, IfSome}
use Rattle.std.specs.Prelude.{AllPairs}
use Rattle.std.proofs.lemmas.List.{length-map, length-append, map-set}
use Rattle.std.proofs.Math.ListN.{get_or-map}
use Rattle.std.proofs.Math.Seq.{get_or-append_seam, set-append_seam}
use Rattle.std.proofs.lemmas.List.Quantifiers.{all_pairs_push}
use Rattle.std.proofs.lemmas.List.Elements.{All-push, All-weaker, All-contains, All-contains_itself, Contains-push, Contains-push_cases, Contains-append_left}
use Rattle.hack_conflicts.specs.Sets.{IsWithin, AreApart, rows_of}
use Rattle.hack_conflicts.specs.Rules.{IsChoice}
use Rattle.hack_conflicts.specs.Runs.{Run, runs_in, HasFailed, HasPassed, IsPassed, IsNew, IsCourse, Needs, IsLeast, IsSpent}
use Rattle.hack_conflicts.specs.Internal.{IsSound, Grows, IsNext, IsWidest, told, conflicts_of, passing_of}
use Rattle.hack_conflicts.specs.declared.rules.Rules.{Rules}
use Rattle.hack_conflicts.specs.declared.known.Known.{Known}
use Rattle.hack_conflicts.specs.declared.tried.Tried.{Tried}
use Rattle.hack_conflicts.specs.declared.tried.BuildOutcome.{BuildOutcome}
use Rattle.hack_conflicts.specs.declared.tried.BuildOutcome.TheVariants.{Passed, Failed, Broken}

pub each_of : {X : Type 0} (P : X → Type 0) (xs : List X) → ((x : X) → Contains xs x → P x) → All P xs
each_of P xs h = All-weaker (Contains xs) P h xs (All-contains_itself xs)

pub length-runs : (xs : List Tried) → length (runs_in xs) ≡ length xs
length-runs xs = length-map xs (λ (one : Tried). record { set = one.set.items; outcome = one.outcome })

-- a run that ended so is one with its set and this outcome
pub ended_so : (runs : List Run) (run : Run) (o : BuildOutcome) → Contains runs run → run.outcome ≡ o → Contains runs (record { set = run.set; outcome = o })
ended_so runs run o h e = subst (λ p. Contains runs (record { set = run.set; outcome = p })) e h

pub passed_later : (a b : List Run) → ((run : Run) → Contains a run → Contains b run) → (s : List Bool) → IsPassed a s → IsPassed b s
passed_later a b h s (t, there, w) = (t, h (record { set = t; outcome = Passed }) there, w)

pub passed_less : (runs : List Run) (s t : List Bool) → IsWithin s t → IsPassed runs t → IsPassed runs s
passed_less runs s t w (u, there, v) = (u, there, λ p has. v p (w p has))

pub needs_later : (r : Rules) (a b : List Run) → ((run : Run) → Contains a run → Contains b run) → (set less : List Bool) → IsWithin less set → (x : ℕ) → Needs r a set x → Needs r b less x
needs_later r a b h set less w x needs = λ s choice within lacks. passed_later a b h s (needs s choice (λ p has. w p (within p has)) lacks)

pub least_later : (r : Rules) (a b : List Run) → ((run : Run) → Contains a run → Contains b run) → (set : List Bool) → IsLeast r a set → IsLeast r b set
least_later r a b h set least = λ x member. needs_later r a b h set set (λ p has. has) x (least x member)

-- nothing was recorded

pub sound_as : (k m : Known) → told m ≡ told k → conflicts_of m ≡ conflicts_of k → passing_of m ≡ passing_of k → (r : Rules) (most : Option ℕ) → IsSound r most k → IsSound r most m
sound_as k m same conflicts passing r most h = record {
  course = subst (IsCourse r most) (sym same) h.course;
  failed = subst (λ l. All (HasFailed l) (conflicts_of m)) (sym same) (subst (All (HasFailed (told k))) (sym conflicts) h.failed);
  passed = subst (λ l. All (HasPassed l) (passing_of m)) (sym same) (subst (All (HasPassed (told k))) (sym passing) h.passed);
  least = subst (λ l. All (IsLeast r l) (conflicts_of m)) (sym same) (subst (All (IsLeast r (told k))) (sym conflicts) h.least);
  widest = subst (λ l. All (IsWidest l) (passing_of m)) (sym same) (subst (All (IsWidest (told k))) (sym passing) h.widest);
  conflicts_apart = subst (AllPairs AreApart) (sym conflicts) h.conflicts_apart;
  passing_apart = subst (AllPairs AreApart) (sym passing) h.passing_apart;
}

pub grows_as : (k m : Known) → told m ≡ told k → conflicts_of m ≡ conflicts_of k → Grows k m
grows_as k m same conflicts a h = record {
  conflicts = λ s there. subst (λ l. Contains l s) (sym conflicts) (h.conflicts s there);
  runs = λ run there. subst (λ l. Contains l run) (sym same) (h.runs run there);
}

module _ (k m : Known) (same : told m ≡ told k) (same_conflicts : m.conflicts ≡ k.conflicts) (same_passing : m.passing ≡ k.passing) where
  pub sound_same : (r : Rules) (most : Option ℕ) → IsSound r most k → IsSound r most m
  sound_same r most = sound_as k m same (ap (λ v. rows_of v.items) same_conflicts) (ap (λ v. rows_of v.items) same_passing) r most

  pub grows_same : Grows k m
  grows_same = grows_as k m same (ap (λ v. rows_of v.items) same_conflicts)

-- one more run was recorded

module _ (k m : Known) (s : List Bool) (o : BuildOutcome) (ran : told m ≡ told k ++ record { set = s; outcome = o } ∷ []) (same_conflicts : m.conflicts ≡ k.conflicts) (same_passing : m.passing ≡ k.passing) where
  pub runs_kept : (run : Run) → Contains (told k) run → Contains (told m) run
  runs_kept run h = subst (λ l. Contains l run) (sym ran) (Contains-append_left (told k) (record { set = s; outcome = o } ∷ []) run h)

  pub run_there : Contains (told m) (record { set = s; outcome = o })
  run_there = subst (λ l. Contains l (record { set = s; outcome = o })) (sym ran) (Contains-push (told k) (record { set = s; outcome = o }))

  pub run_cases : (run : Run) → Contains (told m) run → Contains (told k) run ⊎ (record { set = s; outcome = o } ≡ run)
  run_cases run h = Contains-push_cases (told k) (record { set = s; outcome = o }) run (subst (λ l. Contains l run) ran h)

  pub grows_ran : Grows k m
  grows_ran a h = record {
    conflicts = λ c there. subst (λ v. Contains (rows_of v.items) c) (sym same_conflicts) (h.conflicts c there);
    runs = λ run there. runs_kept run (h.runs run there);
  }

  all_new : (r : Rules) → IsNext r k s → (i : ℕ) (d : Run) → i < length (told k) → IsNew (get_or (told k) i d) (record { set = s; outcome = o })
  all_new r next i d lt =
      let run : Run = get_or (told k) i d in
      let there : Contains (told k) run = All-contains_itself (told k) i d lt in
      record {
        whole = next.clear.going i d lt;
        passed = λ e w. next.fresh (run.set, ended_so (told k) run Passed there e, w);
        failed = λ e w. next.clear.failed run.set (ended_so (told k) run Failed there e) w;
      }

  course_ran : (r : Rules) (most : Option ℕ) → IsNext r k s → IfSome most (λ n. length (told m) ≤ n) → IsCourse r most (told k) → IsCourse r most (told m)
  course_ran r most next within course = record {
    chosen = subst (All (λ (run : Run). IsChoice r run.set)) (sym ran) (All-push (λ (run : Run). IsChoice r run.set) (told k) (record { set = s; outcome = o }) course.chosen next.choice);
    fresh = subst (AllPairs IsNew) (sym ran) (all_pairs_push IsNew (told k) (record { set = s; outcome = o }) course.fresh (all_new r next));
    within = within;
  }

  widest_ran : (r : Rules) → IsNext r k s → (q : List Bool) → Contains (passing_of k) q → IsWidest (told k) q → IsWidest (told m) q
  widest_ran r next q there widest t passed w = elim (run_cases (record { set = t; outcome = Passed }) passed) [
    | inl old ↦ widest t old w
    | inr e ↦ absurd (next.clear.passing (q, there, subst (IsWithin q) (sym (ap (λ (run : Run). run.set) e)) w))
  ]

  pub sound_ran : (r : Rules) (most : Option ℕ) → IsSound r most k → IsNext r k s → IfSome most (λ n. length (told m) ≤ n) → IsSound r most m
  sound_ran r most h next within =
      let conflicts : conflicts_of m ≡ conflicts_of k = ap (λ v. rows_of v.items) same_conflicts in
      let passing : passing_of m ≡ passing_of k = ap (λ v. rows_of v.items) same_passing in
      record {
        course = course_ran r most next within h.course;
        failed = subst (All (HasFailed (told m))) (sym conflicts)
            (All-weaker (HasFailed (told k)) (HasFailed (told m)) (λ c there. runs_kept (record { set = c; outcome = Failed }) there) (conflicts_of k) h.failed);
        passed = subst (All (HasPassed (told m))) (sym passing)
            (All-weaker (HasPassed (told k)) (HasPassed (told m)) (λ c there. runs_kept (record { set = c; outcome = Passed }) there) (passing_of k) h.passed);
        least = subst (All (IsLeast r (told m))) (sym conflicts)
            (All-weaker (IsLeast r (told k)) (IsLeast r (told m)) (least_later r (told k) (told m) runs_kept) (conflicts_of k) h.least);
        widest = subst (All (IsWidest (told m))) (sym passing)
            (each_of (IsWidest (told m)) (passing_of k) (λ q there. widest_ran r next q there (All-contains (IsWidest (told k)) (passing_of k) q h.widest there)));
        conflicts_apart = subst (AllPairs AreApart) (sym conflicts) h.conflicts_apart;
        passing_apart = subst (AllPairs AreApart) (sym passing) h.passing_apart;
      }

-- one more run fits, where not all were tried
pub still_within : (most : Option ℕ) (n m : ℕ) → ¬ IsSpent most n → m ≡ n + 1 → IfSome most (λ l. m ≤ l)
still_within None n m unless e = tt
still_within (Some l) n m unless e = let more : ¬ (l ≤ n) = unless in omega arith

-- the last run is recorded to have ended so
pub finish_last : (xs : List Tried) (front : List Run) (s : List Bool) (o : BuildOutcome) (t : Tried) → runs_in xs ≡ front ++ record { set = s; outcome = Broken } ∷ [] → 0 < length xs
    → (n : ℕ) → n ≡ length xs - 1 → ((d : Tried) → t ≡ get_or xs n d)
    → runs_in (set xs n (record { set = t.set; outcome = o })) ≡ front ++ record { set = s; outcome = o } ∷ []
finish_last xs front s o t h lt n last at =
    let f : Tried → Run = λ one. record { set = one.set.items; outcome = one.outcome } in
    let size : length xs ≡ length front + 1 = sym (length-runs xs) ∙ ap length h ∙ length-append front (record { set = s; outcome = Broken } ∷ []) in
    let place : n ≡ length front = omega arith in
    let broken : Run = record { set = s; outcome = Broken } in
    let there : f t ≡ broken = ap f (at t) ∙ sym (get_or-map f xs n t) ∙ ap (λ l. get_or l n (f t)) h ∙ ap (λ i. get_or (front ++ broken ∷ []) i (f t)) place ∙ get_or-append_seam front broken [] (f t) in
    map-set f xs n (record { set = t.set; outcome = o })
    ∙ ap (λ l. set l n (record { set = t.set.items; outcome = o })) h
    ∙ ap (λ i. set (front ++ broken ∷ []) i (record { set = t.set.items; outcome = o })) place
    ∙ set-append_seam front broken [] (record { set = t.set.items; outcome = o })
    ∙ ap (λ (run : Run). front ++ record { set = run.set; outcome = o } ∷ []) there
