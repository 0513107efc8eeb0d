-- What a search knows after another passing set or conflict.
use Rattle.std.proofs.Common.{◌≡◌, ◌≢◌, ◌<◌, ◌≤◌, ℕ, ◌+◌, ◌*◌, List, [], ◌∷◌, ◌++◌, length, get_or, arith, rules, Bool, sym, ◌∙◌, ap, subst, inl, inr, All, Contains, Option}
use Rattle.std.specs.Prelude.{AllPairs}
use Rattle.std.proofs.lemmas.List.Quantifiers.{all_pairs_push}
use Rattle.std.proofs.lemmas.List.Elements.{All-push, All-weaker, All-contains, All-contains_itself, Contains-push, Contains-append_left}
use Rattle.hack_conflicts.specs.Sets.{IsWithin, HasInside, AreApart, rows_of}
use Rattle.hack_conflicts.specs.Rules.{IsPlain, IsChoice, size_of}
use Rattle.hack_conflicts.specs.Runs.{Run, HasFailed, HasPassed, IsPassed, IsLeast, AreBlamed, IsCourse}
use Rattle.hack_conflicts.specs.Internal.{IsSound, Grows, IsNext, IsGoing, IsFailing, IsWidest, IsSteady, members, worth, told, conflicts_of, passing_of}
use Rattle.hack_conflicts.specs.declared.rules.Rules.{Rules}
use Rattle.hack_conflicts.specs.declared.known.Known.{Known}
use Rattle.hack_conflicts.specs.declared.tried.BuildOutcome.TheVariants.{Passed, Failed, Broken}
use Rattle.hack_conflicts.proofs.KnownLemmas.{run_cases, run_there}
use Rattle.hack_conflicts.proofs.SetLemmas.{within_or}
use Rattle.hack_conflicts.proofs.RuleLemmas.{members_fewer}
use Rattle.hack_conflicts.proofs.ShrinkLemmas.{passed-not-failed}

-- a passing set that set lies inside no greater one
passing_clear : (r : Rules) (k : Known) (s : List Bool) → All (HasPassed (told k)) (passing_of k) → IsSteady r (members (size_of r) s) k → IsChoice r s → ¬ IsPassed (told k) s → ¬ HasInside (passing_of k) s
passing_clear r k s passed steady choice fresh (q, there, w) = elim (within_or s q) [
  | inl inside ↦ fresh (q, All-contains (HasPassed (told k)) (passing_of k) q passed there, inside)
  | inr (x, has, lacks) ↦
      let large : members (size_of r) s ≤ members (size_of r) q = All-contains (λ t. members (size_of r) s ≤ members (size_of r) t) (passing_of k) q steady.large there in
      let fewer : members (size_of r) q < members (size_of r) s = members_fewer (size_of r) q s w x (choice.closed.below x has) has lacks in
      absurd (omega arith)
]

-- a set that may be chosen, and isn't settled, is the next to be tried
pub next_from : (r : Rules) (most : Option ℕ) (k : Known) (s : List Bool) → IsSound r most k → IsSteady r (members (size_of r) s) k → IsChoice r s → ¬ IsPassed (told k) s → ¬ HasInside (conflicts_of k) s → IsNext r k s
next_from r most k s sound steady choice fresh none = record {
  choice = choice;
  fresh = fresh;
  clear = record {
    going = steady.going;
    failed = λ t there w. (let (u, known, v) = steady.blamed t there in none (u, known, λ p has. w p (v p has)));
    conflicts = none;
    passing = passing_clear r k s sound.passed steady choice fresh;
  };
  blamed = inl steady.blamed;
}

-- k knows what is known before a build with s was tried, which passed, and a after; m has s as one more passing set
module _ (r : Rules) (most : Option ℕ) (k a m : Known) (s : List Bool) (ran : told a ≡ told k ++ record { set = s; outcome = Passed } ∷ []) (same_conflicts : a.conflicts ≡ k.conflicts) (same_passing : a.passing ≡ k.passing)
    (next : IsNext r k s) (before : IsSound r most k) (sound : IsSound r most a) (same_runs : told m ≡ told a) (kept : conflicts_of m ≡ conflicts_of a) (more : passing_of m ≡ passing_of a ++ s ∷ []) where
  passing_k : passing_of a ≡ passing_of k
  passing_k = ap (λ v. rows_of v.items) same_passing

  widest_s : IsWidest (told a) s
  widest_s t passed w = elim (run_cases k a s Passed ran same_conflicts same_passing (record { set = t; outcome = Passed }) passed) [
    | inl old ↦ absurd (next.fresh (t, old, w))
    | inr e ↦ subst (λ u. IsWithin u s) (ap (λ (run : Run). run.set) e) (λ p has. has)
  ]

  apart_s : (i : ℕ) (d : List Bool) → i < length (passing_of a) → AreApart (get_or (passing_of a) i d) s
  apart_s i d lt =
      let q : List Bool = get_or (passing_of a) i d in
      let there : Contains (passing_of k) q = subst (λ l. Contains l q) passing_k (All-contains_itself (passing_of a) i d lt) in
      record {
        left = λ w. next.clear.passing (q, there, w);
        right = λ w. next.fresh (q, All-contains (HasPassed (told k)) (passing_of k) q before.passed there, w);
      }

  pub sound_passing : IsSound r most m
  sound_passing = record {
    course = subst (IsCourse r most) (sym same_runs) sound.course;
    failed = subst (λ l. All (HasFailed l) (conflicts_of m)) (sym same_runs) (subst (All (HasFailed (told a))) (sym kept) sound.failed);
    passed = subst (λ l. All (HasPassed l) (passing_of m)) (sym same_runs) (subst (All (HasPassed (told a))) (sym more) (All-push (HasPassed (told a)) (passing_of a) s sound.passed (run_there k a s Passed ran same_conflicts same_passing)));
    least = subst (λ l. All (IsLeast r l) (conflicts_of m)) (sym same_runs) (subst (All (IsLeast r (told a))) (sym kept) sound.least);
    widest = subst (λ l. All (IsWidest l) (passing_of m)) (sym same_runs) (subst (All (IsWidest (told a))) (sym more) (All-push (IsWidest (told a)) (passing_of a) s sound.widest widest_s));
    conflicts_apart = subst (AllPairs AreApart) (sym kept) sound.conflicts_apart;
    passing_apart = subst (AllPairs AreApart) (sym more) (all_pairs_push AreApart (passing_of a) s sound.passing_apart apart_s);
  }

  failed_k : (t : List Bool) → HasFailed (told m) t → HasFailed (told k) t
  failed_k t there = elim (run_cases k a s Passed ran same_conflicts same_passing (record { set = t; outcome = Failed }) (subst (λ l. HasFailed l t) same_runs there)) [
    | inl old ↦ old
    | inr e ↦ absurd (passed-not-failed (ap (λ (run : Run). run.outcome) e))
  ]

  pub steady_passing : IsSteady r (members (size_of r) s) k → IsGoing m → (IsPlain r → length m.runs.items ≤ worth (size_of r) m) → IsSteady r (members (size_of r) s) m
  steady_passing steady going paid = record {
    going = going;
    blamed = λ t there. subst (λ l. HasInside l t) (sym (kept ∙ ap (λ v. rows_of v.items) same_conflicts)) (steady.blamed t (failed_k t there));
    large = subst (All (λ t. members (size_of r) s ≤ members (size_of r) t)) (sym (more ∙ ap (λ l. l ++ s ∷ []) passing_k))
        (All-push (λ t. members (size_of r) s ≤ members (size_of r) t) (passing_of k) s steady.large (omega arith));
    paid = paid;
  }

  pub passed_m : IsPassed (told m) s
  passed_m = subst (λ l. IsPassed l s) (sym same_runs) (s, run_there k a s Passed ran same_conflicts same_passing, λ p has. has)

-- a set that failed and is least, after which m has it as one more conflict
module _ (r : Rules) (most : Option ℕ) (b m : Known) (d : List Bool) (failing : IsFailing r b d) (least : IsLeast r (told b) d) (sound : IsSound r most b)
    (same_runs : told m ≡ told b) (more : conflicts_of m ≡ conflicts_of b ++ d ∷ []) (kept : passing_of m ≡ passing_of b) where
  apart_d : (i : ℕ) (e : List Bool) → i < length (conflicts_of b) → AreApart (get_or (conflicts_of b) i e) d
  apart_d i e lt =
      let c : List Bool = get_or (conflicts_of b) i e in
      let there : Contains (conflicts_of b) c = All-contains_itself (conflicts_of b) i e lt in
      record {
        left = λ w. failing.conflicts (c, there, w);
        right = λ w. elim (within_or c d) [
          | inl inside ↦ failing.conflicts (c, there, inside)
          | inr (x, has, lacks) ↦ failing.fresh (All-contains (IsLeast r (told b)) (conflicts_of b) c sound.least there x has d failing.choice w lacks)
        ];
      }

  pub sound_conflict : IsSound r most m
  sound_conflict = record {
    course = subst (IsCourse r most) (sym same_runs) sound.course;
    failed = subst (λ l. All (HasFailed l) (conflicts_of m)) (sym same_runs) (subst (All (HasFailed (told b))) (sym more) (All-push (HasFailed (told b)) (conflicts_of b) d sound.failed failing.failed));
    passed = subst (λ l. All (HasPassed l) (passing_of m)) (sym same_runs) (subst (All (HasPassed (told b))) (sym kept) sound.passed);
    least = subst (λ l. All (IsLeast r l) (conflicts_of m)) (sym same_runs) (subst (All (IsLeast r (told b))) (sym more) (All-push (IsLeast r (told b)) (conflicts_of b) d sound.least least));
    widest = subst (λ l. All (IsWidest l) (passing_of m)) (sym same_runs) (subst (All (IsWidest (told b))) (sym kept) sound.widest);
    conflicts_apart = subst (AllPairs AreApart) (sym more) (all_pairs_push AreApart (conflicts_of b) d sound.conflicts_apart apart_d);
    passing_apart = subst (AllPairs AreApart) (sym kept) sound.passing_apart;
  }

  blamed_m : AreBlamed (told m) (conflicts_of m)
  blamed_m t there = subst (λ l. HasInside l t) (sym more) (elim (failing.blamed t (subst (λ l. HasFailed l t) same_runs there)) [
    | inl (u, known, w) ↦ (u, Contains-append_left (conflicts_of b) (d ∷ []) u known, w)
    | inr w ↦ (d, Contains-push (conflicts_of b) d, w)
  ])

  pub steady_conflict : (size : ℕ) → All (λ t. size ≤ members (size_of r) t) (passing_of b) → (IsPlain r → length m.runs.items ≤ worth (size_of r) m) → IsSteady r size m
  steady_conflict size large paid = record {
    going = subst (All (λ (run : Run). run.outcome ≢ Broken)) (sym same_runs) failing.going;
    blamed = blamed_m;
    large = subst (All (λ t. size ≤ members (size_of r) t)) (sym kept) large;
    paid = paid;
  }

  pub grows_conflict : Grows b m
  grows_conflict a h = record {
    conflicts = λ t there. subst (λ l. Contains l t) (sym more) (Contains-append_left (conflicts_of b) (d ∷ []) t (h.conflicts t there));
    runs = λ run there. subst (λ l. Contains l run) (sym same_runs) (h.runs run there);
  }

  pub conflict_there : Contains (conflicts_of m) d
  conflict_there = subst (λ l. Contains l d) (sym more) (Contains-push (conflicts_of b) d)

pub one_more : (x n : ℕ) → (x + 1) * (n + 1) ≡ x * (n + 1) + (n + 1)
one_more x n = search (arith, rules)

-- a passing set pays its run, and a conflict pays its own and those by which it was made smaller
pub paid_passing : (runs a n p x q y : ℕ) → runs ≤ a + 1 → a ≤ p + x * (n + 1) → q ≡ p + 1 → y ≡ x → runs ≤ q + y * (n + 1)
paid_passing runs a n p x q y few paid one same = rw same (omega arith)

pub paid_conflict : (runs b a n p x q y : ℕ) → runs ≤ b + n → b ≤ a + 1 → a ≤ p + x * (n + 1) → q ≡ p → y ≡ x + 1 → runs ≤ q + y * (n + 1)
paid_conflict runs b a n p x q y few first paid same one = rw (one, one_more x n) (omega arith)

pub steady_less : (r : Rules) (a b : ℕ) (k : Known) → b ≤ a → IsSteady r a k → IsSteady r b k
steady_less r a b k le h = record {
  going = h.going;
  blamed = h.blamed;
  large = All-weaker (λ t. a ≤ members (size_of r) t) (λ t. b ≤ members (size_of r) t) (λ t large. omega arith) (passing_of k) h.large;
  paid = h.paid;
}
