-- A set that fails, after a part of it was tried.
use Rattle.std.proofs.Common.{◌≡◌, ◌≢◌, ◌<◌, ℕ, List, [], ◌∷◌, ◌++◌, arith, Bool, sym, ◌∙◌, ap, subst, inl, inr, ◌⊎◌, refl, All, Option, Some, None, IfSome, IfNone}
use Rattle.std.proofs.lemmas.Bool.{false≢true, cases_Bool}
use Rattle.std.proofs.lemmas.List.Elements.{All-push, All-weaker, All-contains}
use Rattle.hack_conflicts.specs.Sets.{Has, mark, IsWithin, HasInside, rows_of}
use Rattle.hack_conflicts.specs.Rules.{IsPreorder, IsClosed, IsExclusive, IsRequired, IsChoice, IsPlain, HasOneOf, EnablesOneOf, Meets, size_of}
use Rattle.hack_conflicts.specs.Runs.{Run, HasFailed, HasPassed, IsPassed}
use Rattle.hack_conflicts.specs.Internal.{IsNext, IsClear, IsGoing, IsFailing, IsPart, IsPartOfFailing, Clashes, IsWithout, IsLater, members, told, conflicts_of}
use Rattle.hack_conflicts.specs.declared.rules.Rules.{Rules}
use Rattle.hack_conflicts.specs.declared.known.Known.{Known}
use Rattle.hack_conflicts.specs.declared.tried.BuildOutcome.{BuildOutcome}
use Rattle.hack_conflicts.specs.declared.tried.BuildOutcome.TheVariants.{Passed, Failed, Broken}
use Rattle.hack_conflicts.proofs.KnownLemmas.{run_cases, run_there, runs_kept, each_of}
use Rattle.hack_conflicts.proofs.RuleLemmas.{without_within, without_lacks, members_fewer}

abbrev number_of : BuildOutcome → ℕ
number_of Passed = 0
number_of Failed = 1
number_of Broken = 2

0≢1 : (n m : ℕ) → n ≡ 0 → m ≡ 1 → n ≡ m → ⊥
0≢1 n m a b e = omega arith

0≢2 : (n m : ℕ) → n ≡ 0 → m ≡ 2 → n ≡ m → ⊥
0≢2 n m a b e = omega arith

1≢2 : (n m : ℕ) → n ≡ 1 → m ≡ 2 → n ≡ m → ⊥
1≢2 n m a b e = omega arith

pub passed-not-failed : Passed ≢ Failed
passed-not-failed e = 0≢1 (number_of Passed) (number_of Failed) refl refl (ap number_of e)

pub passed-not-broken : Passed ≢ Broken
passed-not-broken e = 0≢2 (number_of Passed) (number_of Broken) refl refl (ap number_of e)

pub failed-not-broken : Failed ≢ Broken
failed-not-broken e = 1≢2 (number_of Failed) (number_of Broken) refl refl (ap number_of e)

pub part_apart : (small large t : List Bool) → IsPart small large → IsWithin large t → ¬ IsWithin t small
part_apart small large t part w v = part.lacks (v part.member (w part.member part.has))

module _ (k m : Known) (s : List Bool) (ran : told m ≡ told k ++ record { set = s; outcome = Passed } ∷ []) (same_conflicts : m.conflicts ≡ k.conflicts) (same_passing : m.passing ≡ k.passing) where
  pub going_passed : IsGoing k → IsGoing m
  going_passed going = subst (All (λ (run : Run). run.outcome ≢ Broken)) (sym ran) (All-push (λ (run : Run). run.outcome ≢ Broken) (told k) (record { set = s; outcome = Passed }) going passed-not-broken)

  failed_before : (t : List Bool) → HasFailed (told m) t → HasFailed (told k) t
  failed_before t h = elim (run_cases k m s Passed ran same_conflicts same_passing (record { set = t; outcome = Failed }) h) [
    | inl old ↦ old
    | inr e ↦ absurd (passed-not-failed (ap (λ (run : Run). run.outcome) e))
  ]

  fresh_passed : (large : List Bool) → IsPart s large → ¬ IsPassed (told k) large → ¬ IsPassed (told m) large
  fresh_passed large part fresh (t, there, w) = elim (run_cases k m s Passed ran same_conflicts same_passing (record { set = t; outcome = Passed }) there) [
    | inl old ↦ fresh (t, old, w)
    | inr e ↦ part.lacks (subst (λ u. Has u part.member) (sym (ap (λ (run : Run). run.set) e)) (w part.member part.has))
  ]

  pub failing_passed : (r : Rules) (large : List Bool) → IsPart s large → IsFailing r k large → IsFailing r m large
  failing_passed r large part h = record {
    choice = h.choice;
    going = going_passed h.going;
    failed = runs_kept k m s Passed ran same_conflicts same_passing (record { set = large; outcome = Failed }) h.failed;
    fresh = fresh_passed large part h.fresh;
    conflicts = subst (λ v. ¬ HasInside (rows_of v.items) large) (sym same_conflicts) h.conflicts;
    passing = subst (λ v. ¬ HasInside (rows_of v.items) large) (sym same_passing) h.passing;
    blamed = λ t there. subst (λ v. HasInside (rows_of v.items) t ⊎ IsWithin large t) (sym same_conflicts) (h.blamed t (failed_before t there));
  }

module _ (k m : Known) (s : List Bool) (ran : told m ≡ told k ++ record { set = s; outcome = Failed } ∷ []) (same_conflicts : m.conflicts ≡ k.conflicts) (same_passing : m.passing ≡ k.passing) where
  going_failed : IsGoing k → IsGoing m
  going_failed going = subst (All (λ (run : Run). run.outcome ≢ Broken)) (sym ran) (All-push (λ (run : Run). run.outcome ≢ Broken) (told k) (record { set = s; outcome = Failed }) going failed-not-broken)

  passed_before : (t : List Bool) → HasPassed (told m) t → HasPassed (told k) t
  passed_before t h = elim (run_cases k m s Failed ran same_conflicts same_passing (record { set = t; outcome = Passed }) h) [
    | inl old ↦ old
    | inr e ↦ absurd (passed-not-failed (sym (ap (λ (run : Run). run.outcome) e)))
  ]

  -- a set that failed, where each that failed before has a conflict inside it or this set
  pub failing_failed : (r : Rules) → IsNext r k s → ((t : List Bool) → HasFailed (told k) t → HasInside (conflicts_of k) t ⊎ IsWithin s t) → IsFailing r m s
  failing_failed r next blamed = record {
    choice = next.choice;
    going = going_failed next.clear.going;
    failed = run_there k m s Failed ran same_conflicts same_passing;
    fresh = λ (t, there, w). next.fresh (t, passed_before t there, w);
    conflicts = subst (λ v. ¬ HasInside (rows_of v.items) s) (sym same_conflicts) next.clear.conflicts;
    passing = subst (λ v. ¬ HasInside (rows_of v.items) s) (sym same_passing) next.clear.passing;
    blamed = λ t there. subst (λ v. HasInside (rows_of v.items) t ⊎ IsWithin s t) (sym same_conflicts)
        (elim (run_cases k m s Failed ran same_conflicts same_passing (record { set = t; outcome = Failed }) there) [
          | inl old ↦ blamed t old
          | inr e ↦ inr (subst (IsWithin s) (ap (λ (run : Run). run.set) e) (λ p has. has))
        ]);
  }

-- of a set that fails a part is blamed for what the whole is
pub blamed_part : (r : Rules) (k : Known) (s large : List Bool) → IsPart s large → IsFailing r k large → (t : List Bool) → HasFailed (told k) t → HasInside (conflicts_of k) t ⊎ IsWithin s t
blamed_part r k s large part h t there = elim (h.blamed t there) [
  | inl c ↦ inl c
  | inr w ↦ inr (λ p has. w p (part.within p has))
]

-- nothing known is inside a part of a set that fails
pub clear_part : (r : Rules) (k : Known) (s large : List Bool) → IsPart s large → IsFailing r k large → IsClear k s
clear_part r k s large part h = record {
  going = h.going;
  failed = λ u there v. elim (h.blamed u there) [
    | inl (d, known, w) ↦ h.conflicts (d, known, λ p has. part.within p (v p (w p has)))
    | inr w ↦ part_apart s large u part w v
  ];
  conflicts = λ (u, there, v). h.conflicts (u, there, λ p has. part.within p (v p has));
  passing = λ (u, there, v). h.passing (u, there, λ p has. part.within p (v p has));
}

-- a part of a set that fails that may be chosen, and isn't known to pass, is the next to be tried
pub next_part : (r : Rules) (k : Known) (s : List Bool) → IsPartOfFailing r k s → IsChoice r s → ¬ IsPassed (told k) s → IsNext r k s
next_part r k s (large, part, failing) choice fresh = record {
  choice = choice;
  fresh = fresh;
  clear = clear_part r k s large part failing;
  blamed = inr (record {
    set = large;
    failed = failing.failed;
    clear = failing.conflicts;
    smaller = λ least. fresh (least part.member part.has s choice part.within part.lacks);
    blamed = failing.blamed;
  });
}

pub required_more : (r : Rules) (s t : List Bool) → IsWithin s t → IsRequired r s → IsRequired r t
required_more r s t h = All-weaker (Meets s) (Meets t) (λ g (p, in_group, in_set). (p, in_group, h p in_set)) (rows_of r.needed.items)

-- a part of a part
pub part_less : (s t large : List Bool) → IsWithin s t → IsPart t large → IsPart s large
part_less s t large w part = record {
  within = λ p has. part.within p (w p has);
  member = part.member;
  has = part.has;
  lacks = λ has. part.lacks (w part.member has);
}

pub if_none : {X : Type 0} (o : Option X) (P Q : Type 0) → (P → Q) → IfNone o P → IfNone o Q
if_none None P Q h p = h p
if_none (Some x) P Q h p = p

pub if_some : {X : Type 0} (o : Option X) (P Q : X → Type 0) → ((x : X) → P x → Q x) → IfSome o P → IfSome o Q
if_some None P Q h p = p
if_some (Some x) P Q h p = h x p

-- of two that clash a choice has at most one
pub lacks_one : (r : Rules) (set s : List Bool) (p q : ℕ) → Clashes r set p q → IsChoice r s → IsWithin s set → (¬ Has s p) ⊎ (¬ Has s q)
lacks_one r set s p q clash choice w = elim (cases_Bool (mark s p)) [
  | inr e ↦ inl (λ h. false≢true (sym e ∙ h))
  | inl a ↦ elim (cases_Bool (mark s q)) [
    | inr e ↦ inr (λ h. false≢true (sym e ∙ h))
    | inl b ↦
        let (t, member, up, over) = All-contains (HasOneOf r s) (rows_of r.exclusive.items) clash.group choice.exclusive clash.excludes p q a b clash.first_in clash.second_in in
        absurd (clash.apart (t, w t member, up, over))
  ]
]

-- the set without a member has fewer
pub fewer_without : (r : Rules) (x : ℕ) (s t : List Bool) → IsPreorder r → IsClosed r s → Has s x → IsWithout r x s t → members (size_of r) t < members (size_of r) s
fewer_without r x s t o c has w = members_fewer (size_of r) t s (without_within r x s t w) x (c.below x has) has (without_lacks r x s t w o (c.below x has))

pub later_none : (k : Known) → IsLater k k
later_none k = record { conflicts = λ s h. h; runs = λ run h. h }

-- under plain rules what lies inside an exclusive set is exclusive
pub exclusive_less : (r : Rules) (s t : List Bool) → IsPreorder r → IsPlain r → IsClosed r s → IsWithin s t → IsExclusive r t → IsExclusive r s
exclusive_less r s t o plain closed w exclusive =
    each_of (HasOneOf r s) (rows_of r.exclusive.items) (λ group there p q a b in_p in_q.
    let (x, member, up, over) = All-contains (HasOneOf r t) (rows_of r.exclusive.items) group exclusive there p q (w p a) (w q b) in_p in_q in
    elim (All-contains (EnablesOneOf r) (rows_of r.exclusive.items) group plain there x p q up over in_p in_q) [
      | inl e ↦ (p, a, o.reflexive p (closed.below p a), e)
      | inr e ↦ (q, b, e, o.reflexive q (closed.below q b))
    ])
