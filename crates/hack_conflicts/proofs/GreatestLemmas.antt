-- The greatest of some sets.
use Rattle.std.proofs.Common.{◌≡◌, ◌<◌, ℕ, ◌+◌, ◌-◌, List, [], ◌∷◌, ◌++◌, length, get_or, take, min, arith, Bool, false, sym, ◌∙◌, ap, subst, inl, inr, ◌⊎◌, refl, Contains, All}
use Rattle.std.specs.Prelude.{AllPairs}
use Rattle.std.proofs.lemmas.Bool.{false≢true, cases_order, cases_lt}
use Rattle.std.proofs.lemmas.List.{length-take, get_or-take, get_or_default, take_more, length-append, get_or-append_right}
use Rattle.std.proofs.Math.ListN.{get_or-append}
use Rattle.std.proofs.lemmas.List.Quantifiers.{all_pairs_push}
use Rattle.std.proofs.lemmas.List.Elements.{All-push, All-append, All-weaker, All-contains, All-contains_itself, Contains-get_or, Contains-push, Contains-push_cases, Contains-append_left, Contains-append_right}
use Rattle.hack_conflicts.specs.Sets.{Has, IsWithin, IsInside, HasInside, AreApart}
use Rattle.hack_conflicts.specs.Rules.{IsChoice}
use Rattle.hack_conflicts.specs.Runs.{Run, HasPassed, IsDecided, IsGreatest}
use Rattle.hack_conflicts.specs.Internal.{KeepsOthers, AreOthers, IsWidest}
use Rattle.hack_conflicts.specs.declared.rules.Rules.{Rules}
use Rattle.hack_conflicts.specs.declared.tried.BuildOutcome.TheVariants.{Passed}

-- an element of a front stands at a place
front_at : {X : Type 0} (xs : List X) (i : ℕ) (x d : X) → Contains (take i xs) x → (j : ℕ) × (j < i) × (get_or xs j d ≡ x) × (j < length xs)
front_at xs i x d (j, lt, is) =
    let n : length (take i xs) ≡ min i (length xs) = length-take i xs in
    let below : j < i = omega (arith, n, lt) in
    let inside : j < length xs = omega (arith, n, lt) in
    (j, below, get_or_default xs j d x inside ∙ sym (get_or-take i xs j x below) ∙ is, inside)

module _ (set : List Bool) (all new : List (List Bool)) (i : ℕ) (lt : i < length all) (h : KeepsOthers set (take i all) new) where
  one_more : take (i + 1) all ≡ take i all ++ get_or all i [] ∷ []
  one_more = take_more all i [] lt

  pub others_skip : IsWithin (get_or all i []) set → KeepsOthers set (take (i + 1) all) new
  others_skip w = subst (λ l. KeepsOthers set l new) (sym one_more) (record {
    among = All-weaker (Contains (take i all)) (Contains (take i all ++ get_or all i [] ∷ [])) (λ s c. Contains-append_left (take i all) (get_or all i [] ∷ []) s c) new h.among;
    outside = h.outside;
    kept = λ s c. elim (Contains-push_cases (take i all) (get_or all i []) s c) [
      | inl old ↦ h.kept s old
      | inr e ↦ inr (subst (λ u. IsWithin u set) e w)
    ];
    apart = h.apart;
  })

  apart_there : AllPairs AreApart all → (k : ℕ) (d : List Bool) → k < length new → AreApart (get_or new k d) (get_or all i [])
  apart_there apart k d less =
      let there : Contains (take i all) (get_or new k d) = h.among k d less in
      let (j, below, is, _) = front_at all i (get_or new k d) [] there in
      subst (λ s. AreApart s (get_or all i [])) is (apart j i [] below lt)

  pub others_add : AllPairs AreApart all → ¬ IsWithin (get_or all i []) set → KeepsOthers set (take (i + 1) all) (new ++ get_or all i [] ∷ [])
  others_add apart w = subst (λ l. KeepsOthers set l (new ++ get_or all i [] ∷ [])) (sym one_more) (record {
    among = All-push (Contains (take i all ++ get_or all i [] ∷ [])) new (get_or all i [])
        (All-weaker (Contains (take i all)) (Contains (take i all ++ get_or all i [] ∷ [])) (λ s c. Contains-append_left (take i all) (get_or all i [] ∷ []) s c) new h.among)
        (Contains-push (take i all) (get_or all i []));
    outside = All-push (λ s. ¬ IsWithin s set) new (get_or all i []) h.outside w;
    kept = λ s c. elim (Contains-push_cases (take i all) (get_or all i []) s c) [
      | inl old ↦ elim (h.kept s old) [
        | inl here ↦ inl (Contains-append_left new (get_or all i [] ∷ []) s here)
        | inr inside ↦ inr inside
      ]
      | inr e ↦ inl (subst (Contains (new ++ get_or all i [] ∷ [])) e (Contains-push new (get_or all i [])))
    ];
    apart = all_pairs_push AreApart new (get_or all i []) h.apart (apart_there apart);
  })

-- the run is the next behind the front
module _ (first : List (List Bool)) (front : List Run) (run : Run) (others : List (List Bool)) (h : AreOthers first front others) where
  passed_before : (left : List (List Bool)) → All (Contains others) left → All (HasPassed (front ++ run ∷ [])) left
  passed_before left among = All-weaker (Contains others) (HasPassed (front ++ run ∷ []))
      (λ s there. Contains-append_left front (run ∷ []) (record { set = s; outcome = Passed }) (All-contains (HasPassed front) others s h.passed there)) left among

  cases : (s : List Bool) → HasPassed (front ++ run ∷ []) s → (IsInside first s ⊎ IsInside others s) ⊎ (run ≡ record { set = s; outcome = Passed })
  cases s there = elim (Contains-push_cases front run (record { set = s; outcome = Passed }) there) [
    | inl old ↦ inl (h.covers s old)
    | inr e ↦ inr e
  ]

  pub others_same : (run.outcome ≡ Passed → IsInside first run.set ⊎ IsInside others run.set) → AreOthers first (front ++ run ∷ []) others
  others_same covered = record {
    passed = passed_before others (All-contains_itself others);
    outside = h.outside;
    covers = λ s there. elim (cases s there) [
      | inl old ↦ old
      | inr e ↦ subst (λ u. IsInside first u ⊎ IsInside others u) (ap (λ (r : Run). r.set) e) (covered (ap (λ (r : Run). r.outcome) e))
    ];
    apart = h.apart;
  }

  covered_by : (left : List (List Bool)) → KeepsOthers run.set others left → (t : List Bool) → IsInside others t → IsInside (left ++ run.set ∷ []) t
  covered_by left o t (u, there, w) = elim (o.kept u there) [
    | inl here ↦ (u, Contains-append_left left (run.set ∷ []) u here, w)
    | inr inside ↦ (run.set, Contains-push left run.set, λ p has. inside p (w p has))
  ]

  pub others_more : (left : List (List Bool)) → run.outcome ≡ Passed → ¬ IsInside first run.set → ¬ IsInside others run.set → KeepsOthers run.set others left → AreOthers first (front ++ run ∷ []) (left ++ run.set ∷ [])
  others_more left passed new_first new o = record {
    passed = All-push (HasPassed (front ++ run ∷ [])) left run.set (passed_before left o.among)
        (subst (λ p. Contains (front ++ run ∷ []) (record { set = run.set; outcome = p })) passed (Contains-push front run));
    outside = All-push (λ s. ¬ IsInside first s) left run.set (All-weaker (Contains others) (λ s. ¬ IsInside first s) (λ s there. All-contains (λ t. ¬ IsInside first t) others s h.outside there) left o.among) new_first;
    covers = λ s there. elim (cases s there) [
      | inl old ↦ elim old [ inl inside ↦ inl inside | inr inside ↦ inr (covered_by left o s inside) ]
      | inr e ↦ inr (run.set, Contains-push left run.set, subst (λ u. IsWithin u run.set) (ap (λ (r : Run). r.set) e) (λ p has. has))
    ];
    apart = all_pairs_push AreApart left run.set o.apart (λ k d lt. record {
      left = o.outside k d lt;
      right = λ w. new (get_or left k d, o.among k d lt, w);
    });
  }

all_pairs_append : {X : Type 0} (R : X → X → Type 0) (xs ys : List X) → AllPairs R xs → AllPairs R ys → ((x y : X) → Contains xs x → Contains ys y → R x y) → AllPairs R (xs ++ ys)
all_pairs_append R xs ys h k cross i j d lt le =
    let size : length (xs ++ ys) ≡ length xs + length ys = length-append xs ys in
    elim (cases_lt j (length xs)) [
      | inl j_first ↦
          let i_first : i < length xs = omega arith in
          subst (λ x. R x (get_or (xs ++ ys) j d)) (sym (get_or-append xs ys d i i_first)) (subst (R (get_or xs i d)) (sym (get_or-append xs ys d j j_first)) (h i j d lt j_first))
      | inr j_second ↦
          let j_less : j - length xs < length ys = omega arith in
          subst (R (get_or (xs ++ ys) i d)) (sym (get_or-append_right xs ys (length xs) j d refl j_second)) (elim (cases_lt i (length xs)) [
            | inl i_first ↦ subst (λ x. R x (get_or ys (j - length xs) d)) (sym (get_or-append xs ys d i i_first))
                (cross (get_or xs i d) (get_or ys (j - length xs) d) (Contains-get_or xs i d i_first) (Contains-get_or ys (j - length xs) d j_less))
            | inr i_second ↦ subst (λ x. R x (get_or ys (j - length xs) d)) (sym (get_or-append_right xs ys (length xs) i d refl i_second))
                (k (i - length xs) (j - length xs) d (omega arith) j_less)
          ])
    ]

-- the first sets and the others together

module _ (first : List (List Bool)) (runs : List Run) (others : List (List Bool)) (h : AreOthers first runs others) where
  pub all_passed : All (HasPassed runs) first → All (HasPassed runs) (first ++ others)
  all_passed passed = All-append (HasPassed runs) first others passed h.passed

  pub all_covered : (s : List Bool) → HasPassed runs s → IsInside (first ++ others) s
  all_covered s there = elim (h.covers s there) [
    | inl (t, known, w) ↦ (t, Contains-append_left first others t known, w)
    | inr (t, known, w) ↦ (t, Contains-append_right first others t known, w)
  ]

  pub all_apart : AllPairs AreApart first → All (IsWidest runs) first → AllPairs AreApart (first ++ others)
  all_apart apart widest = all_pairs_append AreApart first others apart h.apart (λ q t known there. record {
    left = λ w. All-contains (λ s. ¬ IsInside first s) others t h.outside there (q, known, All-contains (IsWidest runs) first q widest known t (All-contains (HasPassed runs) others t h.passed there) w);
    right = λ w. All-contains (λ s. ¬ IsInside first s) others t h.outside there (q, known, w);
  })

-- of sets apart one inside another is the same
pub apart_same : (xs : List (List Bool)) → AllPairs AreApart xs → (t u : List Bool) → Contains xs t → Contains xs u → IsWithin t u → t ≡ u
apart_same xs apart t u (i, li, ti) (j, lj, uj) w =
    let ei : get_or xs i [] ≡ t = get_or_default xs i [] t li ∙ ti in
    let ej : get_or xs j [] ≡ u = get_or_default xs j [] u lj ∙ uj in
    elim (cases_order i j) [
      | inl e ↦ sym ei ∙ ap (λ k. get_or xs k []) e ∙ ej
      | inr (inl lt) ↦ absurd ((apart i j [] lt lj).left (subst (λ s. IsWithin s (get_or xs j [])) (sym ei) (subst (IsWithin t) (sym ej) w)))
      | inr (inr lt) ↦ absurd ((apart j i [] lt li).right (subst (λ s. IsWithin s (get_or xs j [])) (sym ei) (subst (IsWithin t) (sym ej) w)))
    ]

-- a passing set lies inside no greater one that builds
pub none_greater : (r : Rules) (builds : List Bool → Bool) (conflicts kept : List (List Bool)) → AllPairs AreApart kept
    → ((s : List Bool) → IsChoice r s → IsDecided conflicts kept s) → ((s : List Bool) → IsChoice r s → HasInside conflicts s → builds s ≡ false)
    → (t : List Bool) → Contains kept t → IsGreatest r builds t
none_greater r builds conflicts kept apart decided fails t there s choice b within = elim (decided s choice) [
  | inl h ↦ absurd (false≢true (sym (fails s choice h) ∙ b))
  | inr (u, here, w) ↦ λ p has. subst (λ v. Has v p) (sym (apart_same kept apart t u there here (λ q h. w q (within q h)))) (w p has)
]
