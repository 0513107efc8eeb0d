-- The code orders versions as the definitions do; lists that are sorted by this order.
use Rattle.std.proofs.Common.{◌≡◌, ◌↔◌, ◌+◌, ℕ, arith, true, List, length, get_or, rules, refl, ap, sym, ◌∙◌, subst, inl, inr, Result, Ok, Err, Option, Some, None, [], ◌∷◌, map}
use Rattle.std.specs.List.{AllPairs, Contains, dedup, filter_map, cons_option}
use Rattle.std.proofs.lemmas.List.Elements.{Contains-push, Contains-push_cases, Contains-append_left, Contains-append_right, Contains-append_cases}
use Rattle.std.specs.List.Sorted.{IsSorted, IsBinarySearchResult, IsSearchInRange}
use Rattle.std.specs.Result.{is_ok}
use Rattle.std.proofs.lemmas.List.Sorted.{searchable_from_sorted}
use Rattle.std.proofs.lemmas.Bool.{cases_lt}
use Rattle.std.specs.Cmp.{IsTotalOrder, IsEquivalence}
use Rattle.std.specs.Ordering.{partial_le, eq_by_cmp, ordering_reverse, is_lt}
use Rattle.std.specs.declared.cmp.Ordering.TheVariants.{Less, Equal, Greater}
use Rattle.std.proofs.lemmas.List.Kept.{Contains-dedup, Contains-from_dedup, IsStrictlySortedBy-dedup}
use Rattle.std.proofs.lemmas.Map.Keys.{Less-from_sorted}
use Rattle.hack_versions.specs.contracts.version.VersionPartialEq.TheImpl as partial_eq
use Rattle.hack_versions.specs.contracts.version.VersionPartialOrd.TheImpl as partial_ord
use Rattle.hack_versions.specs.contracts.version.VersionOrd.TheImpl as ord
use Rattle.hack_versions.specs.declared.version.Version.{Version}
use Rattle.hack_versions.specs.VersionOrder.{IsEarlierVersion, IsAtMost}
use Rattle.hack_versions.proofs.OrderLemmas.{before-trans, three-way}

pub le-at_most : (a b : Version) → (partial_le (partial_ord.ghosts).partial_cmp a b ≡ true) ↔ IsAtMost a b
le-at_most a b = search rules

less-before : (a b : Version) → ((ord.ghosts).cmp a b ≡ Less) ↔ IsEarlierVersion a b
less-before a b = search rules

pub equal-same : (a b : Version) → ((ord.ghosts).cmp a b ≡ Equal) ↔ (a ≡ b)
equal-same a b = search rules

greater-after : (a b : Version) → ((ord.ghosts).cmp a b ≡ Greater) ↔ IsEarlierVersion b a
greater-after a b = search rules

eq-same : (a b : Version) → ((partial_eq.ghosts).eq a b ≡ true) → a ≡ b
eq-same a b = search rules

eq-cmp : (a b : Version) → (partial_eq.ghosts).eq a b ≡ eq_by_cmp (ord.ghosts).cmp a b
eq-cmp a b = search rules

turned : (a b : Version) → (ord.ghosts).cmp a b ≡ ordering_reverse ((ord.ghosts).cmp b a)
turned a b = elim (three-way a b) [
  | inl l ↦ (less-before a b).1 l ∙ ap ordering_reverse (sym ((greater-after b a).1 l))
  | inr k ↦ elim k [
    | inl e ↦ (equal-same a b).1 e ∙ ap ordering_reverse (sym ((equal-same b a).1 (sym e)))
    | inr l ↦ (greater-after a b).1 l ∙ ap ordering_reverse (sym ((less-before b a).1 l))
  ]
]

pub total : IsTotalOrder (ord.ghosts).cmp
total = record {
  antisymm = turned;
  trans = λ a b c l m. (less-before a c).1 (before-trans a b c ((less-before a b).0 l) ((less-before b c).0 m));
  congr = λ a b c e. ap (λ x. (ord.ghosts).cmp x c) ((equal-same a b).0 e);
}

equiv : IsEquivalence (partial_eq.ghosts).eq
equiv = search rules

pub rising-sorted : (xs : List Version) → IsSorted (ord.ghosts).cmp xs → AllPairs IsEarlierVersion (dedup (partial_eq.ghosts).eq xs)
rising-sorted xs h i j d l m = (less-before _ _).0 (Less-from_sorted (ord.ghosts).cmp (dedup (partial_eq.ghosts).eq xs) i j d (IsStrictlySortedBy-dedup total eq-cmp xs h) l m)

pub deduped : (xs : List Version) (v : Version) → Contains (dedup (partial_eq.ghosts).eq xs) v ↔ Contains xs v
deduped xs v = (Contains-from_dedup (partial_eq.ghosts).eq xs v, Contains-dedup equiv eq-same xs v)

in-order : (xs : List Version) → AllPairs IsEarlierVersion xs → IsSorted (ord.ghosts).cmp xs
in-order xs h k d z l = ap is_lt ((greater-after _ _).1 (h k (k + 1) d (omega arith) l))

pub searched : (xs : List Version) (v : Version) (r : Result ℕ ℕ) → AllPairs IsEarlierVersion xs → IsSearchInRange r (length xs) → IsBinarySearchResult (λ y. (ord.ghosts).cmp y v) xs r → (is_ok r ≡ true) ↔ Contains xs v
searched xs v (Ok i) h b p = (λ _. (i, b, (equal-same _ _).0 (p v)), λ _. refl)
searched xs v (Err i) h b p =
    let q = p (searchable_from_sorted total (λ x. x) xs v (in-order xs h)) in (
      λ e. absurd (cc e),
      λ c. absurd (elim (cases_lt c.0 i) [
        | inl l ↦ same-less (get_or xs c.0 v) v c.2 (q.0 c.0 v (omega arith) l)
        | inr l ↦ same-greater (get_or xs c.0 v) v c.2 (q.1 c.0 v l c.1)
      ]),
    )
  where
    same-less : (a b : Version) → a ≡ b → (ord.ghosts).cmp a b ≡ Less → ⊥
    same-less a b e l = let f = (equal-same a b).1 e in cc (f, l)

    same-greater : (a b : Version) → a ≡ b → (ord.ghosts).cmp a b ≡ Greater → ⊥
    same-greater a b e l = let f = (equal-same a b).1 e in cc (f, l)

one-only : {X : Type 0} (x y : X) → Contains (x ∷ []) y → x ≡ y
one-only x y c = elim (Contains-push_cases [] x y c) [ inl k ↦ absurd (omega (arith, k.1)) | inr e ↦ e ]

same-some : {X : Type 0} (a b : X) → Some a ≡ Some b → a ≡ b
same-some a b e = cc

given-more : (ys : List Version) (os : List (Option Version)) (v : Version) (o : Option Version) → (Contains ys v ↔ Contains os (Some v)) → Contains (cons_option o ys) v ↔ Contains (o ∷ os) (Some v)
given-more ys os v None h = (
  λ k. Contains-append_right (None ∷ []) os (Some v) (h.0 k),
  λ k. elim (Contains-append_cases (None ∷ []) os (Some v) k) [ inl u ↦ absurd (let e = one-only None (Some v) u in cc e) | inr u ↦ h.1 u ],
)
given-more ys os v (Some w) h = (
  λ k. elim (Contains-append_cases (w ∷ []) ys v k) [
    | inl u ↦ Contains-append_left (Some w ∷ []) os (Some v) (subst (Contains (Some w ∷ [])) (ap Some (one-only w v u)) (Contains-push [] (Some w)))
    | inr u ↦ Contains-append_right (Some w ∷ []) os (Some v) (h.0 u)
  ],
  λ k. elim (Contains-append_cases (Some w ∷ []) os (Some v) k) [
    | inl u ↦ Contains-append_left (w ∷ []) ys v (subst (Contains (w ∷ [])) (same-some w v (one-only (Some w) (Some v) u)) (Contains-push [] w))
    | inr u ↦ Contains-append_right (w ∷ []) ys v (h.1 u)
  ],
)

-- the versions that a list of options has
pub given-all : {X : Type 0} (f : X → Option Version) (xs : List X) (v : Version) → Contains (filter_map f xs) v ↔ Contains (map f xs) (Some v)
given-all f [] v = (λ k. absurd (omega (arith, k.1)), λ k. absurd (omega (arith, k.1)))
given-all f (x ∷ xs) v = given-more (filter_map f xs) (map f xs) v (f x) (given-all f xs v)
