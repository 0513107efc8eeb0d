-- Lemmas on how many failed runs show a pattern, and on a stable sort by this number.
use Rattle.std.proofs.Common.{◌≡◌, ℕ, ◌<◌, ◌≤◌, List, [], ◌∷◌, length, get_or, refl, sym, ◌∙◌, ap, subst, arith, Bool, true, false, not, ◌&&◌, cond, ◌⊎◌, inl, inr, AllPairs, eqb, ltb, ltb-false, Less, Equal, Greater}
use Rattle.std.specs.Prelude.{slice_get, Option, Some, None, Vec, MatchBool, nat_eq, if◌then◌else◌}
use Rattle.std.specs.List.{filter, list_all}
use Rattle.std.specs.List.Sorted.{IsSortedBy, IsPermutation, ties}
use Rattle.std.specs.Ordering.{is_lt, nat_cmp}
use Rattle.std.specs.Option.{option_map_or}
use Rattle.std.specs.Cmp.{IsStrictWeakOrder, nat_cmp_total}
use Rattle.std.proofs.lemmas.Bool.{eqb-true}
use Rattle.std.proofs.lemmas.Bool.Decides.{nat_tests}
use Rattle.std.proofs.lemmas.List.{get_or-map, length-map}
use Rattle.std.proofs.lemmas.List.Elements.{All-nil, All-cons, All-head, All-tail, filter_agree}
use Rattle.std.proofs.lemmas.List.Sorted.{ranks_by, IsStrictWeakOrder-flip, IsPermutation-map, sorted_far}
use Rattle.hack_samples.specs.Samples.{RowShows}
use Rattle.hack_samples.specs.Sets.{rows_of}
use Rattle.hack_samples.specs.declared.sets.Setting.{Setting}
use Rattle.hack_samples.proofs.SetLemmas.{told, not_both}
use Rattle.hack_suspects.specs.Suspects.{RunOutcome}
use Rattle.hack_suspects.specs.Uses.{AreInOrderOfUse, shows_setting, is_used, uses}

set-as : (o : Option Bool) (on : Bool) → o ≡ Some on → option_map_or (λ b. if on then b else not b) o false ≡ true
set-as None on e = absurd (cc)
set-as (Some true) true e = refl
set-as (Some false) false e = refl
set-as (Some true) false e = cc
set-as (Some false) true e = cc

as-set : (o : Option Bool) (on : Bool) → option_map_or (λ b. if on then b else not b) o false ≡ true → o ≡ Some on
as-set None on e = cc
as-set (Some true) true e = refl
as-set (Some false) false e = refl
as-set (Some true) false e = cc
as-set (Some false) true e = cc

both-are : (a b : Bool) → a ≡ true → b ≡ true → (a && b) ≡ true
both-are true true p q = refl
both-are true false p q = q
both-are false b p q = p

first-is : (a b : Bool) → (a && b) ≡ true → a ≡ true
first-is true b e = refl
first-is false b e = e

second-is : (a b : Bool) → (a && b) ≡ true → b ≡ true
second-is true b e = e
second-is false b e = absurd (not_both e refl)

shown-is : (row : List Bool) (pattern : List Setting) → RowShows row pattern → list_all (shows_setting row) pattern ≡ true
shown-is row [] h = refl
shown-is row (x ∷ pattern) h =
    let S : Setting → Type 0 = λ setting. slice_get row setting.candidate ≡ Some setting.on in
    both-are _ _ (set-as (slice_get row x.candidate) x.on (All-head S x pattern h)) (shown-is row pattern (All-tail S x pattern h))

is-shown : (row : List Bool) (pattern : List Setting) → list_all (shows_setting row) pattern ≡ true → RowShows row pattern
is-shown row [] h = All-nil (λ setting. slice_get row setting.candidate ≡ Some setting.on)
is-shown row (x ∷ pattern) h =
    let S : Setting → Type 0 = λ setting. slice_get row setting.candidate ≡ Some setting.on in
    All-cons S x pattern (as-set (slice_get row x.candidate) x.on (first-is (shows_setting row x) _ h)) (is-shown row pattern (second-is (shows_setting row x) _ h))

-- the answer to whether a row shows a pattern
pub shows-told : (b : Bool) (row : List Bool) (pattern : List Setting) → MatchBool b (RowShows row pattern) (RowShows row pattern → ⊥) → b ≡ list_all (shows_setting row) pattern
shows-told true row pattern h = sym (shown-is row pattern h)
shows-told false row pattern h =
    elim (told (list_all (shows_setting row) pattern)) [
      | inl is ↦ absurd (h (is-shown row pattern is))
      | inr other ↦ sym other
    ]

nat_cmp-ltb : (x y : ℕ) → is_lt (nat_cmp x y) ≡ ltb x y
nat_cmp-ltb x y = by (ltb x y) (eqb x y)
  where
    by : (less same : Bool) → is_lt (cond less Less (cond same Equal Greater)) ≡ less
    by true same = refl
    by false true = refl
    by false false = refl

-- a stable sort by a number, the greatest first
module _ {X : Type 0} (u : X → ℕ) where
  abbrev Before : X → X → Bool
  Before x y = is_lt (nat_cmp (u y) (u x))

  is-order : IsStrictWeakOrder Before
  is-order = IsStrictWeakOrder-flip (λ x y. is_lt (nat_cmp (u x) (u y))) (ranks_by nat_cmp_total u)

  pub falls : (xs : List X) → IsSortedBy Before xs → AllPairs (λ one later. u later ≤ u one) xs
  falls xs up i j d l m = ltb-false (u (get_or xs i d)) (u (get_or xs j d)) (sym (nat_cmp-ltb (u (get_or xs i d)) (u (get_or xs j d))) ∙ sorted_far Before is-order xs up i j d (omega arith) m)

  tie-is : (x y : X) → ties Before x y ≡ nat_eq (u y) (u x)
  tie-is x y = tests (u x) (u y)
    where
      tests : (a b : ℕ) → (not (is_lt (nat_cmp b a)) && not (is_lt (nat_cmp a b))) ≡ nat_eq b a
      tests a b = ap (λ p. not p && not (is_lt (nat_cmp a b))) (nat_cmp-ltb b a) ∙ ap (λ p. not (ltb b a) && not p) (nat_cmp-ltb a b) ∙ grind (arith, nat_tests)

  -- an element with this number, or none of them has it
  one-with : (n : ℕ) (xs : List X) → ((x : X) × (u x ≡ n)) ⊎ (filter (λ y. nat_eq (u y) n) xs ≡ [])
  one-with n [] = inr refl
  one-with n (x ∷ xs) =
      let test : X → Bool = λ y. nat_eq (u y) n in
      elim (told (test x)) [
        | inl is ↦ inl (x, eqb-true (u x) n is)
        | inr other ↦ elim (one-with n xs) [
          | inl w ↦ inl w
          | inr none ↦ inr (ap (λ b. cond b (x ∷ filter test xs) (filter test xs)) other ∙ none)
        ]
      ]

  pub stays : (xs ys : List X) → ((x : X) → filter (ties Before x) ys ≡ filter (ties Before x) xs) → (n : ℕ) → filter (λ y. nat_eq (u y) n) ys ≡ filter (λ y. nat_eq (u y) n) xs
  stays xs ys stable n =
      elim (one-with n xs) [
        | inl w ↦ by w
        | inr none ↦ elim (one-with n ys) [ inl w ↦ by w | inr none' ↦ none' ∙ sym none ]
      ]
    where
      by : (x : X) × (u x ≡ n) → filter (λ y. nat_eq (u y) n) ys ≡ filter (λ y. nat_eq (u y) n) xs
      by w =
          let agree : (zs : List X) → filter (ties Before w.0) zs ≡ filter (λ y. nat_eq (u y) n) zs = filter_agree (ties Before w.0) (λ y. nat_eq (u y) n) (λ y. tie-is w.0 y ∙ ap (nat_eq (u y)) w.1) in
          sym (agree ys) ∙ stable w.0 ∙ agree xs

filter-rows : {X Z : Type 0} (test : List X → Bool) (xs : List (Vec X Z)) → filter test (rows_of xs) ≡ rows_of (filter (λ v. test v.items) xs)
filter-rows test [] = refl
filter-rows {X = X} {Z = Z} test (x ∷ xs) = ap (λ l. cond (test x.items) (x.items ∷ l) l) (filter-rows test xs) ∙ go (test x.items)
  where
    go : (b : Bool) → cond b (x.items ∷ rows_of (filter (λ (v : Vec X Z). test v.items) xs)) (rows_of (filter (λ (v : Vec X Z). test v.items) xs)) ≡ rows_of (cond b (x ∷ filter (λ (v : Vec X Z). test v.items) xs) (filter (λ (v : Vec X Z). test v.items) xs))
    go true = refl
    go false = refl

pairs-rows : {X Z : Type 0} (R : List X → List X → Type 0) (xs : List (Vec X Z)) → AllPairs (λ one later. R one.items later.items) xs → AllPairs R (rows_of xs)
pairs-rows R [] h i j d l m = absurd (omega arith)
pairs-rows {X = X} {Z = Z} R (x ∷ xs) h i j d l m =
    let below : j < length (x ∷ xs) = omega (arith, m, length-map (x ∷ xs) (λ v. v.items)) in
    let at : (k : ℕ) → k < length (x ∷ xs) → (get_or (x ∷ xs) k x).items ≡ get_or (rows_of (x ∷ xs)) k d = λ k lt. sym (get_or-map (λ (v : Vec X Z). v.items) (x ∷ xs) k x d lt) in
    subst (λ a. R a (get_or (rows_of (x ∷ xs)) j d)) (at i (omega arith)) (subst (R (get_or (x ∷ xs) i x).items) (at j below) (h i j x l below))

-- patterns that were sorted so are in order of use
pub sorted-by-use : {Z : Type 0} (outcomes : List RunOutcome) (old new : List (Vec Setting Z)) → IsPermutation old new → IsSortedBy (λ x y. is_lt (nat_cmp (uses outcomes y.items) (uses outcomes x.items))) new
    → ((x : Vec Setting Z) → filter (ties (λ a b. is_lt (nat_cmp (uses outcomes b.items) (uses outcomes a.items))) x) new ≡ filter (ties (λ a b. is_lt (nat_cmp (uses outcomes b.items) (uses outcomes a.items))) x) old)
    → AreInOrderOfUse outcomes (rows_of old) (rows_of new)
sorted-by-use {Z = Z} outcomes old new moved sorted stable =
    let u : Vec Setting Z → ℕ = λ v. uses outcomes v.items in
    record {
      same = IsPermutation-map (λ (v : Vec Setting Z). v.items) old new moved;
      most_first = pairs-rows (λ one later. uses outcomes later ≤ uses outcomes one) new (falls u new sorted);
      as_before = λ n. filter-rows (is_used outcomes n) new ∙ ap rows_of (stays u old new stable n) ∙ sym (filter-rows (is_used outcomes n) old);
    }
