-- The sets between two sets are listed, so that the listed sets are at least as many.
use Rattle.std.proofs.Common.{◌≡◌, ◌≢◌, ℕ, zero, suc, ◌+◌, ◌-◌, ◌^◌, ◌<◌, ◌≤◌, List, [], ◌∷◌, ◌++◌, length, get_or, set, map, filter, refl, sym, ◌∙◌, ap, subst, arith, Bool, true, false, inl, inr, All, Contains, length-append, pow-suc}
use Rattle.std.specs.List.{list_any, remove}
use Rattle.std.proofs.lemmas.List.{length-map}
use Rattle.std.proofs.lemmas.List.Edits.{length-remove}
use Rattle.std.proofs.lemmas.List.Elements.{All-append, All-cons, All-head, All-map, All-nil, All-tail, Contains-append_cases, Contains-get_or}
use Rattle.hack_base.proofs.Members.{Contains-cons_cases, Contains-head, Contains-map_from, Contains-nil, Contains-tail}
use Rattle.hack_base.proofs.Passes.{all_pass, any_passes, each_passes, some_passes}
use Rattle.hack_samples.specs.Sets.{has, IsInside, rows_of}
use Rattle.hack_features.specs.declared.rules.Rules.{Rules}
use Rattle.hack_features.specs.ClosureLaws.{may-inside, may_of-empty, may_of-remove}
use Rattle.hack_sets.specs.Questions.{IsWholeSet, is_whole}
use Rattle.hack_features.specs.Rules.{IsListed}
use Rattle.hack_features.specs.Samples.{positions_from, positions_of, IsSame}
use Rattle.hack_sets.specs.Sets.{IsListing, IsSelection, Pairwise}
use Rattle.hack_features.specs.Tables.{is_required}
use Rattle.hack_routes.specs.Rows.{bit}
use Rattle.hack_features.specs.View.{choice_of, may_of, size_of, whole_of}
use Rattle.hack_features.proofs.MemberLemmas.{member_iff}
use Rattle.hack_sets.proofs.Permitted.{Passes, listing_filter, listing_same, permitted_below, permitted_listing, whole_iff}
use Rattle.hack_features.proofs.RuleLemmas.{listing_of, tables_of}
use Rattle.hack_features.proofs.SampleLemmas.{selected}
use Rattle.hack_least.specs.Least.{ListsAtLeast}

-- ---- lists of different sets

abbrev Differ : List ℕ → List ℕ → Type 0
Differ a b = a ≢ b

tails : (k : ℕ) (u v : List ℕ) → k ∷ u ≡ k ∷ v → u ≡ v
tails k u v e = cc

apart-map : (k : ℕ) (us : List (List ℕ)) → Pairwise Differ us → Pairwise Differ (map (λ u. k ∷ u) us)
apart-map k [] h = tt
apart-map k (u ∷ us) h = (
  All-map (Differ (k ∷ u)) (λ v. k ∷ v) us (λ i d lt e. h.0 i d lt (tails k u (get_or us i d) e)),
  apart-map k us h.1,
)

apart-append : (us vs : List (List ℕ)) → Pairwise Differ us → Pairwise Differ vs → All (λ u. All (Differ u) vs) us → Pairwise Differ (us ++ vs)
apart-append [] vs hu hv h = hv
apart-append (u ∷ us) vs hu hv h = (
  All-append (Differ u) us vs hu.0 (All-head (λ x. All (Differ x) vs) u us h),
  apart-append us vs hu.1 hv (All-tail (λ x. All (Differ x) vs) u us h),
)

-- sets whose positions are all greater than k differ from those that begin with k
apart-from : (k : ℕ) (us ws : List (List ℕ)) → All (All (λ p. k < p)) us → All (λ u. All (Differ u) (map (λ w. k ∷ w) ws)) us
apart-from k us ws h = λ i d lt. All-map (Differ (get_or us i d)) (λ w. k ∷ w) ws
    (λ j e in' same. let own : k < k = All-head (λ p. k < p) k (get_or ws j e) (subst (All (λ p. k < p)) same (h i d lt)) in omega arith)

-- what a list has, but for the element at a place
left_over : {X : Type 0} (ys : List X) (i : ℕ) (x z d : X) → i < length ys → get_or ys i d ≡ x → x ≢ z → Contains ys z → Contains (remove ys i) z
left_over [] i x z d lt is ne c = absurd (omega arith)
left_over (y ∷ ys) zero x z d lt is ne c = elim (Contains-cons_cases y ys z c) [ inl e ↦ absurd (ne (sym is ∙ e)) | inr w ↦ w ]
left_over (y ∷ ys) (suc i) x z d lt is ne c =
    elim (Contains-cons_cases y ys z c) [
      | inl e ↦ subst (Contains (y ∷ remove ys i)) e (Contains-head y (remove ys i))
      | inr w ↦ Contains-tail y (remove ys i) z (left_over ys i x z d (omega arith) is ne w)
    ]

-- different sets that are all in a list are no more than its elements
fewer : (us vs : List (List ℕ)) → Pairwise Differ us → All (Contains vs) us → length us ≤ length vs
fewer [] vs h a = omega arith
fewer (u ∷ us) vs h a =
    let c : Contains vs u = All-head (Contains vs) u us a in
    let rest = fewer us (remove vs c.0) h.1
    (λ k d lt. left_over vs c.0 u (get_or us k d) u c.1 c.2 (h.0 k d lt) (All-tail (Contains vs) u us a k d lt)) in
    omega (arith, rest, length-remove vs c.0 c.1)

-- ---- the sets between two

-- the sets that have all members of the first set, and no others but members of the second; places are counted from k
abbrev between : ℕ → List Bool → List Bool → List (List ℕ)
between k [] s = [] ∷ []
between k (b ∷ t) [] = [] ∷ []
between k (true ∷ t) (c ∷ s) = map (λ u. k ∷ u) (between (k + 1) t s)
between k (false ∷ t) (true ∷ s) = between (k + 1) t s ++ map (λ u. k ∷ u) (between (k + 1) t s)
between k (false ∷ t) (false ∷ s) = between (k + 1) t s

-- how many members only the second set has
abbrev only : List Bool → List Bool → ℕ
only [] s = 0
only (b ∷ t) [] = 0
only (true ∷ t) (c ∷ s) = only t s
only (false ∷ t) (true ∷ s) = suc (only t s)
only (false ∷ t) (false ∷ s) = only t s

length-between : (k : ℕ) (t s : List Bool) → length (between k t s) ≡ 2 ^ only t s
length-between k [] s = refl
length-between k (b ∷ t) [] = refl
length-between k (true ∷ t) (c ∷ s) = length-map (between (k + 1) t s) (λ u. k ∷ u) ∙ length-between (k + 1) t s
length-between k (false ∷ t) (true ∷ s) =
    let us = between (k + 1) t s in
    omega (arith, length-append us (map (λ u. k ∷ u) us), length-map us (λ u. k ∷ u), length-between (k + 1) t s, pow-suc 2 (only t s))
length-between k (false ∷ t) (false ∷ s) = length-between (k + 1) t s

high-with : (j k : ℕ) (us : List (List ℕ)) → j < k → All (All (λ p. j < p)) us → All (All (λ p. j < p)) (map (λ u. k ∷ u) us)
high-with j k us lt h = All-map (All (λ p. j < p)) (λ u. k ∷ u) us (λ i d in'. All-cons (λ p. j < p) k (get_or us i d) lt (h i d in'))

-- the positions of a set between two are those of the places counted, or greater
high : (j k : ℕ) (t s : List Bool) → j < k → All (All (λ p. j < p)) (between k t s)
high j k [] s lt = All-cons (All (λ p. j < p)) [] [] (All-nil (λ p. j < p)) (All-nil (All (λ p. j < p)))
high j k (b ∷ t) [] lt = All-cons (All (λ p. j < p)) [] [] (All-nil (λ p. j < p)) (All-nil (All (λ p. j < p)))
high j k (true ∷ t) (c ∷ s) lt = high-with j k (between (k + 1) t s) lt (high j (k + 1) t s (omega arith))
high j k (false ∷ t) (true ∷ s) lt =
    let us = between (k + 1) t s in
    let h = high j (k + 1) t s (omega arith) in
    All-append (All (λ p. j < p)) us (map (λ u. k ∷ u) us) h (high-with j k us lt h)
high j k (false ∷ t) (false ∷ s) lt = high j (k + 1) t s (omega arith)

between-apart : (k : ℕ) (t s : List Bool) → Pairwise Differ (between k t s)
between-apart k [] s = (All-nil (Differ []), tt)
between-apart k (b ∷ t) [] = (All-nil (Differ []), tt)
between-apart k (true ∷ t) (c ∷ s) = apart-map k (between (k + 1) t s) (between-apart (k + 1) t s)
between-apart k (false ∷ t) (true ∷ s) =
    let us = between (k + 1) t s in
    let h = between-apart (k + 1) t s in
    apart-append us (map (λ u. k ∷ u) us) h (apart-map k us h) (apart-from k us us (high k (k + 1) t s (omega arith)))
between-apart k (false ∷ t) (false ∷ s) = between-apart (k + 1) t s

-- the set is given by flags, has all members of the first set, and no others but members of the second
record Lies (k : ℕ) (t s : List Bool) (u : List ℕ) : Type 0 where
  flags : List Bool
  is : positions_from k flags ≡ u
  above : IsInside t flags
  below : IsInside flags s

inside-cons : (b d : Bool) (s t : List Bool) → (b ≡ true → d ≡ true) → IsInside s t → IsInside (b ∷ s) (d ∷ t)
inside-cons b d s t first h = record { same = ap suc h.same; members = λ p. at p }
  where
    at : (p : ℕ) → has (b ∷ s) p ≡ true → has (d ∷ t) p ≡ true
    at zero e = first e
    at (suc p) e = h.members p e

inside-rest : (b d : Bool) (s t : List Bool) → IsInside (b ∷ s) (d ∷ t) → IsInside s t
inside-rest b d s t h = record { same = (let e = h.same in omega arith); members = λ p e. h.members (suc p) e }

lies-with : (k : ℕ) (b : Bool) (t s : List Bool) (u : List ℕ) → Lies (k + 1) t s u → Lies k (b ∷ t) (true ∷ s) (k ∷ u)
lies-with k b t s u h = record {
  flags = true ∷ h.flags;
  is = ap (λ l. k ∷ l) h.is;
  above = inside-cons b true t h.flags (λ e. refl) h.above;
  below = inside-cons true true h.flags s (λ e. e) h.below;
}

lies-without : (k : ℕ) (c : Bool) (t s : List Bool) (u : List ℕ) → Lies (k + 1) t s u → Lies k (false ∷ t) (c ∷ s) u
lies-without k c t s u h = record {
  flags = false ∷ h.flags;
  is = h.is;
  above = inside-cons false false t h.flags (λ e. e) h.above;
  below = inside-cons false c h.flags s (λ e. absurd (let z : false ≡ true = e in cc)) h.below;
}

between-lies : (k : ℕ) (t s : List Bool) (u : List ℕ) → IsInside t s → Contains (between k t s) u → Lies k t s u
between-lies k [] s u h c =
    elim (Contains-cons_cases [] [] u c) [ inl e ↦ record { flags = []; is = e; above = record { same = refl; members = λ p e. e }; below = h } | inr w ↦ absurd (Contains-nil u w) ]
between-lies k (b ∷ t) [] u h c = absurd (let e = h.same in omega arith)
between-lies k (true ∷ t) (true ∷ s) u h c =
    let from = Contains-map_from (λ u. k ∷ u) (between (k + 1) t s) u c in
    subst (Lies k (true ∷ t) (true ∷ s)) from.2 (lies-with k true t s from.0 (between-lies (k + 1) t s from.0 (inside-rest true true t s h) from.1))
between-lies k (true ∷ t) (false ∷ s) u h c = absurd (let e : false ≡ true = h.members 0 refl in cc)
between-lies k (false ∷ t) (true ∷ s) u h c =
    let us = between (k + 1) t s in
    elim (Contains-append_cases us (map (λ u. k ∷ u) us) u c) [
      | inl w ↦ lies-without k true t s u (between-lies (k + 1) t s u (inside-rest false true t s h) w)
      | inr w ↦
          let from = Contains-map_from (λ u. k ∷ u) us u w in
          subst (Lies k (false ∷ t) (true ∷ s)) from.2 (lies-with k false t s from.0 (between-lies (k + 1) t s from.0 (inside-rest false true t s h) from.1))
    ]
between-lies k (false ∷ t) (false ∷ s) u h c = lies-without k false t s u (between-lies (k + 1) t s u (inside-rest false false t s h) c)

-- a set has as many members as one inside it and those that only it has
only-counted : (k : ℕ) (t s : List Bool) → IsInside t s → only t s + length (positions_from k t) ≡ length (positions_from k s)
only-counted k [] [] h = refl
only-counted k [] (c ∷ s) h = absurd (let e = h.same in omega arith)
only-counted k (b ∷ t) [] h = absurd (let e = h.same in omega arith)
only-counted k (true ∷ t) (true ∷ s) h = omega (arith, only-counted (k + 1) t s (inside-rest true true t s h))
only-counted k (true ∷ t) (false ∷ s) h = absurd (let e : false ≡ true = h.members 0 refl in cc)
only-counted k (false ∷ t) (true ∷ s) h = omega (arith, only-counted (k + 1) t s (inside-rest false true t s h))
only-counted k (false ∷ t) (false ∷ s) h = only-counted (k + 1) t s (inside-rest false false t s h)

-- ---- sets by flags

-- the groups that a set serves are served by each set that it is inside
whole-inside : (rows : List (List Bool)) (s t : List Bool) → IsInside s t → is_required rows (positions_of s) ≡ true → is_required rows (positions_of t) ≡ true
whole-inside rows s t inside h =
    all_pass (λ row. list_any (bit row) (positions_of t)) rows
    (λ row c.
    let p = some_passes (bit row) (positions_of s) (each_passes (λ row. list_any (bit row) (positions_of s)) rows h row c) in
    any_passes (bit row) (positions_of t) p.0 ((member_iff t p.0).1 (inside.members p.0 ((member_iff s p.0).0 p.1))) p.2)

-- ---- the listed sets of rules

module _ (r : Rules) where
  all_listed : List (List ℕ)
  all_listed = filter (is_whole (whole_of r)) (permitted_below (may_of r) (size_of r))

  whole_listing : IsListing (size_of r) (IsWholeSet (may_of r) (whole_of r)) all_listed
  unfolding all_listed
  whole_listing =
      listing_same (size_of r) (λ s. Passes (may_of r) s × (is_whole (whole_of r) s ≡ true)) (IsWholeSet (may_of r) (whole_of r)) (filter (is_whole (whole_of r)) (permitted_below (may_of r) (size_of r)))
      (whole_iff (may_of r) (whole_of r))
      (listing_filter (size_of r) (Passes (may_of r)) (is_whole (whole_of r)) (permitted_below (may_of r) (size_of r))
      (permitted_listing (may_of r) (may_of-empty r) (may_of-remove r) (size_of r)))

  listing : IsListing (size_of r) (IsListed (choice_of r)) all_listed
  listing = listing_of r (tables_of r) all_listed whole_listing

  -- two sets, one inside the other: the greater one is permitted, and the lesser serves each group
  module _ (least most : List Bool) (size : length most ≡ size_of r) (inside : IsInside least most) (may : may_of r (positions_of most) ≡ true) (serves : whole_of r (positions_of least) ≡ true) where
    in_all : (u : List ℕ) → Contains (between 0 least most) u → Contains ([] ∷ all_listed) u
    in_all [] c = Contains-head [] all_listed
    in_all (p ∷ u) c =
        let w = between-lies 0 least most (p ∷ u) inside c in
        Contains-tail [] all_listed (p ∷ u)
        ((whole_listing.exact (p ∷ u)).1 (
          subst (IsSelection (size_of r)) w.is (selected (size_of r) w.flags (w.below.same ∙ size)),
          record {
            nonempty = λ e. (cc);
            allowed = subst (λ s. may_of r s ≡ true) w.is (may-inside r w.flags most w.below may);
            completed = subst (λ s. whole_of r s ≡ true) w.is (whole-inside (rows_of r.tables.serves.items) least w.flags w.above serves);
          },
        ))

    pub enough : (n : ℕ) → n + 1 ≤ 2 ^ (length (positions_of most) - length (positions_of least)) → ListsAtLeast (choice_of r) (size_of r) n
    enough n few =
        let us = between 0 least most in
        let all : length us ≤ length ([] ∷ all_listed) = fewer us ([] ∷ all_listed) (between-apart 0 least most) (λ k d lt. in_all (get_or us k d) (Contains-get_or us k d lt)) in
        let free : length (positions_of most) - length (positions_of least) ≡ only least most = omega (arith, only-counted 0 least most inside) in
        record {
          sets = all_listed;
          listing = listing;
          enough = omega (arith, few, all, length-between 0 least most, ap (λ j. 2 ^ j) free);
        }

  -- there are at least none
  pub none : ListsAtLeast (choice_of r) (size_of r) 0
  none = record { sets = all_listed; listing = listing; enough = omega arith }

-- ---- rules after questions

pub same-size : (r s : Rules) → IsSame r s → size_of r ≡ size_of s
same-size r s h = sym h.size

pub same-permitted : (r s : Rules) (set : List Bool) → IsSame r s → may_of r (positions_of set) ≡ true → may_of s (positions_of set) ≡ true
same-permitted r s set h e = ap (λ may. may (positions_of set)) h.may ∙ e
