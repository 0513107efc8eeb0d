-- What the entries of the tables say of the rules.
use Rattle.std.proofs.Common.{◌≡◌, ◌≢◌, ℕ, zero, suc, ◌+◌, ◌<◌, ◌≤◌, List, [], ◌∷◌, ◌++◌, length, get_or, refl, sym, ◌∙◌, ap, subst, arith, flat_map, Bool, true, false, cond, ◌⊎◌, inl, inr, ◌↔◌, IsTrue, All, Contains, append_assoc, append-nil, take, length-take, length-append, map, eqb-true}
use Rattle.std.specs.Prelude.{count_by, sum_by, not, nat_le, ◌==◌, ◌||◌, ◌&&◌}
use Rattle.std.specs.List.{list_all, list_any}
use Rattle.std.proofs.lemmas.List.{map-append, get_or_default, get_or_push, take_more}
use Rattle.std.proofs.Math.ListN.{get_or-append}
use Rattle.hack_routes.proofs.MarkLemmas.{nil_from}
use Rattle.std.proofs.lemmas.Bool.{leb-true, le-leb, and_parts, and_from, or_cases, or_right, cases_eq}
use Rattle.std.proofs.lemmas.Bool.Decides.{eqb_tells}
use Rattle.std.proofs.lemmas.List.Sums.{sum_by-cons}
use Rattle.std.proofs.lemmas.List.Elements.{All-contains, All-head, All-tail, All-nil, All-cons, All-append, Contains-get_or, Contains-push, Contains-push_cases, Contains-append_left}
use Rattle.hack_base.proofs.Chains.{some_fails}
use Rattle.hack_base.proofs.Members.{Contains-nil, Contains-cons_cases, Contains-head, Contains-map, Contains-map_from, lt_or_same}
use Rattle.hack_base.proofs.Passes.{all_pass, each_passes, some_passes, any_passes}
use Rattle.hack_base.proofs.NameLemmas.{from_not_true, from_not_false}
use Rattle.hack_features.proofs.Coverage.{named_in}
use Rattle.hack_features.proofs.Single.{member_of}
use Rattle.hack_base.specs.Names.{Name}
use Rattle.hack_routes.specs.FeatureMap.{FeatureMap, IsKey, Chain, Enables, Reaches, EnablesOneOf}
use Rattle.hack_routes.specs.Search.{edge_of}
use Rattle.hack_features.specs.Deps.{IsDropped}
use Rattle.hack_routes.specs.Places.{name_at, AreAt, AreRoutes, ArePlaced}
use Rattle.hack_routes.specs.declared.reach.Edges.{Edges}
use Rattle.hack_routes.specs.declared.reach.Edges.TheVariants.{Enabling, Reaching}
use Rattle.hack_sets.specs.Sets.{IsSelection, Pairwise}
use Rattle.hack_features.specs.Rules.{Choice, unlifted_groups, names_at, names_in, SparesNames, Spares, IsRedundant, NotBothReach, IsExclusive, Serves, IsRequired, CandidateReaches}
use Rattle.hack_features.specs.Tables.{count_at, is_lean, is_exclusive, is_required}
use Rattle.hack_routes.specs.Rows.{bit, cell, leads}
use Rattle.hack_features.specs.InternalTables.{spares_test, serves_test, Counts, Matched, CountsHits, SaysServers, RowsServe}
use Rattle.hack_features.specs.InternalTables as table

-- names by their places
module _ (edges : Edges) (m : FeatureMap) (names : List Name) (keys : List Bool) (marks : List (List Bool)) (h : AreRoutes edges m names keys marks) where
  -- a name among those at the places has one of them
  pub placed : (ps : List ℕ) (xs : List Name) → AreAt names ps xs → (x : Name) → Contains xs x → (p : ℕ) × Contains ps p × (p < length names) × (name_at names p ≡ x)
  placed ps xs at x c =
      let r = Contains-map_from (name_at names) ps x (subst (λ l. Contains l x) (sym at.same) c) in
      (r.0, r.1, All-contains (λ p. p < length names) ps r.0 at.within r.1, r.2)

  pub shown_at : (ps : List ℕ) (xs : List Name) → AreAt names ps xs → (p : ℕ) → Contains ps p → Contains xs (name_at names p)
  shown_at ps xs at p c = subst (λ l. Contains l (name_at names p)) at.same (Contains-map (name_at names) ps p c)

  pub low_at : (ps : List ℕ) (xs : List Name) → AreAt names ps xs → (p : ℕ) → Contains ps p → p < length names
  low_at ps xs at p c = All-contains (λ p. p < length names) ps p at.within c

  -- a place leads to one of the group where a chain leads from its name to one of the group's
  pub leads_one : (group : List ℕ) (gs : List Name) → AreAt names group gs → (x : ℕ) → x < length names
      → IsTrue (list_any (leads marks x) group) ↔ ((y : Name) × Contains gs y × Chain (edge_of edges m) (name_at names x) y)
  leads_one group gs at x lt = (
    λ t. let j = some_passes (leads marks x) group t in
        (name_at names j.0, shown_at group gs at j.0 j.1, (h.led x j.0 lt (low_at group gs at j.0 j.1)).0 j.2),
    λ w. let j = placed group gs at w.0 w.1 in
        any_passes (leads marks x) group j.0 j.1 ((h.led x j.0 lt j.2).1 (subst (Chain (edge_of edges m) (name_at names x)) (sym j.3) w.2)),
  )

  pub key_of : (x : ℕ) → x < length names → bit keys x ≡ true → IsKey m (name_at names x)
  key_of x lt e = sym (h.keyed x lt) ∙ e

  pub of_key : (x : ℕ) → x < length names → IsKey m (name_at names x) → bit keys x ≡ true
  of_key x lt k = h.keyed x lt ∙ k

  pub differ_at : (x y : ℕ) → x < length names → y < length names → not (x == y) ≡ true → name_at names y ≢ name_at names x
  differ_at x y lx ly e s =
      let same : x ≡ y = h.apart x y lx ly (sym s) in
      elim (eqb_tells x y) [ inl w ↦ (let z : false ≡ true = sym (ap not w.0) ∙ e in cc) | inr w ↦ w.1 same ]

  pub marked_or : (x y : ℕ) → not (x == y) ≡ true → IsTrue (leads marks x y) → cell marks x y ≡ true
  marked_or x y e t = elim (or_cases (x == y) (cell marks x y) t) [ inl w ↦ absurd (let z : false ≡ true = sym (ap not w) ∙ e in cc) | inr w ↦ w ]

  pub not_same : (x y : ℕ) → name_at names y ≢ name_at names x → not (x == y) ≡ true
  not_same x y n = elim (eqb_tells x y) [ inl w ↦ absurd (n (ap (name_at names) (sym w.1))) | inr w ↦ ap not w.0 ]

module _ (m : FeatureMap) (names : List Name) (keys : List Bool) (marks : List (List Bool)) (h : AreRoutes Enabling m names keys marks) where
  spares_one : (x : ℕ) → x < length names → (qs : List ℕ) (ys : List Name) → AreAt names qs ys → IsTrue (list_all (λ y. not (x == y) && cell marks x y) qs) ↔ All (λ y. (y ≢ name_at names x) × Enables m (name_at names x) y) ys
  spares_one x lt qs ys at = (
    λ t k d l.
        let j = placed Enabling m names keys marks h qs ys at (get_or ys k d) (Contains-get_or ys k d l) in
        let w = and_parts (not (x == j.0)) (cell marks x j.0) (each_passes (λ y. not (x == y) && cell marks x y) qs t j.0 j.1) in (
          subst (λ y. y ≢ name_at names x) j.3 (differ_at Enabling m names keys marks h x j.0 lt j.2 w.0),
          subst (Enables m (name_at names x)) j.3 ((h.led x j.0 lt j.2).0 (or_right (x == j.0) (cell marks x j.0) w.1)),
        ),
    λ a. all_pass (λ y. not (x == y) && cell marks x y) qs (λ j c.
        let low = low_at Enabling m names keys marks h qs ys at j c in
        let w = All-contains (λ y. (y ≢ name_at names x) × Enables m (name_at names x) y) ys (name_at names j) a (shown_at Enabling m names keys marks h qs ys at j c) in
        let n = not_same Enabling m names keys marks h x j w.0 in
        and_from (not (x == j)) (cell marks x j) n (marked_or Enabling m names keys marks h x j n ((h.led x j lt low).1 w.1))),
  )

  pub spares_iff : (ps qs : List ℕ) (xs ys : List Name) → AreAt names ps xs → AreAt names qs ys → IsTrue (spares_test keys marks ps qs) ↔ SparesNames m xs ys
  spares_iff ps qs xs ys ap' aq = (
    λ t.
        let x = some_passes (λ x. bit keys x && list_all (λ y. not (x == y) && cell marks x y) qs) ps t in
        let lt = low_at Enabling m names keys marks h ps xs ap' x.0 x.1 in
        let w = and_parts (bit keys x.0) (list_all (λ y. not (x.0 == y) && cell marks x.0 y) qs) x.2 in (
          name_at names x.0,
          shown_at Enabling m names keys marks h ps xs ap' x.0 x.1,
          key_of Enabling m names keys marks h x.0 lt w.0,
          (spares_one x.0 lt qs ys aq).0 w.1,
        ),
    λ s.
        let x = placed Enabling m names keys marks h ps xs ap' s.0 s.1 in
        any_passes (λ x. bit keys x && list_all (λ y. not (x == y) && cell marks x y) qs) ps x.0 x.1
        (and_from (bit keys x.0) (list_all (λ y. not (x.0 == y) && cell marks x.0 y) qs)
        (of_key Enabling m names keys marks h x.0 x.2 (subst (IsKey m) (sym x.3) s.2))
        ((spares_one x.0 x.2 qs ys aq).1 (subst (λ b. All (λ y. (y ≢ b) × Enables m b y) ys) (sym x.3) s.3))),
  )

  pub serves_iff : (group : List ℕ) (gs : List Name) → AreAt names group gs → (x : ℕ) → x < length names → IsTrue (serves_test keys marks group x) ↔ EnablesOneOf m gs (name_at names x)
  serves_iff group gs at x lt = (
    λ t.
        let w = and_parts (bit keys x) (list_any (leads marks x) group) t in
        let y = (leads_one Enabling m names keys marks h group gs at x lt).0 w.1 in
        (key_of Enabling m names keys marks h x lt w.0, y.0, y.1, y.2),
    λ e. and_from (bit keys x) (list_any (leads marks x) group) (of_key Enabling m names keys marks h x lt e.0) ((leads_one Enabling m names keys marks h group gs at x lt).1 (e.1, e.2, e.3)),
  )

  -- the names at places of which one serves the group
  pub some_serve : (group : List ℕ) (gs : List Name) → AreAt names group gs → (ps : List ℕ) (xs : List Name) → AreAt names ps xs
      → IsTrue (list_any (serves_test keys marks group) ps) ↔ ((x : Name) × Contains xs x × EnablesOneOf m gs x)
  some_serve group gs at ps xs ap' = (
    λ t. let x = some_passes (serves_test keys marks group) ps t in
        (name_at names x.0, shown_at Enabling m names keys marks h ps xs ap' x.0 x.1, (serves_iff group gs at x.0 (low_at Enabling m names keys marks h ps xs ap' x.0 x.1)).0 x.2),
    λ w. let x = placed Enabling m names keys marks h ps xs ap' w.0 w.1 in
        any_passes (serves_test keys marks group) ps x.0 x.1 ((serves_iff group gs at x.0 x.2).1 (subst (EnablesOneOf m gs) (sym x.3) w.2)),
  )

  -- where no name in the table serves the group, no key does
  pub is_dropped_by : (group : List ℕ) (gs : List Name) → AreAt names group gs → ((x : ℕ) → x < length names → serves_test keys marks group x ≡ false) → IsDropped m gs
  is_dropped_by group gs at none x e =
      let c = h.known x e.0 in
      let is : name_at names c.0 ≡ x = get_or_default names c.0 [] x c.1 ∙ c.2 in
      let t = (serves_iff group gs at c.0 c.1).1 (subst (EnablesOneOf m gs) (sym is) e) in
      let z : true ≡ false = sym t ∙ none c.0 c.1 in cc

-- names from which no edge leads away spare no candidate that has names
ends_mark-by : (keys : List Bool) (marks : List (List Bool)) (names others : List ℕ) (b : Bool) → spares_test keys marks names others ≡ b → list_all (λ x. length (get_or marks x []) == 0) names ≡ true → others ≢ [] → b ≡ false
ends_mark-by keys marks names others false e ends some = refl
ends_mark-by keys marks names [] true e ends some = absurd (some refl)
ends_mark-by keys marks names (y ∷ others) true e ends some =
    let x = some_passes (λ x. bit keys x && list_all (λ y. not (x == y) && cell marks x y) (y ∷ others)) names e in
    let w = and_parts (bit keys x.0) (list_all (λ y. not (x.0 == y) && cell marks x.0 y) (y ∷ others)) x.2 in
    let v = and_parts (not (x.0 == y)) (cell marks x.0 y) (each_passes (λ y. not (x.0 == y) && cell marks x.0 y) (y ∷ others) w.1 y (Contains-head y others)) in
    let none : get_or marks x.0 [] ≡ [] = nil_from (get_or marks x.0 []) (eqb-true (length (get_or marks x.0 [])) 0 (each_passes (λ x. length (get_or marks x []) == 0) names ends x.0 x.1)) in
    sym v.1 ∙ ap (λ row. bit row y) none

pub spares_nothing : (keys : List Bool) (marks : List (List Bool)) (names others : List ℕ) → list_all (λ x. length (get_or marks x []) == 0) names ≡ true → others ≢ [] → spares_test keys marks names others ≡ false
spares_nothing keys marks names others ends some = ends_mark-by keys marks names others (spares_test keys marks names others) refl ends some

pub list_any-map : {X Y : Type 0} (p : Y → Bool) (h : X → Y) (xs : List X) → list_any p (map h xs) ≡ list_any (λ x. p (h x)) xs
list_any-map p h [] = refl
list_any-map p h (x ∷ xs) = ap (λ b. p (h x) || b) (list_any-map p h xs)

pub has_names : (all : List (List ℕ)) (q : ℕ) → q < length all → list_any (λ names. length names == 0) all ≡ false → get_or all q [] ≢ []
has_names all q lt f e =
    let t = any_passes (λ (names : List ℕ). length names == 0) all (get_or all q []) (Contains-get_or all q [] lt) (ap (λ (names : List ℕ). length names == 0) e) in
    let z : true ≡ false = sym t ∙ f in cc

-- counts

Pairwise-push : {X : Type 0} (R : X → X → Type 0) (xs : List X) (x : X) → Pairwise R xs → All (λ y. R y x) xs → Pairwise R (xs ++ x ∷ [])
Pairwise-push R [] x h a = (All-nil (R x), tt)
Pairwise-push R (y ∷ xs) x h a = (
  All-append (R y) xs (x ∷ []) h.0 (All-cons (R y) x [] (All-head (λ y. R y x) y xs a) (All-nil (R y))),
  Pairwise-push R xs x h.1 (All-tail (λ y. R y x) y xs a),
)

Pairwise-front : {X : Type 0} (R : X → X → Type 0) (xs : List X) (x : X) → Pairwise R (xs ++ x ∷ []) → Pairwise R xs
Pairwise-front R [] x h = tt
Pairwise-front R (y ∷ xs) x h = (
  λ k d lt. All-contains (R y) (xs ++ x ∷ []) (get_or xs k d) h.0 (Contains-append_left xs (x ∷ []) (get_or xs k d) (Contains-get_or xs k d lt)),
  Pairwise-front R xs x h.1,
)

Pairwise-last : {X : Type 0} (R : X → X → Type 0) (xs : List X) (x y : X) → Pairwise R (xs ++ x ∷ []) → Contains xs y → R y x
Pairwise-last R [] x y h c = absurd (Contains-nil y c)
Pairwise-last R (z ∷ xs) x y h c =
    elim (Contains-cons_cases z xs y c) [
      | inl e ↦ subst (λ u. R u x) e (All-contains (R z) (xs ++ x ∷ []) x h.0 (Contains-push xs x))
      | inr w ↦ Pairwise-last R xs x y h.1 w
    ]

counts_none : {X : Type 0} {P : X → Type 0} {xs : List X} {n : ℕ} → Counts P xs n → n ≡ 0 → (x : X) → Contains xs x → P x → ⊥
counts_none table.none e x c p = Contains-nil x c
counts_none (table.one_more h q) e x c p = omega (arith, e)
counts_none {P} (table.no_more {xs} {x} {n} h q) e y c p =
    elim (Contains-push_cases xs x y c) [ inl w ↦ counts_none h e y w p | inr s ↦ q (subst P (sym s) p) ]

counts_some : {X : Type 0} {P : X → Type 0} {xs : List X} {n : ℕ} → Counts P xs n → 0 < n → (x : X) × Contains xs x × P x
counts_some table.none lt = absurd (omega arith)
counts_some (table.one_more {xs} {x} {n} h q) lt = (x, Contains-push xs x, q)
counts_some (table.no_more {xs} {x} {n} h q) lt = let r = counts_some h lt in (r.0, Contains-append_left xs (x ∷ []) r.0 r.1, r.2)

-- not both have the property
abbrev NotBoth : {X : Type 0} → (X → Type 0) → X → X → Type 0
NotBoth P x y = P x → P y → ⊥

counts_few : {X : Type 0} {P : X → Type 0} {xs : List X} {n : ℕ} → Counts P xs n → n ≤ 1 → Pairwise (NotBoth P) xs
counts_few table.none le = tt
counts_few {P} (table.one_more {xs} {x} {n} h q) le =
    Pairwise-push (NotBoth P) xs x (counts_few h (omega arith)) (λ k d lt p. absurd (counts_none h (omega arith) (get_or xs k d) (Contains-get_or xs k d lt) p))
counts_few {P} (table.no_more {xs} {x} {n} h q) le = Pairwise-push (NotBoth P) xs x (counts_few h le) (λ k d lt p. q)

counts_many : {X : Type 0} {P : X → Type 0} {xs : List X} {n : ℕ} → Counts P xs n → 2 ≤ n → Pairwise (NotBoth P) xs → ⊥
counts_many table.none le h = omega arith
counts_many {P} (table.one_more {xs} {x} {n} c q) le h =
    let r = counts_some c (omega arith) in Pairwise-last (NotBoth P) xs x r.0 h r.1 r.2 q
counts_many {P} (table.no_more {xs} {x} {n} c q) le h = counts_many c le (Pairwise-front (NotBoth P) xs x h)

counts-append : {X : Type 0} {P : X → Type 0} (xs : List X) (m : ℕ) {ys : List X} {n : ℕ} → Counts P xs m → Counts P ys n → Counts P (xs ++ ys) (m + n)
counts-append {X} {P} xs m h table.none = subst (λ n. Counts P (xs ++ []) n) (let e : m ≡ m + 0 = omega arith in e) (subst (λ l. Counts P l m) (sym (append-nil xs)) h)
counts-append {X} {P} xs m h (table.one_more {xs = ys} {x} {n} c q) =
    subst (λ k. Counts P (xs ++ (ys ++ x ∷ [])) k) (let e : (m + n) + 1 ≡ m + (n + 1) = omega arith in e)
    (subst (λ l. Counts P l ((m + n) + 1)) (append_assoc xs ys (x ∷ [])) (table.one_more (counts-append xs m h c) q))
counts-append {X} {P} xs m h (table.no_more {xs = ys} {x} {n} c q) =
    subst (λ l. Counts P l (m + n)) (append_assoc xs ys (x ∷ [])) (table.no_more (counts-append xs m h c) q)

counts-members : (P : Name → Type 0) (names : ℕ → List Name) (count : ℕ → ℕ) (n : ℕ) → ((q : ℕ) → q < n → Counts P (names q) (count q)) → (s : List ℕ) → All (λ p. p < n) s → Counts P (flat_map names s) (sum_by count s)
counts-members P names count n h [] low = table.none
counts-members P names count n h (p ∷ s) low =
    subst (λ k. Counts P (names p ++ flat_map names s) k) (sym (sum_by-cons count p s))
    (counts-append (names p) (count p) (h p (All-head (λ p. p < n) p s low)) (counts-members P names count n h s (All-tail (λ p. p < n) p s low)))

counts_one : {X : Type 0} (p : X → Bool) (x : X) (b : Bool) → p x ≡ b → Counts (λ x. IsTrue (p x)) (x ∷ []) (cond b 1 0)
counts_one p x true e = table.one_more table.none e
counts_one p x false e = table.no_more table.none (λ t. let z : true ≡ false = sym t ∙ e in cc)

-- what a test counts
pub counts_by : {X : Type 0} (p : X → Bool) (xs : List X) → Counts (λ x. IsTrue (p x)) xs (count_by p xs)
counts_by p [] = table.none
counts_by p (x ∷ xs) =
    subst (Counts (λ x. IsTrue (p x)) (x ∷ xs)) (sym (sum_by-cons (λ x. cond (p x) 1 0) x xs)) (counts-append (x ∷ []) (cond (p x) 1 0) (counts_one p x (p x) refl) (counts_by p xs))

-- matched lists

matched_left : {X Y : Type 0} {R : X → Y → Type 0} {xs : List X} {ys : List Y} → Matched R xs ys → (x : X) → Contains xs x → (y : Y) × Contains ys y × R x y
matched_left table.nothing x c = absurd (Contains-nil x c)
matched_left {R} (table.next {xs} {ys} {x} {y} h r) z c =
    elim (Contains-push_cases xs x z c) [
      | inl w ↦ let v = matched_left h z w in (v.0, Contains-append_left ys (y ∷ []) v.0 v.1, v.2)
      | inr e ↦ (y, Contains-push ys y, subst (λ u. R u y) e r)
    ]

matched_right : {X Y : Type 0} {R : X → Y → Type 0} {xs : List X} {ys : List Y} → Matched R xs ys → (y : Y) → Contains ys y → (x : X) × Contains xs x × R x y
matched_right table.nothing y c = absurd (Contains-nil y c)
matched_right {R} (table.next {xs} {ys} {x} {y} h r) z c =
    elim (Contains-push_cases ys y z c) [
      | inl w ↦ let v = matched_right h z w in (v.0, Contains-append_left xs (x ∷ []) v.0 v.1, v.2)
      | inr e ↦ (x, Contains-push xs x, subst (λ u. R x u) e r)
    ]

matched_count : {X Y : Type 0} {R : X → Y → Type 0} {xs : List X} {ys : List Y} → Matched R xs ys → length ys ≡ length xs
matched_count table.nothing = refl
matched_count (table.next {xs} {ys} {x} {y} h r) =
    let e = matched_count h in omega (arith, length-append ys (y ∷ []), length-append xs (x ∷ []))

matched_at-by : {X Y : Type 0} (R : X → Y → Type 0) (xs : List X) (ys : List Y) (x : X) (y : Y) (d : X) (f : Y) (k : ℕ) → length ys ≡ length xs → (k < length xs) ⊎ (k ≡ length xs) → R x y → (k < length xs → R (get_or xs k d) (get_or ys k f))
    → R (get_or (xs ++ x ∷ []) k d) (get_or (ys ++ y ∷ []) k f)
matched_at-by R xs ys x y d f k same (inl lt) r before =
    subst (λ u. R u (get_or (ys ++ y ∷ []) k f)) (sym (get_or-append xs (x ∷ []) d k lt))
    (subst (R (get_or xs k d)) (sym (get_or-append ys (y ∷ []) f k (omega arith))) (before lt))
matched_at-by R xs ys x y d f k same (inr e) r before =
    subst (λ u. R u (get_or (ys ++ y ∷ []) k f)) (sym (get_or_push xs x d k (sym e)))
    (subst (R x) (sym (get_or_push ys y f k (omega arith))) r)

matched_at : {X Y : Type 0} {R : X → Y → Type 0} {xs : List X} {ys : List Y} → Matched R xs ys → (d : X) (f : Y) (k : ℕ) → k < length xs → R (get_or xs k d) (get_or ys k f)
matched_at table.nothing d f k lt = absurd (omega arith)
matched_at {R} (table.next {xs} {ys} {x} {y} h r) d f k lt =
    matched_at-by R xs ys x y d f k (matched_count h) (lt_or_same k (length xs) (omega (arith, lt, length-append xs (x ∷ [])))) r (matched_at h d f k)

-- exclusion

few_or_many : (n : ℕ) (b : Bool) → nat_le n 1 ≡ b → (n ≤ 1) ⊎ (2 ≤ n)
few_or_many n true e = inl (leb-true n 1 e)
few_or_many zero false e = absurd (let t : nat_le 0 1 ≡ true = le-leb 0 1 (omega arith) in cc)
few_or_many (suc zero) false e = absurd (let t : nat_le (suc zero) 1 ≡ true = le-leb (suc zero) 1 (omega arith) in cc)
few_or_many (suc (suc n)) false e = inr (omega arith)

pub exclusive_iff : (c : Choice) (rows : List (List ℕ)) → Matched (CountsHits c.map c.candidates) c.exclusive rows → (s : List ℕ) → IsSelection (length c.candidates) s → IsTrue (is_exclusive rows s) ↔ IsExclusive c s
exclusive_iff c rows h s sel =
    let counted : (group : List Name) (row : List ℕ) → CountsHits c.map c.candidates group row → Counts (Reaches c.map group) (names_in c s) (sum_by (count_at row) s) =
    λ group row hits. counts-members (Reaches c.map group) (names_at c) (count_at row) (length c.candidates) hits s sel.below in (
      λ t k d lt.
          let group = get_or c.exclusive k d in
          let row = matched_left h group (Contains-get_or c.exclusive k d lt) in
          counts_few (counted group row.0 row.2) (leb-true (sum_by (count_at row.0) s) 1 (each_passes (λ row. nat_le (sum_by (count_at row) s) 1) rows t row.0 row.1)),
      λ e. all_pass (λ row. nat_le (sum_by (count_at row) s) 1) rows (λ row in'.
          let group = matched_right h row in' in
          elim (few_or_many (sum_by (count_at row) s) (nat_le (sum_by (count_at row) s) 1) refl) [
            | inl le ↦ le-leb (sum_by (count_at row) s) 1 le
            | inr many ↦ absurd (counts_many (counted group.0 row group.2) many
                (All-contains (λ g. Pairwise (NotBothReach c.map g) (names_in c s)) c.exclusive group.0 e group.1))
          ]),
    )

-- there is a row for each exclusion group
pub groups_of_hits : (c : Choice) (rows : List (List ℕ)) → Matched (CountsHits c.map c.candidates) c.exclusive rows → length rows ≡ length c.exclusive
groups_of_hits c rows h = matched_count h

-- a count isn't 0 where the candidate reaches the group
pub reached_iff : (c : Choice) (rows : List (List ℕ)) → Matched (CountsHits c.map c.candidates) c.exclusive rows → (k p : ℕ) → k < length c.exclusive → p < length c.candidates
    → (0 < count_at (get_or rows k []) p) ↔ CandidateReaches c (get_or c.exclusive k []) p
reached_iff c rows h k p lk lp =
    let n : ℕ = count_at (get_or rows k []) p in
    let counts = matched_at h [] [] k lk p lp in (
      λ lt. counts_some counts lt,
      λ r. elim (cases_eq n 0) [ inl e ↦ absurd (counts_none counts e r.0 r.1 r.2) | inr ne ↦ (let other : n ≢ 0 = ne in omega arith) ],
    )

-- what is counted of places is counted of their names
pub counts-map : {X Y : Type 0} (f : X → Y) (P : X → Type 0) (Q : Y → Type 0) {xs : List X} {n : ℕ} → ((x : X) → Contains xs x → P x ↔ Q (f x)) → Counts P xs n → Counts Q (map f xs) n
counts-map f P Q same table.none = table.none
counts-map f P Q same (table.one_more {xs} {x} {n} h p) =
    subst (λ l. Counts Q l (n + 1)) (sym (map-append f xs (x ∷ []))) (table.one_more (counts-map f P Q (λ y c. same y (Contains-append_left xs (x ∷ []) y c)) h) ((same x (Contains-push xs x)).0 p))
counts-map f P Q same (table.no_more {xs} {x} {n} h p) =
    subst (λ l. Counts Q l n) (sym (map-append f xs (x ∷ []))) (table.no_more (counts-map f P Q (λ y c. same y (Contains-append_left xs (x ∷ []) y c)) h) (λ q. p ((same x (Contains-push xs x)).1 q)))

-- a row of counts for a group
pub hits_of : (m : FeatureMap) (candidates groups : List (List Name)) (names : List Name) (keys : List Bool) (marks : List (List Bool)) (all each : List (List ℕ)) → ArePlaced Reaching m candidates groups names keys marks all each
    → (place : ℕ) → place < length groups → (group : List ℕ) → group ≡ get_or each place [] → (row : List ℕ)
    → ((q : ℕ) → q < length all → Counts (λ x. IsTrue (list_any (leads marks x) group)) (get_or all q []) (count_at row q)) → CountsHits m candidates (get_or groups place []) row
hits_of m candidates groups names keys marks all each p place lt group is row h = λ q lq.
    let gs = get_or groups place [] in
    let at = p.candidates_at.each q lq in
    let there : AreAt names group gs = subst (λ g. AreAt names g gs) (sym is) (p.groups_at.each place lt) in
    subst (λ l. Counts (Reaches m gs) l (count_at row q)) at.same
    (counts-map (name_at names) (λ x. IsTrue (list_any (leads marks x) group)) (Reaches m gs)
    (λ x c. leads_one Reaching m names keys marks p.routes group gs there x (All-contains (λ p. p < length names) (get_or all q []) x at.within c))
    (h q (omega (arith, p.candidates_at.count))))

-- ---- at-least-one groups

module _ (m : FeatureMap) (candidates groups : List (List Name)) (names : List Name) (keys : List Bool) (marks : List (List Bool)) (all each : List (List ℕ)) (p : ArePlaced Enabling m candidates groups names keys marks all each)
    (place : ℕ) (lt : place < length groups) (rows : List (List Bool)) where
  there : (group : List ℕ) → get_or each place [] ≡ group → AreAt names group (get_or groups place [])
  there group is = subst (λ g. AreAt names g (get_or groups place [])) is (p.groups_at.each place lt)

  -- the group is served, and a row says by which candidates
  pub rows-kept : (row : List Bool) → RowsServe m candidates (take place groups) rows → (group : List ℕ) → get_or each place [] ≡ group → (x : ℕ) × (x < length names) × IsTrue (serves_test keys marks group x)
      → ((q : ℕ) → q < length all → bit row q ≡ list_any (serves_test keys marks group) (get_or all q [])) → RowsServe m candidates (take (place + 1) groups) (rows ++ row ∷ [])
  rows-kept row h group is x says =
      let at = there group is in
      subst (λ gs. RowsServe m candidates gs (rows ++ row ∷ [])) (sym (take_more groups place [] lt))
      (table.kept_row (get_or groups place []) (name_at names x.0) row h ((serves_iff m names keys marks p.routes group (get_or groups place []) at x.0 x.1).0 x.2)
      (λ q lq.
      let one = some_serve m names keys marks p.routes group (get_or groups place []) at (get_or all q []) (get_or candidates q []) (p.candidates_at.each q lq) in
      let same = says q (omega (arith, p.candidates_at.count)) in
      (λ t. one.0 (sym same ∙ t), λ w. same ∙ one.1 w)))

  -- no key serves the group
  pub rows-dropped : RowsServe m candidates (take place groups) rows → (group : List ℕ) → get_or each place [] ≡ group → ((x : ℕ) → x < length names → serves_test keys marks group x ≡ false) → RowsServe m candidates (take (place + 1) groups) rows
  rows-dropped h group is none =
      subst (λ gs. RowsServe m candidates gs rows) (sym (take_more groups place [] lt))
      (table.dropped_row (get_or groups place []) h (is_dropped_by m names keys marks p.routes group (get_or groups place []) (there group is) none))

rows_left : {m : FeatureMap} {candidates groups : List (List Name)} {rows : List (List Bool)} → RowsServe m candidates groups rows → (group : List Name) → Contains groups group
    → IsDropped m group ⊎ ((row : List Bool) × Contains rows row × SaysServers m candidates group row)
rows_left table.no_rows group c = absurd (Contains-nil group c)
rows_left {m} (table.dropped_row group {groups} {rows} h d) g c =
    elim (Contains-push_cases groups group g c) [ inl w ↦ rows_left h g w | inr e ↦ inl (subst (IsDropped m) e d) ]
rows_left {m} {candidates} (table.kept_row group {groups} {rows} server row h can says) g c =
    elim (Contains-push_cases groups group g c) [
      | inl w ↦ elim (rows_left h g w) [ inl d ↦ inl d | inr v ↦ inr (v.0, Contains-append_left rows (row ∷ []) v.0 v.1, v.2) ]
      | inr e ↦ inr (row, Contains-push rows row, subst (λ u. SaysServers m candidates u row) e says)
    ]

rows_right : {m : FeatureMap} {candidates groups : List (List Name)} {rows : List (List Bool)} → RowsServe m candidates groups rows → (row : List Bool) → Contains rows row
    → (group : List Name) × Contains groups group × SaysServers m candidates group row × ((server : Name) × EnablesOneOf m group server)
rows_right table.no_rows row c = absurd (Contains-nil row c)
rows_right (table.dropped_row group {groups} {rows} h d) row c = let r = rows_right h row c in (r.0, Contains-append_left groups (group ∷ []) r.0 r.1, r.2, r.3)
rows_right {m} {candidates} (table.kept_row group {groups} {rows} server row h can says) other c =
    elim (Contains-push_cases rows row other c) [
      | inl w ↦ let r = rows_right h other w in (r.0, Contains-append_left groups (group ∷ []) r.0 r.1, r.2, r.3)
      | inr e ↦ (group, Contains-push groups group, subst (SaysServers m candidates group) e says, (server, can))
    ]

pub required_iff : (c : Choice) (rows : List (List Bool)) → RowsServe c.map c.candidates c.at_least_one_of rows → (s : List ℕ) → IsSelection (length c.candidates) s → IsTrue (is_required rows s) ↔ IsRequired c s
required_iff c rows serve s sel = (
  λ t k d lt key can.
      let group = get_or c.at_least_one_of k d in
      elim (rows_left serve group (Contains-get_or c.at_least_one_of k d lt)) [
        | inl gone ↦ absurd (gone key can)
        | inr row ↦
            let member = some_passes (bit row.0) s (each_passes (λ row. list_any (bit row) s) rows t row.0 row.1) in
            let low = All-contains (λ p. p < length c.candidates) s member.0 sel.below member.1 in
            let name = (row.2 member.0 low).0 member.2 in
            (name.0, named_in c s member.0 name.0 member.1 name.1, name.2)
      ],
  λ r. all_pass (λ row. list_any (bit row) s) rows (λ row in'.
      let group = rows_right serve row in' in
      let serves : Serves c group.0 s = All-contains (λ group. (key : Name) → EnablesOneOf c.map group key → Serves c group s) c.at_least_one_of group.0 r group.1 group.3.0 group.3.1 in
      let member = member_of c s serves.0 serves.1 in
      let low = All-contains (λ p. p < length c.candidates) s member.0 sel.below member.1 in
      any_passes (bit row) s member.0 member.1 ((group.2 member.0 low).1 (serves.0, member.2, serves.2))),
)

-- lifted groups

unlifted-push : (groups : List (List Name)) (group : List Name) (lifted : List Bool) → unlifted_groups (groups ++ group ∷ []) lifted ≡ unlifted_groups groups lifted ++ cond (bit lifted (length groups)) [] (group ∷ [])
unlifted-push [] group [] = refl
unlifted-push [] group (true ∷ lifted) = refl
unlifted-push [] group (false ∷ lifted) = refl
unlifted-push (g ∷ groups) group [] = ap (λ l. g ∷ l) (unlifted-push groups group [])
unlifted-push (g ∷ groups) group (true ∷ lifted) = unlifted-push groups group lifted
unlifted-push (g ∷ groups) group (false ∷ lifted) = ap (λ l. g ∷ l) (unlifted-push groups group lifted)

pub unlifted-more : (groups : List (List Name)) (k : ℕ) (group : List Name) (lifted : List Bool) → k < length groups → take (k + 1) groups ≡ take k groups ++ group ∷ [] → unlifted_groups (take (k + 1) groups) lifted ≡ unlifted_groups (take k groups) lifted ++ cond (bit lifted k) [] (group ∷ [])
unlifted-more groups k group lifted lt more =
    ap (λ gs. unlifted_groups gs lifted) more ∙ unlifted-push (take k groups) group lifted
    ∙ ap (λ n. unlifted_groups (take k groups) lifted ++ cond (bit lifted n) [] (group ∷ [])) (let e : length (take k groups) ≡ k = omega (arith, length-take k groups) in e)

-- redundancy

-- what a table of which candidate spares which says of redundancy
module _ (c : Choice) (rows : List (List Bool)) (h : (p q : ℕ) → p < length c.candidates → q < length c.candidates → IsTrue (cell rows p q) ↔ Spares c p q) (s : List ℕ) (sel : IsSelection (length c.candidates) s) where
  low : (p : ℕ) → Contains s p → p < length c.candidates
  low p cp = All-contains (λ p. p < length c.candidates) s p sel.below cp

  pub redundant_from : is_lean rows s ≡ false → IsRedundant c s
  redundant_from e =
      let p = some_fails (λ p. list_all (λ q. not (cell rows p q)) s) s e in
      let q = some_fails (λ q. not (cell rows p.0 q)) s p.2 in
      (p.0, q.0, p.1, q.1, (h p.0 q.0 (low p.0 p.1) (low q.0 q.1)).0 (from_not_false q.2))

  pub lean_from : is_lean rows s ≡ true → ¬ IsRedundant c s
  lean_from e r =
      let t : cell rows r.0 r.1 ≡ true = (h r.0 r.1 (low r.0 r.2) (low r.1 r.3)).1 r.4 in
      let f : not (cell rows r.0 r.1) ≡ true = each_passes (λ q. not (cell rows r.0 q)) s (each_passes (λ p. list_all (λ q. not (cell rows p q)) s) s e r.0 r.2) r.1 r.3 in
      let g : cell rows r.0 r.1 ≡ false = from_not_true f in
      let z : true ≡ false = sym t ∙ g in cc

  tell_by : (b : Bool) → is_lean rows s ≡ b → IsRedundant c s ⊎ (¬ IsRedundant c s)
  tell_by true e = inr (lean_from e)
  tell_by false e = inl (redundant_from e)

  pub tell : IsRedundant c s ⊎ (¬ IsRedundant c s)
  tell = tell_by (is_lean rows s) refl

  lean_by : (b : Bool) → is_lean rows s ≡ b → ¬ IsRedundant c s → is_lean rows s ≡ true
  lean_by true e n = e
  lean_by false e n = absurd (n (redundant_from e))

  pub lean_iff : IsTrue (is_lean rows s) ↔ (¬ IsRedundant c s)
  lean_iff = (lean_from, lean_by (is_lean rows s) refl)

-- one more group, lifted or with its row

pub lifted_group : {Y : Type 0} (R : List Name → Y → Type 0) (seen more : List (List Name)) (group : List Name) (b : Bool) (rows : List Y) → more ≡ seen ++ cond b [] (group ∷ []) → b ≡ true → Matched R seen rows → Matched R more rows
lifted_group R seen more group b rows e t h = subst (λ gs. Matched R gs rows) (sym (e ∙ ap (λ b. seen ++ cond b [] (group ∷ [])) t ∙ append-nil seen)) h

pub next_group : {Y : Type 0} (R : List Name → Y → Type 0) (seen more : List (List Name)) (group : List Name) (b : Bool) (rows : List Y) (row : Y) → more ≡ seen ++ cond b [] (group ∷ []) → b ≡ false → Matched R seen rows → R group row → Matched R more (rows ++ row ∷ [])
next_group R seen more group b rows row e t h r = subst (λ gs. Matched R gs (rows ++ row ∷ [])) (sym (e ∙ ap (λ b. seen ++ cond b [] (group ∷ [])) t)) (table.next h r)

-- empty rows

row-none : (rows : List (List Bool)) (p : ℕ) → All (λ (row : List Bool). row ≡ []) rows → get_or rows p [] ≡ []
row-none [] p none = refl
row-none (row ∷ rows) zero none = none 0 [] (omega arith)
row-none (row ∷ rows) (suc p) none = row-none rows p (λ k d lt. none (suc k) d (omega (arith, lt)))

-- where all rows are empty, no candidate spares another
pub lean-bare : (rows : List (List Bool)) → All (λ (row : List Bool). row ≡ []) rows → (s : List ℕ) → is_lean rows s ≡ true
lean-bare rows none s =
    all_pass (λ p. list_all (λ q. not (cell rows p q)) s) s (λ p within.
    all_pass (λ q. not (cell rows p q)) s (λ q within. ap (λ row. not (bit row q)) (row-none rows p none)))
