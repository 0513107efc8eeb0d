-- Links between the names of a table: how their rows are made, and what chains of them say of the map.
use Rattle.std.proofs.Common.{◌≡◌, ℕ, ◌+◌, ◌<◌, ◌≤◌, List, [], ◌∷◌, ◌++◌, length, get_or, refl, sym, ◌∙◌, ap, subst, arith, map, Option, Some, None, is_some, Bool, false, inl, inr, ◌↔◌, IsTrue, All, Contains, length-append, append_assoc, append-nil, String, Vec}
use Rattle.std.specs.List.{filter_map, cons_option}
use Rattle.std.specs.Option.{option_map}
use Rattle.std.specs.BTreeMap.{BTreeMap, get_by_text}
use Rattle.std.specs.Map.{lookup}
use Rattle.std.specs.Str.{bytes_eq}
use Rattle.std.specs.Borrow.{Bor}
use Rattle.std.proofs.Math.ListN.{get_or-append}
use Rattle.std.proofs.lemmas.List.Elements.{Contains-append_left, Contains-append_right, Contains-get_or, All-contains}
use Rattle.std.proofs.lemmas.List.{get_or_default}
use Rattle.hack_base.proofs.Members.{Contains-nil, Contains-cons_cases, Contains-head, Contains-tail, lt_or_same, Contains-map, Contains-map_from}
use Rattle.hack_base.proofs.NameLemmas.{length-le_from_distinct}
use Rattle.hack_routes.proofs.ReachLemmas.{all_targets, target_listed, lookup-feature_map, edge-from_target, target-from_edge}
use Rattle.hack_routes.proofs.PlaceLemmas.{name_at-front, at-front, one_place}
use Rattle.hack_base.specs.Names.{Name, names_of}
use Rattle.hack_routes.specs.FeatureMap.{FeatureMap, feature_map, values_at, IsKey, Chain, here, step}
use Rattle.hack_routes.specs.Search.{edge_of}
use Rattle.hack_routes.specs.InternalSearch.{target_of, IsTarget, Adds}
use Rattle.hack_routes.specs.Rows.{bit, leads}
use Rattle.hack_routes.specs.Places.{name_at, AreAt, AreRoutes}
use Rattle.hack_routes.specs.InternalPlaces.{targets_of, HasPlaces, AreRows, IsGrown, Leads}
use Rattle.hack_routes.specs.declared.reach.Edges.{Edges}

-- ---- the values that a filter keeps

filter_map_from-go : {A B : Type 0} (f : A → Option B) (x : A) (xs : List A) (y : B) (o : Option B) → f x ≡ o → Contains (cons_option o (filter_map f xs)) y
    → (Contains (filter_map f xs) y → (z : A) × Contains xs z × (f z ≡ Some y)) → (z : A) × Contains (x ∷ xs) z × (f z ≡ Some y)
filter_map_from-go f x xs y None e c again = let r = again c in (r.0, Contains-tail x xs r.0 r.1, r.2)
filter_map_from-go f x xs y (Some v) e c again =
    elim (Contains-cons_cases v (filter_map f xs) y c) [
      | inl s ↦ (x, Contains-head x xs, e ∙ ap Some s)
      | inr w ↦ let r = again w in (r.0, Contains-tail x xs r.0 r.1, r.2)
    ]

pub filter_map_from : {A B : Type 0} (f : A → Option B) (xs : List A) (y : B) → Contains (filter_map f xs) y → (x : A) × Contains xs x × (f x ≡ Some y)
filter_map_from f [] y c = absurd (Contains-nil y c)
filter_map_from f (x ∷ xs) y c = filter_map_from-go f x xs y (f x) refl c (filter_map_from f xs y)

filter_map_has-go : {B : Type 0} (o : Option B) (ys : List B) (y : B) → Contains ys y → Contains (cons_option o ys) y
filter_map_has-go None ys y c = c
filter_map_has-go (Some v) ys y c = Contains-tail v ys y c

pub filter_map_has : {A B : Type 0} (f : A → Option B) (xs : List A) (x : A) (y : B) → Contains xs x → f x ≡ Some y → Contains (filter_map f xs) y
filter_map_has f [] x y c e = absurd (Contains-nil x c)
filter_map_has f (z ∷ xs) x y c e =
    elim (Contains-cons_cases z xs x c) [
      | inl s ↦ subst (λ o. Contains (cons_option o (filter_map f xs)) y) (sym (ap f s ∙ e)) (Contains-head y (filter_map f xs))
      | inr w ↦ filter_map_has-go (f z) (filter_map f xs) y (filter_map_has f xs x y w e)
    ]

pub at_last : {X : Type 0} (xs : List X) (x d : X) → get_or (xs ++ x ∷ []) (length xs) d ≡ x
at_last [] x d = refl
at_last (y ∷ xs) x d = at_last xs x d

is_some-map : {A B : Type 0} (f : A → B) (o : Option A) → is_some (option_map f o) ≡ is_some o
is_some-map f None = refl
is_some-map f (Some a) = refl

-- a name is a key of what the map says where the map has it
pub key_at : {Y Z : Type 0} (m : BTreeMap (String Y) (Vec (String Y) Z)) (x : Name) → is_some (get_by_text m x) ≡ is_some (lookup (bytes_eq x) (feature_map m))
key_at {Y} {Z} m x = sym (ap is_some (lookup-feature_map x m.entries) ∙ is_some-map (λ (vs : Vec (String Y) Z). names_of vs.items) (get_by_text m x))

-- one more row
pub rows-next : (edges : Edges) (m : FeatureMap) (old new more : List Name) → new ≡ old ++ more → (keys : List Bool) (rows : List (List ℕ)) (x : Name) (row : List ℕ) (key : Bool) → AreRows edges m old keys rows
    → length rows < length old → x ≡ name_at old (length rows) → AreAt new row (targets_of edges (values_at m x)) → key ≡ is_some (lookup (bytes_eq x) m) → AreRows edges m new (keys ++ key ∷ []) (rows ++ row ∷ [])
rows-next edges m old new more e keys rows x row key h lt at made is =
    let named : (k : ℕ) → k < length old → name_at old k ≡ name_at new k = λ k in'. sym (ap (λ ns. name_at ns k) e ∙ name_at-front old more k in') in
    let here' : x ≡ name_at new (length rows) = at ∙ named (length rows) lt in
    let more_rows : length (rows ++ row ∷ []) ≡ length rows + 1 = length-append rows (row ∷ []) in
    record {
      keyed = λ k in'. elim (lt_or_same k (length rows) (omega arith)) [
        | inl w ↦ get_or-append keys (key ∷ []) false k (omega (arith, h.level)) ∙ h.keyed k w ∙ ap (λ y. is_some (lookup (bytes_eq y) m)) (named k (omega arith))
        | inr w ↦
            let same : k ≡ length keys = omega (arith, h.level) in
            ap (λ j. bit (keys ++ key ∷ []) j) same ∙ at_last keys key false ∙ is ∙ ap (λ y. is_some (lookup (bytes_eq y) m)) (here' ∙ ap (name_at new) (sym w))
      ];
      led = λ k in'. elim (lt_or_same k (length rows) (omega arith)) [
        | inl w ↦
            subst (λ r. AreAt new r (targets_of edges (values_at m (name_at new k)))) (sym (get_or-append rows (row ∷ []) [] k w))
            (subst (λ y. AreAt new (get_or rows k []) (targets_of edges (values_at m y))) (named k (omega arith))
            (at-front old more new (get_or rows k []) (targets_of edges (values_at m (name_at old k))) e (h.led k w)))
        | inr w ↦
            subst (λ r. AreAt new r (targets_of edges (values_at m (name_at new k)))) (sym (ap (λ j. get_or (rows ++ row ∷ []) j []) w ∙ at_last rows row []))
            (subst (λ y. AreAt new row (targets_of edges (values_at m y))) (here' ∙ ap (name_at new) (sym w)) made)
      ];
      level = omega (arith, length-append keys (key ∷ []), more_rows, h.level);
    }

pub rows-none : (edges : Edges) (m : FeatureMap) (names : List Name) → AreRows edges m names [] []
rows-none edges m names = record { keyed = λ k lt. absurd (omega arith); led = λ k lt. absurd (omega arith); level = refl }

-- ---- how the table grows

pub grown-none : (edges : Edges) (m : FeatureMap) (names : List Name) → IsGrown edges m names names
grown-none edges m names = record { kept = ([], sym (append-nil names)); only = λ y c. inl c }

pub grown-then : (edges : Edges) (m : FeatureMap) (a b c : List Name) → IsGrown edges m a b → IsGrown edges m b c → IsGrown edges m a c
grown-then edges m a b c f g = record {
  kept = (f.kept.0 ++ g.kept.0, g.kept.1 ∙ ap (λ l. l ++ g.kept.0) f.kept.1 ∙ append_assoc a f.kept.0 g.kept.0);
  only = λ y h. elim (g.only y h) [ inl w ↦ f.only y w | inr w ↦ inr w ];
}

pub grown-targets : (edges : Edges) (m : FeatureMap) (x : Name) (old new : List Name) → Adds (IsTarget edges (values_at m x)) old new → IsGrown edges m old new
grown-targets edges m x old new a = record {
  kept = a.kept;
  only = λ y c. elim (a.only y c) [ inl w ↦ inl w | inr t ↦ inr (x, edge-from_target edges m x y t) ];
}

-- the names are not more than those at the start and the targets of the map's values
pub grown-bound : (edges : Edges) (m : FeatureMap) (old new : List Name) (places : BTreeMap (Bor Name) ℕ) → IsGrown edges m old new → HasPlaces new places → length new ≤ length (old ++ all_targets m)
grown-bound edges m old new places g h = length-le_from_distinct new (old ++ all_targets m) h.distinct (λ y c. elim (g.only y c) [
  | inl w ↦ Contains-append_left old (all_targets m) y w
  | inr w ↦ Contains-append_right old (all_targets m) y (target_listed edges m w.0 y w.1)
])

-- ---- chains of links, and chains of edges

module _ (edges : Edges) (m : FeatureMap) (names : List Name) (keys : List Bool) (rows : List (List ℕ)) (h : AreRows edges m names keys rows) (all : length rows ≡ length names) where
  edge_link : (k : ℕ) (y : Name) → k < length names → edge_of edges m (name_at names k) y → (j : ℕ) × Leads rows k j × (j < length names) × (name_at names j ≡ y)
  edge_link k y lt e =
      let t = target-from_edge edges m (name_at names k) y e in
      let at = h.led k (omega arith) in
      let c : Contains (map (name_at names) (get_or rows k [])) y = subst (λ l. Contains l y) (sym at.same) (filter_map_has (target_of edges) (values_at m (name_at names k)) t.value y t.listed t.leads) in
      let j = Contains-map_from (name_at names) (get_or rows k []) y c in
      (j.0, j.1, All-contains (λ place. place < length names) (get_or rows k []) j.0 at.within j.1, j.2)

  link_edge : (k j : ℕ) → k < length names → Leads rows k j → (j < length names) × edge_of edges m (name_at names k) (name_at names j)
  link_edge k j lt c =
      let at = h.led k (omega arith) in
      let y = name_at names j in
      let t = filter_map_from (target_of edges) (values_at m (name_at names k)) y (subst (λ l. Contains l y) at.same (Contains-map (name_at names) (get_or rows k []) j c)) in (
        All-contains (λ place. place < length names) (get_or rows k []) j at.within c,
        edge-from_target edges m (name_at names k) y (record { value = t.0; listed = t.1; leads = t.2 }),
      )

  pub chain_down : {x y : Name} → Chain (edge_of edges m) x y → (i : ℕ) → i < length names → name_at names i ≡ x → (j : ℕ) × (j < length names) × (name_at names j ≡ y) × Chain (Leads rows) i j
  chain_down here i lt e = (i, lt, e, here)
  chain_down (step {x} {y = z} {z = y} d c) i lt e =
      let l = edge_link i z lt (subst (λ n. edge_of edges m n z) (sym e) d) in
      let r = chain_down c l.0 l.2 l.3 in
      (r.0, r.1, r.2, step l.1 r.3)

  pub chain_up : {i j : ℕ} → Chain (Leads rows) i j → i < length names → (j < length names) × Chain (edge_of edges m) (name_at names i) (name_at names j)
  chain_up here lt = (lt, here)
  chain_up (step {x = i} {y = k} {z = j} d c) lt =
      let l = link_edge i k lt d in
      let r = chain_up c l.0 in
      (r.0, step l.1 r.1)

  -- rows lead nowhere but into the table
  pub rows_inside : All (All (λ place. place < length rows)) rows
  rows_inside = λ k d lt.
      let at : All (λ place. place < length names) (get_or rows k []) = (h.led k lt).within in
      subst (λ n. All (λ place. place < n) (get_or rows k d)) (sym all) (subst (All (λ place. place < length names)) (get_or_default rows k [] d lt) at)

  pub routes_from : (places : BTreeMap (Bor Name) ℕ) → HasPlaces names places → ((x : Name) → IsKey m x → Contains names x) → (marks : List (List Bool))
      → ((i j : ℕ) → i < length rows → IsTrue (leads marks i j) ↔ Chain (Leads rows) i j) → AreRoutes edges m names keys marks
  routes_from places step' known marks told = record {
    known = known;
    closed = λ i y lt c. let d = chain_down c i lt refl in subst (Contains names) d.2 (Contains-get_or names d.0 [] d.1);
    apart = one_place names places step';
    keyed = λ k lt. h.keyed k (omega arith);
    led = λ i j li lj. (
      λ t. (chain_up ((told i j (omega arith)).0 t) li).1,
      λ c. let d = chain_down c i li refl in
          (told i j (omega arith)).1 (subst (Chain (Leads rows) i) (one_place names places step' d.0 j d.1 lj d.2) d.3),
    );
  }
