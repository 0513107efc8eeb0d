-- The search through a feature map: each step, why it ends, and what it has found then.
use Rattle.std.proofs.Common.{IsTrue, ◌≡◌, ◌==◌, ℕ, ◌+◌, ◌<◌, ◌≤◌, List, [], ◌∷◌, ◌++◌, length, get_or, refl, sym, ◌∙◌, ap, subst, arith, map, flat_map, Option, Some, None, Bool, true, false, cond, ◌⊎◌, inl, inr, Contains, unwrap_or, String, Vec, string_bytes, append_assoc, append-nil, length-append, nat_eq, codes}
use Rattle.std.specs.List.{IsDistinct, before_first, starts_with}
use Rattle.std.specs.Option.{option_map, option_map_or}
use Rattle.std.specs.Cmp.Lexicographic.{nat_list_eq_equiv, slice_cmp}
use Rattle.std.specs.Ordering.{nat_cmp, is_eq}
use Rattle.std.proofs.Math.ListN.{get_or-append}
use Rattle.std.proofs.lemmas.List.{get_or_default}
use Rattle.std.specs.BTreeMap.{BTreeMap, get_by_text, is_at}
use Rattle.std.specs.Map.{lookup}
use Rattle.std.specs.Str.{bytes_eq}
use Rattle.std.proofs.lemmas.Map.Text.{is_eq-slice_cmp}
use Rattle.std.proofs.lemmas.Map.Keys.{IsDistinct-push}
use Rattle.std.proofs.lemmas.List.Elements.{Contains-append_left, Contains-append_right, Contains-push, Contains-push_cases}
use Rattle.hack_base.proofs.Members.{Contains-head, Contains-tail, Contains-nil, Contains-map, lt_or_same}
use Rattle.hack_base.proofs.NameLemmas.{none_from, length-le_from_distinct}
use Rattle.hack_base.specs.Names.{Name, names_of}
use Rattle.hack_routes.specs.FeatureMap.{FeatureMap, feature_map, values_at, Chain, here, step}
use Rattle.hack_routes.specs.Search.{edge_of}
use Rattle.hack_routes.specs.InternalSearch.{target_of, IsTarget, Adds, IsReach}
use Rattle.hack_routes.specs.declared.reach.Edges.{Edges}
use Rattle.hack_routes.specs.declared.reach.Edges.TheVariants.{Enabling, Reaching}

-- a chain, with one edge more at its end
pub Chain-snoc : {X : Type 0} {edge : X → X → Type 0} {x y z : X} → Chain edge x y → edge y z → Chain edge x z
Chain-snoc here e = step e here
Chain-snoc (step d c) e = step d (Chain-snoc c e)

-- what holds of the start and is kept by each edge holds of the end
pub Chain-kept : {X : Type 0} {edge : X → X → Type 0} {x y : X} (P : X → Type 0) → ((a b : X) → P a → edge a b → P b) → Chain edge x y → P x → P y
Chain-kept P keeps here h = h
Chain-kept P keeps (step {x} {y} {z} d c) h = Chain-kept P keeps c (keeps x y h d)

-- ---- edges, and the targets of values

enabling_target : (v y : Name) (b : Bool) → starts_with nat_eq v (codes "dep:") ≡ b → cond b None (Some v) ≡ Some y → (v ≡ y) × (¬ IsTrue (starts_with nat_eq v (codes "dep:")))
enabling_target v y true t e = absurd (let z : None ≡ Some y = e in cc)
enabling_target v y false t e = (let z : Some v ≡ Some y = e in cc, λ d. let z : true ≡ false = sym d ∙ t in cc)

no_dependency-step : (v : Name) (b : Bool) → starts_with nat_eq v (codes "dep:") ≡ b → ¬ IsTrue (starts_with nat_eq v (codes "dep:")) → cond b None (Some v) ≡ Some v
no_dependency-step v true t n = absurd (n t)
no_dependency-step v false t n = refl

-- an edge leads from x to the targets of its values, and to no other name
pub edge-from_target : (edges : Edges) (m : FeatureMap) (x y : Name) → IsTarget edges (values_at m x) y → edge_of edges m x y
edge-from_target Enabling m x y t =
    let w = enabling_target t.value y (starts_with nat_eq t.value (codes "dep:")) refl t.leads in
    (subst (λ v. Contains (values_at m x) v) w.0 t.listed, subst (λ v. ¬ IsTrue (starts_with nat_eq v (codes "dep:"))) w.0 w.1)
edge-from_target Reaching m x y t =
    (t.value, t.listed, let e : Some (before_first (λ b. b == 47) t.value) ≡ Some y = t.leads in cc)

pub target-from_edge : (edges : Edges) (m : FeatureMap) (x y : Name) → edge_of edges m x y → IsTarget edges (values_at m x) y
target-from_edge Enabling m x y e = record { value = y; listed = e.0; leads = no_dependency-step y (starts_with nat_eq y (codes "dep:")) refl e.1 }
target-from_edge Reaching m x y e = record { value = e.0; listed = e.1; leads = ap Some e.2 }

-- ---- why the search ends: all that can be found is the start or a target of a value of the map

-- all values of all names
abbrev pub all_values : FeatureMap → List Name
all_values m = flat_map (λ e. e.1) m

value_listed-step : (e : Name × List Name) (m : FeatureMap) (x v : Name) (b : Bool) → Contains (unwrap_or (cond b (Some e.1) (lookup (bytes_eq x) m)) []) v → (Contains (values_at m x) v → Contains (all_values m) v) → Contains (e.1 ++ all_values m) v
value_listed-step e m x v true h rest = Contains-append_left e.1 (all_values m) v h
value_listed-step e m x v false h rest = Contains-append_right e.1 (all_values m) v (rest h)

value_listed : (m : FeatureMap) (x v : Name) → Contains (values_at m x) v → Contains (all_values m) v
value_listed [] x v h = absurd (Contains-nil v h)
value_listed (e ∷ m) x v h = value_listed-step e m x v (bytes_eq x e.0) h (value_listed m x v)

-- what each value leads to
abbrev pub all_targets : FeatureMap → List Name
all_targets m = all_values m ++ map (before_first (λ b. b == 47)) (all_values m)

pub target_listed : (edges : Edges) (m : FeatureMap) (x y : Name) → edge_of edges m x y → Contains (all_targets m) y
target_listed Enabling m x y e = Contains-append_left (all_values m) (map (before_first (λ b. b == 47)) (all_values m)) y (value_listed m x y e.0)
target_listed Reaching m x y e =
    Contains-append_right (all_values m) (map (before_first (λ b. b == 47)) (all_values m)) y
    (subst (λ z. Contains (map (before_first (λ b. b == 47)) (all_values m)) z) e.2 (Contains-map (before_first (λ b. b == 47)) (all_values m) e.0 (value_listed m x e.0 e.1)))

reach_listed : (edges : Edges) (m : FeatureMap) (x y : Name) → Chain (edge_of edges m) x y → Contains (x ∷ all_targets m) y
reach_listed edges m x y c =
    Chain-kept (λ a. Contains (x ∷ all_targets m) a) (λ a b h e. Contains-tail x (all_targets m) b (target_listed edges m a b e)) c (Contains-head x (all_targets m))

-- ---- what one step adds

pub adds-none : (P : Name → Type 0) (old : List Name) → ((y : Name) → P y → Contains old y) → Adds P old old
adds-none P old h = record {
  kept = ([], sym (append-nil old));
  added = h;
  only = λ v k. inl k;
  distinct = λ k. k;
}

pub adds-one : (old : List Name) (x : Name) → ¬ Contains old x → Adds (λ y. x ≡ y) old (old ++ x ∷ [])
adds-one old x n = record {
  kept = (x ∷ [], refl);
  added = λ y e. subst (λ u. Contains (old ++ x ∷ []) u) e (Contains-push old x);
  only = λ y k. Contains-push_cases old x y k;
  distinct = λ d. IsDistinct-push nat_list_eq_equiv old x d (none_from old x n);
}

pub adds-there : (old : List Name) (x : Name) → Contains old x → Adds (λ y. x ≡ y) old old
adds-there old x h = adds-none (λ y. x ≡ y) old (λ y e. subst (λ u. Contains old u) e h)

-- one step after another
pub adds-then : (P Q R : Name → Type 0) (a b c : List Name) → ((y : Name) → R y → P y ⊎ Q y) → ((y : Name) → P y → R y) → ((y : Name) → Q y → R y) → Adds P a b → Adds Q b c → Adds R a c
adds-then P Q R a b c split p q f g =
    let keep : (y : Name) → Contains b y → Contains c y = λ y k. subst (λ l. Contains l y) (sym g.kept.1) (Contains-append_left b g.kept.0 y k) in
    record {
      kept = (f.kept.0 ++ g.kept.0, g.kept.1 ∙ ap (λ l. l ++ g.kept.0) f.kept.1 ∙ append_assoc a f.kept.0 g.kept.0);
      added = λ y r. elim (split y r) [ inl w ↦ keep y (f.added y w) | inr w ↦ g.added y w ];
      only = λ y k. elim (g.only y k) [
        | inl w ↦ elim (f.only y w) [ inl v ↦ inl v | inr v ↦ inr (p y v) ]
        | inr w ↦ inr (q y w)
      ];
      distinct = λ d. g.distinct (f.distinct d);
    }

target-more-left : (edges : Edges) (values : List Name) (v y : Name) → IsTarget edges values y → IsTarget edges (values ++ v ∷ []) y
target-more-left edges values v y t = record { value = t.value; listed = Contains-append_left values (v ∷ []) t.value t.listed; leads = t.leads }

target-last : (edges : Edges) (values : List Name) (v y : Name) → target_of edges v ≡ Some y → IsTarget edges (values ++ v ∷ []) y
target-last edges values v y e = record { value = v; listed = Contains-push values v; leads = e }

target-more_cases : (edges : Edges) (values : List Name) (v y : Name) → IsTarget edges (values ++ v ∷ []) y → IsTarget edges values y ⊎ (target_of edges v ≡ Some y)
target-more_cases edges values v y t = elim (Contains-push_cases values v t.value t.listed) [
  | inl w ↦ inl (record { value = t.value; listed = w; leads = t.leads })
  | inr e ↦ inr (ap (target_of edges) e ∙ t.leads)
]

pub adds-no_targets : (edges : Edges) (old : List Name) → Adds (IsTarget edges []) old old
adds-no_targets edges old = adds-none (IsTarget edges []) old (λ y t. absurd (Contains-nil t.value t.listed))

-- a value that leads to a name
pub adds-target : (edges : Edges) (values : List Name) (v x : Name) (a b c : List Name) → Adds (IsTarget edges values) a b → Some x ≡ target_of edges v → Adds (λ y. x ≡ y) b c → Adds (IsTarget edges (values ++ v ∷ [])) a c
adds-target edges values v x a b c f e g =
    adds-then (IsTarget edges values) (λ y. x ≡ y) (IsTarget edges (values ++ v ∷ [])) a b c
    (λ y t. elim (target-more_cases edges values v y t) [ inl w ↦ inl w | inr s ↦ inr (let z : Some x ≡ Some y = e ∙ s in cc) ])
    (λ y t. target-more-left edges values v y t)
    (λ y s. target-last edges values v y (sym e ∙ ap Some s))
    f g

-- a value that leads nowhere
pub adds-no_target : (edges : Edges) (values : List Name) (v : Name) (a b : List Name) → Adds (IsTarget edges values) a b → None ≡ target_of edges v → Adds (IsTarget edges (values ++ v ∷ [])) a b
adds-no_target edges values v a b f e = record {
  kept = f.kept;
  added = λ y t. elim (target-more_cases edges values v y t) [ inl w ↦ f.added y w | inr s ↦ absurd (let z : None ≡ Some y = e ∙ s in cc) ];
  only = λ y k. elim (f.only y k) [ inl w ↦ inl w | inr w ↦ inr (target-more-left edges values v y w) ];
  distinct = f.distinct;
}

-- ---- the search

-- the names found, of which those before next have been looked at
pub record Searching (edge : Name → Name → Type 0) (root : Name) (found : List Name) (next : ℕ) : Type 0 where
  pub start : Contains found root
  pub sound : (y : Name) → Contains found y → Chain edge root y
  pub closed : (j : ℕ) (x : Name) → j < next → x ≡ get_or found j x → (v : Name) → edge x v → Contains found v
  pub distinct : IsDistinct bytes_eq found
  pub within : next ≤ length found

pub searching-start : (edge : Name → Name → Type 0) (root : Name) (found : List Name) → Adds (λ y. root ≡ y) [] found → Searching edge root found 0
searching-start edge root found a = record {
  start = a.added root refl;
  sound = λ y k. elim (a.only y k) [ inl w ↦ absurd (Contains-nil y w) | inr e ↦ subst (λ z. Chain edge root z) e here ];
  closed = λ j x lt. absurd (omega arith);
  distinct = a.distinct (unfold IsDistinct in tt);
  within = omega arith;
}

pub searching-next : (edge : Name → Name → Type 0) (root : Name) (found new : List Name) (next : ℕ) (x : Name) → Searching edge root found next → next < length found → x ≡ get_or found next x → Adds (edge x) found new → Searching edge root new (next + 1)
searching-next edge root found new next x h lt e a =
    let keep : (y : Name) → Contains found y → Contains new y = λ y c. subst (λ l. Contains l y) (sym a.kept.1) (Contains-append_left found a.kept.0 y c) in
    let at_front : (j : ℕ) (z : Name) → j < length found → get_or new j z ≡ get_or found j z = λ j z in'. ap (λ l. get_or l j z) a.kept.1 ∙ get_or-append found a.kept.0 z j in' in
    let at_next : (j : ℕ) (z : Name) → j ≡ next → z ≡ get_or new j z → z ≡ x = λ j z same ez. ez ∙ at_front j z (omega arith) ∙ ap (λ i. get_or found i z) same ∙ get_or_default found next z x lt ∙ sym e in
    record {
      start = keep root h.start;
      sound = λ y c. elim (a.only y c) [ inl w ↦ h.sound y w | inr w ↦ Chain-snoc (h.sound x (next, lt, sym e)) w ];
      closed = λ j z in' ez v d. elim (lt_or_same j next in') [
        | inl w ↦ keep v (h.closed j z w (ez ∙ at_front j z (omega arith)) v d)
        | inr w ↦ a.added v (subst (λ y. edge y v) (at_next j z w ez) d)
      ];
      distinct = a.distinct h.distinct;
      within = omega (arith, ap length a.kept.1, length-append found a.kept.0);
    }

pub searching-bound : (edges : Edges) (m : FeatureMap) (root : Name) (found : List Name) (next : ℕ) → Searching (edge_of edges m) root found next → length found ≤ length (root ∷ all_targets m)
searching-bound edges m root found next h = length-le_from_distinct found (root ∷ all_targets m) h.distinct (λ q c. reach_listed edges m root q (h.sound q c))

pub searching-end : (edge : Name → Name → Type 0) (root : Name) (found : List Name) (next : ℕ) → Searching edge root found next → length found ≤ next → IsReach edge root found
searching-end edge root found next h all = record {
  exact = λ y. (h.sound y, λ c. Chain-kept (λ a. Contains found a) (λ a b w e. h.closed w.0 a (omega (arith, w.1)) (sym w.2) b e) c h.start);
  distinct = h.distinct;
}

-- what the values of a name add is what its edges lead to
pub adds-edges : (edges : Edges) (m : FeatureMap) (x : Name) (old new : List Name) → Adds (IsTarget edges (values_at m x)) old new → Adds (edge_of edges m x) old new
adds-edges edges m x old new a = record {
  kept = a.kept;
  added = λ y e. a.added y (target-from_edge edges m x y e);
  only = λ y k. elim (a.only y k) [ inl w ↦ inl w | inr w ↦ inr (edge-from_target edges m x y w) ];
  distinct = a.distinct;
}

-- ---- what a map of texts has at a name

map-cond : {Y Z : Type 0} (b : Bool) (v : Vec (String Y) Z) (o : Option (Vec (String Y) Z)) → cond b (Some (names_of v.items)) (option_map (λ vs. names_of vs.items) o) ≡ option_map (λ vs. names_of vs.items) (cond b (Some v) o)
map-cond true v o = refl
map-cond false v o = refl

or-map : {Y Z : Type 0} (o : Option (Vec (String Y) Z)) → unwrap_or (option_map (λ vs. names_of vs.items) o) [] ≡ option_map_or (λ vs. names_of vs.items) o []
or-map None = refl
or-map (Some v) = refl

pub lookup-feature_map : {Y Z : Type 0} (x : Name) (es : List (String Y × Vec (String Y) Z)) → lookup (bytes_eq x) (map (λ e. (string_bytes e.0, names_of e.1.items)) es) ≡ option_map (λ vs. names_of vs.items) (lookup (is_at (λ k. slice_cmp nat_cmp x (string_bytes k))) es)
lookup-feature_map x [] = refl
lookup-feature_map {Y} {Z} x (e ∷ es) =
    ap (λ r. cond (bytes_eq x (string_bytes e.0)) (Some (names_of e.1.items)) r) (lookup-feature_map x es)
    ∙ ap (λ b. cond b (Some (names_of e.1.items)) (option_map (λ vs. names_of vs.items) (lookup (is_at (λ k. slice_cmp nat_cmp x (string_bytes k))) es))) (sym (is_eq-slice_cmp x (string_bytes e.0)))
    ∙ map-cond (is_eq (slice_cmp nat_cmp x (string_bytes e.0))) e.1 (lookup (is_at (λ k. slice_cmp nat_cmp x (string_bytes k))) es)

values_at-get : {Y Z : Type 0} (m : BTreeMap (String Y) (Vec (String Y) Z)) (x : Name) → values_at (feature_map m) x ≡ option_map_or (λ vs. names_of vs.items) (get_by_text m x) []
values_at-get m x = ap (λ o. unwrap_or o []) (lookup-feature_map x m.entries) ∙ or-map (get_by_text m x)

-- the values at a name, from what `get` answers
pub values_at-Some : {Y Z : Type 0} (m : BTreeMap (String Y) (Vec (String Y) Z)) (x : Name) (vs : Vec (String Y) Z) → Some vs ≡ get_by_text m x → values_at (feature_map m) x ≡ names_of vs.items
values_at-Some m x vs e = values_at-get m x ∙ ap (λ o. option_map_or (λ vs. names_of vs.items) o []) (sym e)

pub values_at-None : {Y Z : Type 0} (m : BTreeMap (String Y) (Vec (String Y) Z)) (x : Name) → None ≡ get_by_text m x → values_at (feature_map m) x ≡ []
values_at-None m x e = values_at-get m x ∙ ap (λ o. option_map_or (λ vs. names_of vs.items) o []) (sym e)
