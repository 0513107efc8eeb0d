-- What a feature map says is decidable, so a proof of what is only known to hold can be found.
use Rattle.std.proofs.Common.{◌≡◌, ◌≢◌, ℕ, zero, suc, ◌+◌, ◌<◌, ◌≤◌, List, [], ◌∷◌, ◌++◌, length, get_or, refl, sym, ◌∙◌, subst, arith, Option, Some, None, is_some, Bool, true, false, IsTrue, ◌⊎◌, inl, inr, All, Contains, append_assoc, append-nil, map}
use Rattle.std.specs.List.{list_any}
use Rattle.std.specs.Map.{lookup}
use Rattle.std.specs.Str.{bytes_eq}
use Rattle.std.specs.Cmp.Lexicographic.{nat_list_eq_equiv}
use Rattle.std.proofs.Math.Logic.{∥∥₁_map, ∥∥₁_elim}
use Rattle.std.proofs.lemmas.Bool.{cases_lt, cases_eq}
use Rattle.std.proofs.lemmas.List.{get_or_default}
use Rattle.std.proofs.lemmas.List.Elements.{All-head, All-tail, All-nil, All-cons}
use Rattle.std.proofs.lemmas.Map.Views.{list_any-from_Contains, Contains-from_any}
use Rattle.hack_base.proofs.Members.{Contains-nil, Contains-cons_cases, Contains-head, Contains-tail}
use Rattle.hack_base.proofs.NameLemmas.{same_text, differ}
use Rattle.hack_routes.proofs.ReachLemmas.{all_targets, adds-one, adds-there, adds-target, adds-no_target, adds-no_targets, adds-edges, Searching, searching-start, searching-next, searching-bound, searching-end}
use Rattle.hack_base.specs.Names.{Name}
use Rattle.hack_routes.specs.FeatureMap.{FeatureMap, values_at, IsKey, Chain, Enables, EnablesOneOf, Reaches}
use Rattle.hack_routes.specs.Search.{edge_of}
use Rattle.hack_routes.specs.InternalSearch.{target_of, IsTarget, Adds, IsReach}
use Rattle.hack_routes.specs.Places.{name_at, AreAt, AreAllAt, AreRoutes, ArePlaced}
use Rattle.hack_sets.specs.Sets.{Pairwise}
use Rattle.hack_features.specs.Rules.{Choice, names_at, names_in, SparesNames, NotBothReach, Serves, CandidateReaches}
use Rattle.hack_features.specs.Tables.{AreTables, is_exclusive, is_required, count_at}
use Rattle.hack_routes.specs.Rows.{cell, bit, leads}
use Rattle.hack_routes.specs.declared.reach.Edges.{Edges}
use Rattle.hack_routes.specs.declared.reach.Edges.TheVariants.{Enabling, Reaching}

-- P holds, or it doesn't
abbrev pub Told : Type 0 → Type 0
Told P = P ⊎ (¬ P)

pub bool_told : (b : Bool) → Told (IsTrue b)
bool_told true = inl refl
bool_told false = inr (λ e. let z : false ≡ true = e in cc)

pub both_told : {P Q : Type 0} → Told P → Told Q → Told (P × Q)
both_told (inl p) (inl q) = inl (p, q)
both_told (inl p) (inr n) = inr (λ w. n w.1)
both_told (inr n) q = inr (λ w. n w.0)

pub not_told : {P : Type 0} → Told P → Told (¬ P)
not_told (inl p) = inr (λ n. n p)
not_told (inr n) = inl n

-- one of the elements has the property
abbrev pub Among : {X : Type 0} → (X → Type 0) → List X → Type 0
Among {X} P xs = (x : X) × Contains xs x × P x

among_step : {X : Type 0} (P : X → Type 0) (x : X) (xs : List X) → Told (P x) → Told (Among P xs) → Told (Among P (x ∷ xs))
among_step P x xs (inl p) rest = inl (x, Contains-head x xs, p)
among_step P x xs (inr n) (inl w) = inl (w.0, Contains-tail x xs w.0 w.1, w.2)
among_step P x xs (inr n) (inr m) = inr (λ w. elim (Contains-cons_cases x xs w.0 w.1) [
  | inl e ↦ n (subst P (sym e) w.2)
  | inr c ↦ m (w.0, c, w.2)
])

pub among_told : {X : Type 0} (P : X → Type 0) → ((x : X) → Told (P x)) → (xs : List X) → Told (Among P xs)
among_told P tell [] = inr (λ w. Contains-nil w.0 w.1)
among_told P tell (x ∷ xs) = among_step P x xs (tell x) (among_told P tell xs)

all_step : {X : Type 0} (P : X → Type 0) (x : X) (xs : List X) → Told (P x) → Told (All P xs) → Told (All P (x ∷ xs))
all_step P x xs (inl p) (inl a) = inl (All-cons P x xs p a)
all_step P x xs (inl p) (inr n) = inr (λ a. n (All-tail P x xs a))
all_step P x xs (inr n) a = inr (λ a. n (All-head P x xs a))

pub all_told : {X : Type 0} (P : X → Type 0) → ((x : X) → Told (P x)) → (xs : List X) → Told (All P xs)
all_told P tell [] = inl (All-nil P)
all_told P tell (x ∷ xs) = all_step P x xs (tell x) (all_told P tell xs)

same_by : (x y : Name) (b : Bool) → bytes_eq x y ≡ b → Told (x ≡ y)
same_by x y true e = inl (same_text x y e)
same_by x y false e = inr (differ x y e)

pub same_told : (x y : Name) → Told (x ≡ y)
same_told x y = same_by x y (bytes_eq x y) refl

member_by : (names : List Name) (y : Name) (b : Bool) → list_any (bytes_eq y) names ≡ b → Told (Contains names y)
member_by names y true e = inl (Contains-from_any same_text y names e)
member_by names y false e = inr (λ c. let z : true ≡ false = sym (list_any-from_Contains nat_list_eq_equiv y names c) ∙ e in cc)

pub member_told : (names : List Name) (y : Name) → Told (Contains names y)
member_told names y = member_by names y (list_any (bytes_eq y) names) refl

-- ---- what a chain of edges leads to, by a search

-- what is found once the name is in it
with_name : (found : List Name) (x : Name) → Told (Contains found x) → (new : List Name) × Adds (λ y. x ≡ y) found new
with_name found x (inl c) = (found, adds-there found x c)
with_name found x (inr n) = (found ++ x ∷ [], adds-one found x n)

with_targets-by : (edges : Edges) (done rest : List Name) (v : Name) (a b : List Name) (t : Option Name) → target_of edges v ≡ t → Adds (IsTarget edges done) a b
    → ((c : List Name) → Adds (IsTarget edges (done ++ v ∷ [])) a c → (all : List Name) × Adds (IsTarget edges ((done ++ v ∷ []) ++ rest)) a all)
    → (all : List Name) × Adds (IsTarget edges (done ++ (v ∷ rest))) a all
with_targets-by edges done rest v a b None e h again =
    let r = again b (adds-no_target edges done v a b h (sym e)) in
    (r.0, subst (λ l. Adds (IsTarget edges l) a r.0) (append_assoc done (v ∷ []) rest) r.1)
with_targets-by edges done rest v a b (Some x) e h again =
    let w = with_name b x (member_told b x) in
    let r = again w.0 (adds-target edges done v x a b w.0 h (sym e) w.1) in
    (r.0, subst (λ l. Adds (IsTarget edges l) a r.0) (append_assoc done (v ∷ []) rest) r.1)

-- what is found once the values' targets are in it
with_targets : (edges : Edges) (done rest : List Name) (a b : List Name) → Adds (IsTarget edges done) a b → (all : List Name) × Adds (IsTarget edges (done ++ rest)) a all
with_targets edges done [] a b h = (b, subst (λ l. Adds (IsTarget edges l) a b) (sym (append-nil done)) h)
with_targets edges done (v ∷ rest) a b h =
    with_targets-by edges done rest v a b (target_of edges v) refl h (λ c k. with_targets edges (done ++ v ∷ []) rest a c k)

search_on-by : (fuel : ℕ) (edges : Edges) (m : FeatureMap) (root : Name) (found : List Name) (next : ℕ) → Searching (edge_of edges m) root found next → (next < length found) ⊎ (length found ≤ next)
    → ((new : List Name) → Searching (edge_of edges m) root new (next + 1) → (all : List Name) × IsReach (edge_of edges m) root all) → (all : List Name) × IsReach (edge_of edges m) root all
search_on-by fuel edges m root found next h (inl lt) again =
    let x = get_or found next [] in
    let w = with_targets edges [] (values_at m x) found found (adds-no_targets edges found) in
    again w.0 (searching-next (edge_of edges m) root found w.0 next x h lt (get_or_default found next [] x lt) (adds-edges edges m x found w.0 w.1))
search_on-by fuel edges m root found next h (inr le) again = (found, searching-end (edge_of edges m) root found next h le)

search_on : (fuel : ℕ) (edges : Edges) (m : FeatureMap) (root : Name) (found : List Name) (next : ℕ) → Searching (edge_of edges m) root found next → length (root ∷ all_targets m) ≤ fuel + next → (all : List Name) × IsReach (edge_of edges m) root all
search_on zero edges m root found next h room = (found, searching-end (edge_of edges m) root found next h (omega (arith, searching-bound edges m root found next h)))
search_on (suc fuel) edges m root found next h room =
    search_on-by fuel edges m root found next h (cases_lt next (length found)) (λ new k. search_on fuel edges m root new (next + 1) k (omega arith))

-- all names that a chain of edges leads to
pub reached : (edges : Edges) (m : FeatureMap) (root : Name) → (all : List Name) × IsReach (edge_of edges m) root all
reached edges m root =
    search_on (length (root ∷ all_targets m)) edges m root (root ∷ []) 0
    (searching-start (edge_of edges m) root (root ∷ []) (adds-one [] root (Contains-nil root))) (omega arith)

pub chain_told : (edges : Edges) (m : FeatureMap) (x y : Name) → Told (Chain (edge_of edges m) x y)
chain_told edges m x y =
    let r = reached edges m x in
    elim (member_told r.0 y) [ inl c ↦ inl ((r.1.exact y).0 c) | inr n ↦ inr (λ c. n ((r.1.exact y).1 c)) ]

pub enables_told : (m : FeatureMap) (x y : Name) → Told (Enables m x y)
enables_told m x y = chain_told Enabling m x y

pub key_told : (m : FeatureMap) (x : Name) → Told (IsKey m x)
key_told m x = bool_told (is_some (lookup (bytes_eq x) m))

-- ---- which candidate spares which, and which names serve a group

spares_told : (m : FeatureMap) (names others : List Name) → Told (SparesNames m names others)
spares_told m names others =
    let test : Name → Type 0 = λ by. IsKey m by × All (λ y. (y ≢ by) × Enables m by y) others in
    let t : Told (Among test names) = among_told test (λ by. both_told (key_told m by) (all_told (λ y. (y ≢ by) × Enables m by y) (λ y. both_told (not_told (same_told y by)) (enables_told m by y)) others)) names in
    elim t [
      | inl w ↦ inl (w.0, w.1, w.2.0, w.2.1)
      | inr n ↦ inr (λ s. n (s.0, s.1, (s.2, s.3)))
    ]

enables_one_told : (m : FeatureMap) (group : List Name) (x : Name) → Told (EnablesOneOf m group x)
enables_one_told m group x =
    elim (both_told (key_told m x) (among_told (λ y. Enables m x y) (λ y. enables_told m x y) group)) [
      | inl w ↦ inl (w.0, w.1.0, w.1.1, w.1.2)
      | inr n ↦ inr (λ e. n (e.0, (e.1, e.2, e.3)))
    ]

serves_told : (c : Choice) (group : List Name) (s : List ℕ) → Told (Serves c group s)
serves_told c group s =
    among_told (λ x. EnablesOneOf c.map group x) (λ x. enables_one_told c.map group x) (names_in c s)

pub reaches_told : (c : Choice) (group : List Name) (p : ℕ) → Told (CandidateReaches c group p)
reaches_told c group p =
    among_told (λ x. Reaches c.map group x) (λ x. among_told (λ y. Chain (edge_of Reaching c.map) x y) (λ y. chain_told Reaching c.map x y) group) (names_at c p)

-- ---- what is only known to hold

never : IsProp ⊥
never a b = absurd a

pub had : {P : Type 0} → Told P → ∥ P ∥₁ → P
had (inl p) h = p
had (inr n) h = absurd (∥∥₁_elim h never n)

had_true : (b : Bool) → ∥ IsTrue b ∥₁ → IsTrue b
had_true b h = had (bool_told b) h

number_told : (i j : ℕ) → Told (i ≡ j)
number_told i j = cases_eq i j

low_told : (i n : ℕ) → Told (i < n)
low_told i n = elim (cases_lt i n) [ inl lt ↦ inl lt | inr le ↦ inr (λ lt. omega arith) ]

truth_told-by : (a b : Bool) → Told (a ≡ b)
truth_told-by true true = inl refl
truth_told-by true false = inr (λ e. cc)
truth_told-by false true = inr (λ e. cc)
truth_told-by false false = inl refl

cons_told : (x y : Name) (xs ys : List Name) → Told (x ≡ y) → Told (xs ≡ ys) → Told (x ∷ xs ≡ y ∷ ys)
cons_told x y xs ys (inl e) (inl f) = inl (cc)
cons_told x y xs ys (inl e) (inr n) = inr (λ s. n (cc))
cons_told x y xs ys (inr n) t = inr (λ s. n (cc))

names_told : (xs ys : List Name) → Told (xs ≡ ys)
names_told [] [] = inl refl
names_told [] (y ∷ ys) = inr (λ e. cc)
names_told (x ∷ xs) [] = inr (λ e. cc)
names_told (x ∷ xs) (y ∷ ys) = cons_told x y xs ys (same_told x y) (names_told xs ys)

at_had : (names : List Name) (places : List ℕ) (shown : List Name) → ∥ AreAt names places shown ∥₁ → AreAt names places shown
at_had names places shown h = record {
  within = had (all_told (λ place. place < length names) (λ place. low_told place (length names)) places) (∥∥₁_map h (λ a. a.within));
  same = had (names_told (map (name_at names) places) shown) (∥∥₁_map h (λ a. a.same));
}

all_at_had : (names : List Name) (rows : List (List ℕ)) (groups : List (List Name)) → ∥ AreAllAt names rows groups ∥₁ → AreAllAt names rows groups
all_at_had names rows groups h = record {
  count = had (number_told (length rows) (length groups)) (∥∥₁_map h (λ a. a.count));
  each = λ q lt. at_had names (get_or rows q []) (get_or groups q []) (∥∥₁_map h (λ a. a.each q lt));
}

routes_had : (edges : Edges) (m : FeatureMap) (names : List Name) (keys : List Bool) (marks : List (List Bool)) → ∥ AreRoutes edges m names keys marks ∥₁ → AreRoutes edges m names keys marks
routes_had edges m names keys marks h = record {
  known = λ x k. had (member_told names x) (∥∥₁_map h (λ a. a.known x k));
  closed = λ i y lt c. had (member_told names y) (∥∥₁_map h (λ a. a.closed i y lt c));
  apart = λ i j li lj e. had (number_told i j) (∥∥₁_map h (λ a. a.apart i j li lj e));
  keyed = λ k lt. had (truth_told-by (bit keys k) (is_some (lookup (bytes_eq (name_at names k)) m))) (∥∥₁_map h (λ a. a.keyed k lt));
  led = λ i j li lj. (
    λ t. had (chain_told edges m (name_at names i) (name_at names j)) (∥∥₁_map h (λ a. (a.led i j li lj).0 t)),
    λ c. had_true (leads marks i j) (∥∥₁_map h (λ a. (a.led i j li lj).1 c)),
  );
}

pub are_placed : (edges : Edges) (m : FeatureMap) (candidates groups : List (List Name)) (names : List Name) (keys : List Bool) (marks : List (List Bool)) (all each : List (List ℕ))
    → ∥ ArePlaced edges m candidates groups names keys marks all each ∥₁ → ArePlaced edges m candidates groups names keys marks all each
are_placed edges m candidates groups names keys marks all each h = record {
  routes = routes_had edges m names keys marks (∥∥₁_map h (λ a. a.routes));
  candidates_at = all_at_had names all candidates (∥∥₁_map h (λ a. a.candidates_at));
  groups_at = all_at_had names each groups (∥∥₁_map h (λ a. a.groups_at));
}

pairwise_had : (m : FeatureMap) (group : List Name) (names : List Name) → ∥ Pairwise (NotBothReach m group) names ∥₁ → Pairwise (NotBothReach m group) names
pairwise_had m group [] h = tt
pairwise_had m group (x ∷ names) h = (λ k d lt a b. ∥∥₁_elim h never (λ w. w.0 k d lt a b), pairwise_had m group names (∥∥₁_map h (λ w. w.1)))

pub are_tables : (c : Choice) (spares : List (List Bool)) (hits : List (List ℕ)) (serves : List (List Bool)) → ∥ AreTables c spares hits serves ∥₁ → AreTables c spares hits serves
are_tables c spares hits serves h = record {
  spared = λ p q lp lq. (
    λ t. had (spares_told c.map (names_at c p) (names_at c q)) (∥∥₁_map h (λ a. (a.spared p q lp lq).0 t)),
    λ s. had_true (cell spares p q) (∥∥₁_map h (λ a. (a.spared p q lp lq).1 s)),
  );
  exclusive = λ s sel. (
    λ t k d lt. pairwise_had c.map (get_or c.exclusive k d) (names_in c s) (∥∥₁_map h (λ a. (a.exclusive s sel).0 t k d lt)),
    λ e. had_true (is_exclusive hits s) (∥∥₁_map h (λ a. (a.exclusive s sel).1 e)),
  );
  required = λ s sel. (
    λ t k d lt key can. had (serves_told c (get_or c.at_least_one_of k d) s) (∥∥₁_map h (λ a. (a.required s sel).0 t k d lt key can)),
    λ r. had_true (is_required serves s) (∥∥₁_map h (λ a. (a.required s sel).1 r)),
  );
  groups = had (number_told (length hits) (length c.exclusive)) (∥∥₁_map h (λ a. a.groups));
  reached = λ k p lk lp. (
    λ lt. had (reaches_told c (get_or c.exclusive k []) p) (∥∥₁_map h (λ a. (a.reached k p lk lp).0 lt)),
    λ r. had (low_told 0 (count_at (get_or hits k []) p)) (∥∥₁_map h (λ a. (a.reached k p lk lp).1 r)),
  );
}
