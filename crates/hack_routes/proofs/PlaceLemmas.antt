-- Names by their places in a table.
use Rattle.std.proofs.Common.{◌↔◌, IsTrue, is_some, String, Vec, string_bytes, ◌≡◌, ◌≢◌, ℕ, ◌<◌, List, [], ◌∷◌, ◌++◌, length, get_or, refl, sym, ◌∙◌, ap, subst, arith, map, Option, Some, None, IfSome, Bool, true, false, cond, suc, inl, inr, All, Contains, length-append, append_assoc, append-nil}
use Rattle.std.specs.List.{IsDistinct, filter_map, cons_option}
use Rattle.std.specs.Borrow.{Bor}
use Rattle.std.specs.BTreeMap.{BTreeMap, is_at}
use Rattle.std.specs.Map.{lookup, update}
use Rattle.std.specs.Str.{bytes_eq}
use Rattle.std.specs.Cmp.Lexicographic.{nat_list_eq_equiv, slice_cmp}
use Rattle.std.specs.Ordering.{nat_cmp}
use Rattle.std.proofs.Math.ListN.{get_or-append}
use Rattle.std.proofs.lemmas.List.{get_or_default, map-append}
use Rattle.std.proofs.lemmas.List.Elements.{All-append, All-cons, All-nil, All-weaker, Contains-get_or}
use Rattle.std.proofs.lemmas.Map.Keys.{IsDistinct-push}
use Rattle.hack_base.proofs.Members.{Contains-head, Contains-tail, Contains-nil, Contains-cons_cases, lt_or_same}
use Rattle.hack_base.proofs.Steps.{filter_map-found, filter_map-missed}
use Rattle.hack_routes.specs.InternalSearch.{target_of}
use Rattle.hack_routes.specs.declared.reach.Edges.{Edges}
use Rattle.hack_base.proofs.NameLemmas.{none_from, same_text, differ}
use Rattle.hack_base.specs.Names.{Name, names_of}
use Rattle.hack_routes.specs.FeatureMap.{IsKey}
use Rattle.hack_routes.specs.NameSets.{get_at}
use Rattle.hack_routes.specs.Places.{name_at, AreAt, AreAllAt}
use Rattle.hack_routes.specs.InternalPlaces.{HasPlaces, targets_of, IsMore}

-- ---- the keys of a map

is_key-step : {V : Type 0} (x k : Name) (ks : List Name) (o : Option V) (v : V) (b : Bool) → bytes_eq x k ≡ b → (IsTrue (is_some o) ↔ Contains ks x) → IsTrue (is_some (cond b (Some v) o)) ↔ Contains (k ∷ ks) x
is_key-step x k ks o v true e h = (λ t. subst (λ n. Contains (n ∷ ks) x) (same_text x k e) (Contains-head x ks), λ c. refl)
is_key-step x k ks o v false e h = (
  λ t. Contains-tail k ks x (h.0 t),
  λ c. elim (Contains-cons_cases k ks x c) [ inl s ↦ absurd (differ x k e (sym s)) | inr w ↦ h.1 w ],
)

pub is_key-entries : {Y Z : Type 0} (x : Name) (es : List (String Y × Vec (String Y) Z)) → IsKey (map (λ e. (string_bytes e.0, names_of e.1.items)) es) x ↔ Contains (names_of (map (λ e. e.0) es)) x
is_key-entries x [] = (λ t. absurd (let z : false ≡ true = t in cc), λ c. absurd (Contains-nil x c))
is_key-entries x (e ∷ es) =
    is_key-step x (string_bytes e.0) (names_of (map (λ e. e.0) es)) (lookup (bytes_eq x) (map (λ e. (string_bytes e.0, names_of e.1.items)) es)) (names_of e.1.items) (bytes_eq x (string_bytes e.0)) refl (is_key-entries x es)

pub places-none : (places : BTreeMap (Bor Name) ℕ) → places.entries ≡ [] → HasPlaces [] places
places-none places e = record {
  found = λ y. let none : List Name = [] in subst (λ es. IfSome (lookup (is_at (λ (b : Bor Name). slice_cmp nat_cmp y b.now)) es) (λ place. (place < length none) × (name_at none place ≡ y))) (sym e) tt;
  kept = λ place lt. absurd (omega arith);
  distinct = unfold IsDistinct in tt;
}

pub place-found : (names : List Name) (places : BTreeMap (Bor Name) ℕ) (y : Name) (place : ℕ) → HasPlaces names places → Some place ≡ get_at places y → (place < length names) × (name_at names place ≡ y)
place-found names places y place h e =
    let w : IfSome (Some place) (λ place. (place < length names) × (name_at names place ≡ y)) = subst (λ o. IfSome o (λ place. (place < length names) × (name_at names place ≡ y))) (sym e) (h.found y) in w

pub place-missing : (names : List Name) (places : BTreeMap (Bor Name) ℕ) (y : Name) → HasPlaces names places → None ≡ get_at places y → ¬ Contains names y
place-missing names places y h e c =
    let is : name_at names c.0 ≡ y = get_or_default names c.0 [] y c.1 ∙ c.2 in
    let k : get_at places y ≡ Some c.0 = subst (λ z. get_at places z ≡ Some c.0) is (h.kept c.0 c.1) in
    let z : None ≡ Some c.0 = e ∙ k in cc

pub placed-there : (names : List Name) (place : ℕ) (x : Name) → place < length names → name_at names place ≡ x → Contains names x
placed-there names place x lt e = subst (Contains names) e (Contains-get_or names place [] lt)

-- a name keeps its place when more names are added at the end
pub name_at-front : (names more : List Name) (place : ℕ) → place < length names → name_at (names ++ more) place ≡ name_at names place
name_at-front names more place lt = get_or-append names more [] place lt

pub name_at-last : (names : List Name) (x : Name) → name_at (names ++ x ∷ []) (length names) ≡ x
name_at-last [] x = refl
name_at-last (y ∷ names) x = name_at-last names x

found-push : (names : List Name) (x y : Name) (old new : Option ℕ) (b : Bool) → bytes_eq x y ≡ b → new ≡ cond b (Some (length names)) old → IfSome old (λ place. (place < length names) × (name_at names place ≡ y))
    → IfSome new (λ place. (place < length (names ++ x ∷ [])) × (name_at (names ++ x ∷ []) place ≡ y))
found-push names x y old new true t e h =
    subst (λ o. IfSome o (λ place. (place < length (names ++ x ∷ [])) × (name_at (names ++ x ∷ []) place ≡ y))) (sym e)
    (omega (arith, length-append names (x ∷ [])), name_at-last names x ∙ same_text x y t)
found-push names x y None new false t e h = subst (λ o. IfSome o (λ place. (place < length (names ++ x ∷ [])) × (name_at (names ++ x ∷ []) place ≡ y))) (sym e) tt
found-push names x y (Some place) new false t e h =
    subst (λ o. IfSome o (λ place. (place < length (names ++ x ∷ [])) × (name_at (names ++ x ∷ []) place ≡ y))) (sym e)
    (omega (arith, length-append names (x ∷ []), h.0), name_at-front names (x ∷ []) place h.0 ∙ h.1)

kept-front : (names : List Name) (x z : Name) (old new : Option ℕ) (place : ℕ) (b : Bool) → bytes_eq x z ≡ b → new ≡ cond b (Some (length names)) old → old ≡ Some place → x ≢ z → new ≡ Some place
kept-front names x z old new place true t e h ne = absurd (ne (same_text x z t))
kept-front names x z old new place false t e h ne = e ∙ h

kept-last : (names : List Name) (x z : Name) (old new : Option ℕ) (b : Bool) → bytes_eq x z ≡ b → new ≡ cond b (Some (length names)) old → x ≡ z → new ≡ Some (length names)
kept-last names x z old new true t e s = e
kept-last names x z old new false t e s = absurd (differ x z t s)

pub places-push : (names : List Name) (x : Name) (old new : BTreeMap (Bor Name) ℕ) → HasPlaces names old → ¬ Contains names x → ((y : Name) → get_at new y ≡ update bytes_eq (get_at old) x (Some (length names)) y) → HasPlaces (names ++ x ∷ []) new
places-push names x old new h n e = record {
  found = λ y. found-push names x y (get_at old y) (get_at new y) (bytes_eq x y) refl (e y) (h.found y);
  kept = λ place lt. elim (lt_or_same place (length names) (omega (arith, length-append names (x ∷ [])))) [
    | inl w ↦
        let z = name_at names place in
        let same : name_at (names ++ x ∷ []) place ≡ z = name_at-front names (x ∷ []) place w in
        subst (λ y. get_at new y ≡ Some place) (sym same)
        (kept-front names x z (get_at old z) (get_at new z) place (bytes_eq x z) refl (e z) (h.kept place w) (λ s. n (subst (Contains names) (sym s) (Contains-get_or names place [] w))))
    | inr w ↦
        let z = name_at (names ++ x ∷ []) (length names) in
        subst (λ p. get_at new (name_at (names ++ x ∷ []) p) ≡ Some p) (sym w)
        (kept-last names x z (get_at old z) (get_at new z) (bytes_eq x z) refl (e z) (sym (name_at-last names x)))
  ];
  distinct = IsDistinct-push nat_list_eq_equiv names x h.distinct (none_from names x n);
}

-- two places of one name are one place
pub one_place : (names : List Name) (places : BTreeMap (Bor Name) ℕ) → HasPlaces names places → (i j : ℕ) → i < length names → j < length names → name_at names i ≡ name_at names j → i ≡ j
one_place names places h i j li lj e =
    let z : Some i ≡ Some j = sym (h.kept i li) ∙ ap (get_at places) e ∙ h.kept j lj in cc

-- ---- rows of places

pub at-nothing : (names : List Name) → AreAt names [] []
at-nothing names = record { within = All-nil (λ place. place < length names); same = refl }

map-front : (names more : List Name) (row : List ℕ) → All (λ place. place < length names) row → map (name_at (names ++ more)) row ≡ map (name_at names) row
map-front names more [] h = refl
map-front names more (p ∷ row) h =
    let e : name_at (names ++ more) p ≡ name_at names p = name_at-front names more p (h 0 p (omega arith)) in
    let t : map (name_at (names ++ more)) row ≡ map (name_at names) row = map-front names more row (λ k d lt. h (suc k) d (omega arith)) in cc

-- places stay those of their names when more names are added at the end
pub at-front : (names more new : List Name) (row : List ℕ) (shown : List Name) → new ≡ names ++ more → AreAt names row shown → AreAt new row shown
at-front names more new row shown e h =
    subst (λ ns. AreAt ns row shown) (sym e)
    (record {
      within = All-weaker (λ place. place < length names) (λ place. place < length (names ++ more)) (λ place lt. omega (arith, length-append names more)) row h.within;
      same = map-front names more row h.within ∙ h.same;
    })

pub at-push : (names : List Name) (row : List ℕ) (shown : List Name) (place : ℕ) (x : Name) → AreAt names row shown → place < length names → name_at names place ≡ x → AreAt names (row ++ place ∷ []) (shown ++ x ∷ [])
at-push names row shown place x h lt e = record {
  within = All-append (λ place. place < length names) row (place ∷ []) h.within (All-cons (λ place. place < length names) place [] lt (All-nil (λ place. place < length names)));
  same = map-append (name_at names) row (place ∷ []) ∙ ap (λ l. l ++ name_at names place ∷ []) h.same ∙ ap (λ y. shown ++ y ∷ []) e;
}

-- ---- what values lead to

filter_map-append-by : {A B : Type 0} (f : A → Option B) (xs ys : List A) (o : Option B) → filter_map f (xs ++ ys) ≡ filter_map f xs ++ filter_map f ys → cons_option o (filter_map f (xs ++ ys)) ≡ cons_option o (filter_map f xs) ++ filter_map f ys
filter_map-append-by f xs ys None e = e
filter_map-append-by f xs ys (Some y) e = ap (λ l. y ∷ l) e

filter_map-append : {A B : Type 0} (f : A → Option B) (xs ys : List A) → filter_map f (xs ++ ys) ≡ filter_map f xs ++ filter_map f ys
filter_map-append f [] ys = refl
filter_map-append f (x ∷ xs) ys = filter_map-append-by f xs ys (f x) (filter_map-append f xs ys)

pub targets-found : (edges : Edges) (values : List Name) (v x : Name) → Some x ≡ target_of edges v → targets_of edges (values ++ v ∷ []) ≡ targets_of edges values ++ x ∷ []
targets-found edges values v x e = filter_map-append (target_of edges) values (v ∷ []) ∙ ap (λ l. targets_of edges values ++ l) (filter_map-found (target_of edges) v x (sym e))

pub targets-missed : (edges : Edges) (values : List Name) (v : Name) → None ≡ target_of edges v → targets_of edges (values ++ v ∷ []) ≡ targets_of edges values
targets-missed edges values v e = filter_map-append (target_of edges) values (v ∷ []) ∙ ap (λ l. targets_of edges values ++ l) (filter_map-missed (target_of edges) v (sym e)) ∙ append-nil (targets_of edges values)

-- ---- tables that grow, and lists of rows

pub more-none : (names : List Name) → IsMore names names
more-none names = ([], sym (append-nil names))

pub more-then : (a b c : List Name) → IsMore a b → IsMore b c → IsMore a c
more-then a b c f g = (f.0 ++ g.0, g.1 ∙ ap (λ l. l ++ g.0) f.1 ∙ append_assoc a f.0 g.0)

pub all_at-nothing : (names : List Name) → AreAllAt names [] []
all_at-nothing names = record { count = refl; each = λ q lt. absurd (omega arith) }

pub all_at-front : (old new : List Name) → IsMore old new → (rows : List (List ℕ)) (groups : List (List Name)) → AreAllAt old rows groups → AreAllAt new rows groups
all_at-front old new more rows groups h = record {
  count = h.count;
  each = λ q lt. at-front old more.0 new (get_or rows q []) (get_or groups q []) more.1 (h.each q lt);
}

last-at : {X : Type 0} (xs : List X) (x d : X) → get_or (xs ++ x ∷ []) (length xs) d ≡ x
last-at [] x d = refl
last-at (y ∷ xs) x d = last-at xs x d

pub all_at-push : (names : List Name) (rows : List (List ℕ)) (groups : List (List Name)) (row : List ℕ) (group : List Name) → AreAllAt names rows groups → AreAt names row group → AreAllAt names (rows ++ row ∷ []) (groups ++ group ∷ [])
all_at-push names rows groups row group h at = record {
  count = omega (arith, length-append rows (row ∷ []), length-append groups (group ∷ []), h.count);
  each = λ q lt. elim (lt_or_same q (length groups) (omega (arith, length-append groups (group ∷ [])))) [
    | inl w ↦
        subst (λ g. AreAt names (get_or (rows ++ row ∷ []) q []) g) (sym (get_or-append groups (group ∷ []) [] q w))
        (subst (λ r. AreAt names r (get_or groups q [])) (sym (get_or-append rows (row ∷ []) [] q (omega (arith, h.count)))) (h.each q w))
    | inr e ↦
        subst (λ g. AreAt names (get_or (rows ++ row ∷ []) q []) g) (sym (ap (λ j. get_or (groups ++ group ∷ []) j []) e ∙ last-at groups group []))
        (subst (λ r. AreAt names r group) (sym (ap (λ j. get_or (rows ++ row ∷ []) j []) (e ∙ sym h.count) ∙ last-at rows row [])) at)
  ];
}
