-- Ids that are read are places of packages.
use Rattle.std.proofs.Common.{◌≡◌, ◌==◌, ◌&&◌, not, ℕ, zero, suc, ◌+◌, ◌<◌, nat_lt, Bool, true, false, cond, List, [], ◌∷◌, map, length, get_or, Option, Some, None, Ok, Err, Ordering, Less, Equal, Greater, option_and_then, nat_cmp, codes, arith, refl, sym, ap, subst, ◌∙◌}
use Rattle.std.specs.List.{list_all, filter}
use Rattle.std.specs.Option.{ok_or, option_or}
use Rattle.std.specs.Str.{bytes_eq}
use Rattle.std.specs.Ordering.{match_ordering}
use Rattle.std.specs.BTreeMap.{insert_entry}
use Rattle.std.specs.Prelude.{nat_le}
use Rattle.std.proofs.lemmas.List.{length-map}
use Rattle.std.proofs.lemmas.Bool.Decides.{nat_tests}
use Rattle.serde_json.specs.Data.{Data, Items, no_items, item, Members}
use Rattle.serde_json.specs.Find.{as_str, as_object}
use Rattle.hack_base.specs.Names.{Name}
use Rattle.hack_metadata.specs.Fields.{string_in, array_in, nullable_in, read_all}
use Rattle.hack_base.specs.FieldReadings.{◌>>=◌, FieldReading}
use Rattle.hack_metadata.specs.KnownIds.{is_known_node, are_known}
use Rattle.hack_metadata.specs.Internal.{Bounds}
use Rattle.hack_metadata.proofs.IdLemmas.{place_from, place_of-from}
use Rattle.hack_metadata.specs.MetadataReading.{place_of, distinct, read_member, workspace_members_in, read_from, read_kind, read_node_dep, read_node, with_nodes, read_resolve}
use Rattle.hack_metadata.specs.Records.{PackageRecord, NodeDepRecord, Nodes}
use Rattle.hack_metadata.specs.RecordViews.{package_view, place_at}
use Rattle.hack_metadata.specs.declared.metadata.package.Package.{Package}
use Rattle.hack_metadata.specs.declared.metadata.resolve.PackageId.{PackageId}

-- two readings, one after the other, succeeded, the second with the value of the first
pub record Behind {A B : Type 0} (r : FieldReading A) (g : A → FieldReading B) (y : B) : Type 0 where
  pub value : A
  pub read : r ≡ Ok value
  pub then : g value ≡ Ok y

behind : {A B : Type 0} (r : FieldReading A) (g : A → FieldReading B) (y : B) → (r >>= g) ≡ Ok y → Behind r g y
behind (Ok x) g y e = record { value = x; read = refl; then = e }
behind (Err name) g y e = absurd (cc)

named-some : {A : Type 0} (key : Name) (o : Option A) (x : A) → ok_or o key ≡ Ok x → o ≡ Some x
named-some key None x e = absurd (cc)
named-some key (Some y) x e = let q : y ≡ x = cc in ap Some q

and-intro : (a b : Bool) → a ≡ true → b ≡ true → (a && b) ≡ true
and-intro a b p q = ap (λ x. x && b) p ∙ q

and-first : (a b : Bool) → (a && b) ≡ true → a ≡ true
and-first true b e = refl
and-first false b e = e

and-second : (a b : Bool) → (a && b) ≡ true → b ≡ true
and-second true b e = e
and-second false b e = absurd (cc)

-- what holds of each item that is read holds of all
all-read : {A : Type 0} (f : Data → FieldReading A) (p : A → Bool) → ((d : Data) (x : A) → f d ≡ Ok x → p x ≡ true) → (ds : Items) (xs : List A) → read_all f ds ≡ Ok xs → list_all p xs ≡ true
all-read f p h no_items xs e = ap (list_all p) (let q : xs ≡ [] = cc in q)
all-read f p h (item d ds) xs e =
    let first = behind (f d) _ xs e in
    let rest = behind (read_all f ds) _ xs first.then in
    let same : xs ≡ first.value ∷ rest.value = (let q : Ok (first.value ∷ rest.value) ≡ Ok xs = rest.then in cc) in
    ap (list_all p) same ∙ and-intro (p first.value) (list_all p rest.value) (h d first.value first.read) (all-read f p h ds rest.value rest.read)

kept-go : (b : Bool) (p : ℕ → Bool) (x : ℕ) (xs : List ℕ) → p x ≡ true → list_all p xs ≡ true → list_all p (cond b (x ∷ xs) xs) ≡ true
kept-go true p x xs here rest = and-intro (p x) (list_all p xs) here rest
kept-go false p x xs here rest = rest

all-filter : (p q : ℕ → Bool) (xs : List ℕ) → list_all p xs ≡ true → list_all p (filter q xs) ≡ true
all-filter p q [] h = h
all-filter p q (x ∷ xs) h = kept-go (q x) p x (filter q xs) (and-first (p x) (list_all p xs) h) (all-filter p q xs (and-second (p x) (list_all p xs) h))

all-distinct : (p : ℕ → Bool) (xs : List ℕ) → list_all p xs ≡ true → list_all p (distinct ◌==◌ xs) ≡ true
all-distinct p [] h = h
all-distinct p (x ∷ xs) h =
    and-intro (p x) _ (and-first (p x) (list_all p xs) h) (all-filter p (λ y. not (y == x)) (distinct ◌==◌ xs) (all-distinct p xs (and-second (p x) (list_all p xs) h)))

below-go : (first : Option ℕ) (b : Bool) (k0 n k : ℕ) → ((j : ℕ) → first ≡ Some j → j < (k0 + 1) + n) → option_or first (cond b (Some k0) None) ≡ Some k → k < k0 + suc n
below-go (Some j) b k0 n k h e = let q : j ≡ k = cc in let l = h j refl in omega (arith, l, q)
below-go None true k0 n k h e = let q : k0 ≡ k = cc in omega (arith, q)
below-go None false k0 n k h e = absurd (cc)

place-below : (k0 : ℕ) (ids : List Name) (id : Name) (k : ℕ) → place_from k0 ids id ≡ Some k → k < k0 + length ids
place-below k0 [] id k e = absurd (cc)
place-below k0 (x ∷ ids) id k e = below-go (place_from (k0 + 1) ids id) (bytes_eq x id) k0 (length ids) k (λ j q. place-below (k0 + 1) ids id j q) e

pub place-bounds : (packages : List PackageRecord) → Bounds (place_of packages) (length packages)
place-bounds packages id k e =
    let l = place-below 0 (map (λ (p : PackageRecord). p.id) packages) id k (sym (place_of-from packages id) ∙ e) in
    let many : length (map (λ (p : PackageRecord). p.id) packages) ≡ length packages = length-map packages (λ (p : PackageRecord). p.id) in
    grind (arith, nat_tests, l, many)

module _ (place : Name → Option ℕ) (n : ℕ) (bounds : Bounds place n) where
  text-place : (o : Option Name) (k : ℕ) → option_and_then place o ≡ Some k → nat_lt k n ≡ true
  text-place None k e = absurd (cc)
  text-place (Some id) k e = bounds id k e

  member-known : (d : Data) (k : ℕ) → read_member place d ≡ Ok k → nat_lt k n ≡ true
  member-known d k e = text-place (as_str d) k (named-some (codes "workspace_members") _ k e)

  pub members-known : (ms : Members) (xs : List ℕ) → workspace_members_in place ms ≡ Ok xs → list_all (λ m. nat_lt m n) xs ≡ true
  members-known ms xs e =
      let all = behind (array_in (codes "workspace_members") ms >>= read_all (read_member place)) _ xs e in
      let list = behind (array_in (codes "workspace_members") ms) _ all.value all.read in
      let same : xs ≡ distinct ◌==◌ all.value = (let q : Ok (distinct ◌==◌ all.value) ≡ Ok xs = all.then in cc) in
      ap (list_all (λ m. nat_lt m n)) same ∙ all-distinct (λ m. nat_lt m n) all.value (all-read (read_member place) (λ m. nat_lt m n) member-known list.value all.value list.then)

  module _ (minor : ℕ) where
    dep-known : (d : Data) (r : NodeDepRecord) → read_node_dep place minor d ≡ Ok r → nat_lt r.pkg n ≡ true
    dep-known d r e =
        let ms = behind (ok_or (as_object d) (codes "deps")) _ r e in
        let id = behind (string_in (codes "pkg") ms.value) _ r ms.then in
        let pkg = behind (ok_or (place id.value) (codes "pkg")) _ r id.then in
        let kinds = behind (read_from 41 minor [] (array_in (codes "dep_kinds") ms.value >>= read_all read_kind)) _ r pkg.then in
        let same : pkg.value ≡ r.pkg = (let q : Ok (record { pkg = pkg.value; dep_kinds = kinds.value }) ≡ Ok r = kinds.then in cc) in
        subst (λ k. nat_lt k n ≡ true) same (bounds id.value pkg.value (named-some (codes "pkg") (place id.value) pkg.value pkg.read))

    deps-go : (b : Bool) (ms : Members) (deps : List NodeDepRecord) → let read : FieldReading (List NodeDepRecord) = cond b (array_in (codes "deps") ms >>= read_all (read_node_dep place minor)) (Ok []) in read ≡ Ok deps → list_all (λ d. nat_lt d.pkg n) deps ≡ true
    deps-go true ms deps e =
        let list = behind (array_in (codes "deps") ms) _ deps e in
        all-read (read_node_dep place minor) (λ d. nat_lt d.pkg n) dep-known list.value deps list.then
    deps-go false ms deps e = ap (list_all (λ d. nat_lt d.pkg n)) (let q : deps ≡ [] = cc in q)

    abbrev known_entry : ℕ × List NodeDepRecord → Bool
    known_entry e = nat_lt e.0 n && is_known_node n e.1

    node-known : (d : Data) (e : ℕ × List NodeDepRecord) → read_node place minor d ≡ Ok e → known_entry e ≡ true
    node-known d r e =
        let ms = behind (ok_or (as_object d) (codes "nodes")) _ r e in
        let id = behind (string_in (codes "id") ms.value) _ r ms.then in
        let deps = behind (read_from 30 minor [] (array_in (codes "deps") ms.value >>= read_all (read_node_dep place minor))) _ r id.then in
        let at = behind (ok_or (place id.value) (codes "id")) _ r deps.then in
        let same : (at.value, deps.value) ≡ r = (let q : Ok (at.value, deps.value) ≡ Ok r = at.then in cc) in
        subst (λ x. known_entry x ≡ true) same
        (and-intro (nat_lt at.value n) _ (bounds id.value at.value (named-some (codes "id") (place id.value) at.value at.read)) (deps-go (nat_le 30 minor) ms.value deps.value deps.read))

    insert-go : (o : Ordering) (e : ℕ × List NodeDepRecord) (es inserted : Nodes) (k : ℕ) (v : List NodeDepRecord) → known_entry (k, v) ≡ true → list_all known_entry (e ∷ es) ≡ true → list_all known_entry inserted ≡ true
        → list_all known_entry (match_ordering o ((k, v) ∷ e ∷ es) ((e.0, v) ∷ es) (e ∷ inserted)) ≡ true
    insert-go Less e es inserted k v new old rest = and-intro (known_entry (k, v)) _ new old
    insert-go Equal e es inserted k v new old rest =
        and-intro (known_entry (e.0, v)) _ (and-intro (nat_lt e.0 n) _ (and-first (nat_lt e.0 n) _ (and-first (known_entry e) _ old)) (and-second (nat_lt k n) _ new)) (and-second (known_entry e) _ old)
    insert-go Greater e es inserted k v new old rest = and-intro (known_entry e) _ (and-first (known_entry e) _ old) rest

    insert-known : (es : Nodes) (k : ℕ) (v : List NodeDepRecord) → known_entry (k, v) ≡ true → list_all known_entry es ≡ true → list_all known_entry (insert_entry nat_cmp es k v) ≡ true
    insert-known [] k v new old = and-intro (known_entry (k, v)) true new refl
    insert-known (e ∷ es) k v new old = insert-go (nat_cmp k e.0) e es (insert_entry nat_cmp es k v) k v new old (insert-known es k v new (and-second (known_entry e) _ old))

    with-known : (more nodes : Nodes) → list_all known_entry more ≡ true → list_all known_entry nodes ≡ true → list_all known_entry (with_nodes nodes more) ≡ true
    with-known [] nodes new old = old
    with-known (e ∷ more) nodes new old =
        with-known more (insert_entry nat_cmp nodes e.0 e.1) (and-second (known_entry e) _ new) (insert-known nodes e.0 e.1 (and-first (known_entry e) _ new) old)

    resolve-go : (o : Option Data) (nodes : Nodes) → read_resolve place minor o ≡ Ok nodes → list_all known_entry nodes ≡ true
    resolve-go None nodes e = ap (list_all known_entry) (let q : nodes ≡ [] = cc in q)
    resolve-go (Some d) nodes e =
        let ms = behind (ok_or (as_object d) (codes "resolve")) _ nodes e in
        let list = behind (array_in (codes "nodes") ms.value) _ nodes ms.then in
        let all = behind (read_all (read_node place minor) list.value) _ nodes list.then in
        let same : with_nodes [] all.value ≡ nodes = (let q : Ok (with_nodes [] all.value) ≡ Ok nodes = all.then in cc) in
        subst (λ x. list_all known_entry x ≡ true) same (with-known all.value [] (all-read (read_node place minor) known_entry node-known list.value all.value all.read) refl)

    pub nodes-known : (ms : Members) (nodes : Nodes) → (nullable_in (codes "resolve") ms >>= read_resolve place minor) ≡ Ok nodes → list_all known_entry nodes ≡ true
    nodes-known ms nodes e = let o = behind (nullable_in (codes "resolve") ms) _ nodes e in resolve-go o.value nodes o.then

    pub all-known : (ms ms' : Members) (members : List ℕ) (nodes : Nodes) → workspace_members_in place ms ≡ Ok members → (nullable_in (codes "resolve") ms' >>= read_resolve place minor) ≡ Ok nodes → are_known n members nodes ≡ true
    all-known ms ms' members nodes e h = and-intro _ _ (members-known ms members e) (nodes-known ms' nodes h)

-- the place that an id means is below the number of packages
pub packages-bounds : (packages : List Package) (place : Name → Option ℕ) → place ≡ place_of (map package_view packages) → Bounds place (length packages)
packages-bounds packages place same =
    let many : length (map package_view packages) ≡ length packages = length-map packages package_view in
    subst (λ n. Bounds place n) many (subst (λ f. Bounds f (length (map package_view packages))) (sym same) (place-bounds (map package_view packages)))

below-at : (n : ℕ) (ids : List PackageId) (k : ℕ) (d : PackageId) → list_all (λ m. nat_lt m n) (map place_at ids) ≡ true → k < length ids → (get_or ids k d).index < n
below-at n [] k d h lt = absurd (omega arith)
below-at n (id ∷ ids) zero d h lt = let l = and-first (nat_lt id.index n) _ h in grind (arith, nat_tests, l)
below-at n (id ∷ ids) (suc k) d h lt = below-at n ids k d (and-second (nat_lt id.index n) _ h) (omega arith)

-- the place of a member is below the number of packages
pub member-below : (n : ℕ) (members : List PackageId) (nodes : Nodes) (k : ℕ) (d : PackageId) → are_known n (map place_at members) nodes ≡ true → k < length members → (get_or members k d).index < n
member-below n members nodes k d h lt = below-at n members k d (and-first (list_all (λ m. nat_lt m n) (map place_at members)) _ h) lt
