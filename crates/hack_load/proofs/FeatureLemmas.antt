-- Features that are added after others, and names that are picked, each once.
use Rattle.std.specs.Prelude.{codes}
use Rattle.std.proofs.Common.{◌≡◌, ◌&&◌, ◌||◌, not, ℕ, suc, ◌+◌, ◌<◌, get_or, add-one, drop-cons, Bool, true, false, cond, List, [], ◌∷◌, ◌++◌, ◌↔◌, Contains, IsTrue, Vec, map, length, drop, Option, Some, None, unwrap_or, option_map, String, Global, Less, nat_cmp, string_cmp, string_bytes, append_assoc, append-nil, refl, sym, ap, subst, ◌∙◌}
use Rattle.std.specs.Cmp.Lexicographic.{slice_cmp}
use Rattle.std.specs.List.Sorted.{IsStrictlySortedBy}
use Rattle.std.specs.List.{AllByRecursion, AllZip, cons_option, list_any, filter, slice_get}
use Rattle.std.specs.Map.{keys_of, values_of}
use Rattle.std.proofs.lemmas.Cmp.{nat_list_eq_equiv}
use Rattle.std.proofs.lemmas.Map.Views.{Contains-from_any, list_any-from_Contains}
use Rattle.std.specs.Str.{bytes_eq}
use Rattle.std.proofs.lemmas.List.{map-append}
use Rattle.std.proofs.lemmas.Option.{slice_get-map}
use Rattle.std.proofs.lemmas.List.Folds.{list_any-append}
use Rattle.std.proofs.lemmas.Slice.Eq.{bytes_eq-Decides}
use Rattle.std.specs.Bool.{Decides}
use Rattle.hack_base.specs.Names.{Name, names_of}
use Rattle.hack_routes.specs.FeatureMap.{FeatureMap}
use Rattle.hack_features.specs.Feature.{IsNormal, IsPath, name_of}
use Rattle.hack_features.specs.declared.feature.Feature.{Feature}
use Rattle.hack_features.specs.declared.feature.Feature.TheVariants.{Normal, Group, Path}
use Rattle.hack_metadata.specs.Optional.{feature_of, optional_in}
use Rattle.hack_metadata.specs.Records.{DependencyRecord}
use Rattle.hack_metadata.specs.RecordViews.{dependency_view, kind_view, node_dep_view, package_view}
use Rattle.hack_metadata.specs.declared.metadata.package.Dependency.{Dependency}
use Rattle.hack_metadata.specs.declared.metadata.package.Package.{Package}
use Rattle.hack_metadata.specs.declared.metadata.resolve.NodeDep.{NodeDep}
use Rattle.hack_metadata.specs.MetadataReading.{distinct}
use Rattle.hack_load.specs.Candidates.{is_implicit, is_normal, optional_names, paths_to, paths_in, node_paths}
use Rattle.hack_load.specs.Features.{IsRising, texts_of}
use Rattle.hack_load.specs.Internal.{AddsPaths}

-- ---- one for each

pub each-join : {A B : Type 0} (P : A → B → Type 0) (xs ys : List A) (fs gs : List B) → AllZip P xs fs → AllZip P ys gs → AllZip P (xs ++ ys) (fs ++ gs)
each-join P [] ys [] gs h k = k
each-join P [] ys (f ∷ fs) gs h k = absurd h
each-join P (x ∷ xs) ys [] gs h k = absurd h
each-join P (x ∷ xs) ys (f ∷ fs) gs h k = (h.0, each-join P xs ys fs gs h.1 k)

pub normal-text : (name : Name) (f : Feature) → IsNormal name f → name_of f ≡ name
normal-text name (Normal text) h = h
normal-text name (Group text list) h = absurd h
normal-text name (Path text slash) h = absurd h

texts-push : (fs : List Feature) (f : Feature) (name : Name) → IsNormal name f → texts_of (fs ++ f ∷ []) ≡ texts_of fs ++ name ∷ []
texts-push fs f name h = map-append name_of fs (f ∷ []) ∙ ap (λ t. texts_of fs ++ t ∷ []) (normal-text name f h)

-- one more feature of the package
pub normals-push : (fs new : List Feature) (f : Feature) (name : Name) → IsNormal name f → new ≡ fs ++ f ∷ [] → AllZip IsNormal (texts_of fs) fs → AllZip IsNormal (texts_of new) new
normals-push fs new f name is push are =
    let P : List Feature → Type 0 = λ l. AllZip IsNormal (texts_of l) l in
    let Q : List Name → Type 0 = λ l. AllZip IsNormal l (fs ++ f ∷ []) in
    subst P (sym push) (subst Q (sym (texts-push fs f name is)) (each-join IsNormal (texts_of fs) (name ∷ []) fs (f ∷ []) are (is, tt)))

pub texts-pushed : (fs new : List Feature) (f : Feature) (name : Name) (more : List Name) → IsNormal name f → new ≡ fs ++ f ∷ [] → texts_of new ++ more ≡ texts_of fs ++ name ∷ more
texts-pushed fs new f name more is push =
    ap (λ l. texts_of l ++ more) push ∙ ap (λ l. l ++ more) (texts-push fs f name is) ∙ append_assoc (texts_of fs) (name ∷ []) more

-- ---- features of dependencies

-- the features of the keys so far, each as a path of the dependency, follow the old ones
pub record Grown (dep : Name) (m : FeatureMap) (left : List (String Global)) (old now : List Feature) : Type 0 where
  pub came : List Name
  pub all : came ++ names_of left ≡ keys_of m
  pub adds : AddsPaths (map (λ feature. (dep, feature)) came) old now

pub grown-start : (dep : Name) (m : FeatureMap) (left : List (String Global)) (old : List Feature) → names_of left ≡ keys_of m → Grown dep m left old old
grown-start dep m left old e = record {
  came = [];
  all = e;
  adds = λ before are. subst (λ (l : List (Name × Name)). AllZip (λ path f. IsPath path.0 path.1 f) l old) (sym (append-nil before)) are;
}

pub adds-join : (xs ys : List (Name × Name)) (a b c : List Feature) → AddsPaths xs a b → AddsPaths ys b c → AddsPaths (xs ++ ys) a c
adds-join xs ys a b c h k = λ before are. subst (λ (l : List (Name × Name)). AllZip (λ path f. IsPath path.0 path.1 f) l c) (append_assoc before xs ys) (k (before ++ xs) (h before are))

pub adds-one : (dep feature : Name) (f : Feature) (old new : List Feature) → IsPath dep feature f → new ≡ old ++ f ∷ [] → AddsPaths ((dep, feature) ∷ []) old new
adds-one dep feature f old new is push = λ before are.
    let P : List Feature → Type 0 = λ l. AllZip (λ path f. IsPath path.0 path.1 f) (before ++ (dep, feature) ∷ []) l in
    subst P (sym push) (each-join (λ (way : Name × Name) f. IsPath way.0 way.1 f) before ((dep, feature) ∷ []) old (f ∷ []) are (is, tt))

pub adds-none : (old : List Feature) → AddsPaths [] old old
adds-none old = λ before are. subst (λ (l : List (Name × Name)). AllZip (λ path f. IsPath path.0 path.1 f) l old) (sym (append-nil before)) are

-- one more key
pub grown-turn : (dep : Name) (m : FeatureMap) (left rest : List (String Global)) (key : String Global) (f : Feature) (old now new : List Feature)
    → left ≡ key ∷ rest → IsPath dep (string_bytes key) f → new ≡ now ++ f ∷ [] → Grown dep m left old now → Grown dep m rest old new
grown-turn dep m left rest key f old now new first is push g =
    let one : List Name = string_bytes key ∷ [] in
    record {
      came = g.came ++ one;
      all = append_assoc g.came one (names_of rest) ∙ ap (λ l. g.came ++ names_of l) (sym first) ∙ g.all;
      adds = subst (λ (l : List (Name × Name)). AddsPaths l old new) (sym (map-append (λ feature. (dep, feature)) g.came one))
          (adds-join (map (λ feature. (dep, feature)) g.came) ((dep, string_bytes key) ∷ []) old now new g.adds (adds-one dep (string_bytes key) f now new is push));
    }

pub grown-end : (dep : Name) (m : FeatureMap) (left : List (String Global)) (old now : List Feature) → left ≡ [] → Grown dep m left old now → AddsPaths (paths_to dep m) old now
grown-end dep m left old now none g =
    subst (λ (l : List Name). AddsPaths (map (λ feature. (dep, feature)) l) old now)
    (sym (append-nil g.came) ∙ ap (λ l. g.came ++ names_of l) (sym none) ∙ g.all) g.adds

-- ---- names, each once

-- the name is none of these
abbrev pub is_new : List Name → Name → Bool
is_new names x = not (list_any (bytes_eq x) names)

-- the names that are none of these, each once, at its first place
abbrev pub picked : List Name → List Name → List Name
picked names xs = filter (is_new names) (distinct bytes_eq xs)

-- the features so far, and what is picked of the dependencies left, make up the whole
pub record Picked (m : FeatureMap) (all left : List DependencyRecord) (fs : List Feature) : Type 0 where
  pub are : AllZip IsNormal (texts_of fs) fs
  pub whole : texts_of fs ++ picked (texts_of fs) (filter (is_implicit m) (optional_in left)) ≡ optional_names m all

filter-all : (xs : List Name) → filter (λ y. true) xs ≡ xs
filter-all [] = refl
filter-all (x ∷ xs) = ap (λ l. x ∷ l) (filter-all xs)

twice : (p q r : Bool) (x : Name) (xs zs : List Name) → r ≡ (q && p) → xs ≡ zs → cond q (cond p (x ∷ xs) xs) xs ≡ cond r (x ∷ zs) zs
twice p true r x xs zs e h = rw (e, h) refl
twice p false r x xs zs e h = rw (e, h) refl

split-cond : (p : Name → Bool) (b : Bool) (x : Name) (xs : List Name) → filter p (cond b (x ∷ xs) xs) ≡ cond b (cond (p x) (x ∷ filter p xs) (filter p xs)) (filter p xs)
split-cond p true x xs = refl
split-cond p false x xs = refl

-- two filters, one after the other, are one filter by both tests
filter-both : (p q r : Name → Bool) → ((y : Name) → r y ≡ (q y && p y)) → (xs : List Name) → filter p (filter q xs) ≡ filter r xs
filter-both p q r h [] = refl
filter-both p q r h (x ∷ xs) =
    split-cond p (q x) x (filter q xs)
    ∙ twice (p x) (q x) (r x) x (filter p (filter q xs)) (filter r xs) (h x) (filter-both p q r h xs)

-- a name that is there already is not picked
not_new : (names : List Name) (x : Name) → list_any (bytes_eq x) names ≡ true → (y : Name) → is_new names y ≡ (not (bytes_eq y x) && is_new names y)
not_new names x h y = elim (bytes_eq y x) as (λ b. Decides b (y ≡ x) → is_new names y ≡ (not b && is_new names y)) [
  | true ↦ λ d. ap (λ t. not (list_any (bytes_eq t) names)) (d.0 refl) ∙ ap not h
  | false ↦ λ d. refl
] (bytes_eq-Decides y x)

or_false : (a b : Bool) → not (a || (b || false)) ≡ (not b && not a)
or_false true true = refl
or_false true false = refl
or_false false true = refl
or_false false false = refl

-- a name is none of these and one more: it differs from the one, and is none of these
new-push : (names : List Name) (x y : Name) → is_new (names ++ x ∷ []) y ≡ (not (bytes_eq y x) && is_new names y)
new-push names x y = ap not (list_any-append (bytes_eq y) names (x ∷ [])) ∙ or_false (list_any (bytes_eq y) names) (bytes_eq y x)

picked-head : (names : List Name) (x : Name) (xs : List Name) (b : Bool) → list_any (bytes_eq x) names ≡ b → picked names (x ∷ xs) ≡ cond (not b) (x ∷ filter (is_new names) (filter (λ y. not (bytes_eq y x)) (distinct bytes_eq xs))) (filter (is_new names) (filter (λ y. not (bytes_eq y x)) (distinct bytes_eq xs)))
picked-head names x xs b e = ap (λ t. cond (not t) (x ∷ filter (is_new names) (filter (λ y. not (bytes_eq y x)) (distinct bytes_eq xs))) (filter (is_new names) (filter (λ y. not (bytes_eq y x)) (distinct bytes_eq xs)))) e

picked-old : (names : List Name) (x : Name) (xs : List Name) → list_any (bytes_eq x) names ≡ true → picked names (x ∷ xs) ≡ picked names xs
picked-old names x xs e = picked-head names x xs true e ∙ filter-both (is_new names) (λ y. not (bytes_eq y x)) (is_new names) (not_new names x e) (distinct bytes_eq xs)

picked-new : (names : List Name) (x : Name) (xs : List Name) → list_any (bytes_eq x) names ≡ false → picked names (x ∷ xs) ≡ x ∷ picked (names ++ x ∷ []) xs
picked-new names x xs e = picked-head names x xs false e ∙ ap (λ l. x ∷ l) (filter-both (is_new names) (λ y. not (bytes_eq y x)) (is_new (names ++ x ∷ [])) (new-push names x) (distinct bytes_eq xs))

-- the names that are left for picking
abbrev names_left : FeatureMap → List DependencyRecord → List Name
names_left m ds = filter (is_implicit m) (optional_in ds)

pub picked-start : (m : FeatureMap) (all : List DependencyRecord) (fs : List Feature) → fs ≡ [] → Picked m all all fs
picked-start m all fs e =
    let P : List Feature → Type 0 = λ l. Picked m all all l in
    subst P (sym e) (record { are = tt; whole = filter-all (distinct bytes_eq (names_left m all)) })

-- a dependency by which nothing is picked
pub picked-pass : (m : FeatureMap) (all left rest : List DependencyRecord) (fs : List Feature) → picked (texts_of fs) (names_left m left) ≡ picked (texts_of fs) (names_left m rest) → Picked m all left fs → Picked m all rest fs
picked-pass m all left rest fs e p = record { are = p.are; whole = ap (λ l. texts_of fs ++ l) (sym e) ∙ p.whole }

-- a dependency that isn't optional
pub left-none : (m : FeatureMap) (d : DependencyRecord) (rest : List DependencyRecord) → feature_of d ≡ None → names_left m (d ∷ rest) ≡ names_left m rest
left-none m d rest e = ap (λ o. filter (is_implicit m) (cons_option o (optional_in rest))) e

left-cond : (m : FeatureMap) (d : DependencyRecord) (rest : List DependencyRecord) (name : Name) (b : Bool) → feature_of d ≡ Some name → is_implicit m name ≡ b → names_left m (d ∷ rest) ≡ cond b (name ∷ names_left m rest) (names_left m rest)
left-cond m d rest name b e i = ap (λ o. filter (is_implicit m) (cons_option o (optional_in rest))) e ∙ ap (λ t. cond t (name ∷ names_left m rest) (names_left m rest)) i

-- a dependency that is no feature by itself
pub left-named : (m : FeatureMap) (d : DependencyRecord) (rest : List DependencyRecord) (name : Name) → feature_of d ≡ Some name → is_implicit m name ≡ false → names_left m (d ∷ rest) ≡ names_left m rest
left-named m d rest name e i = left-cond m d rest name false e i

-- a dependency whose name is there already
pub pass-old : (m : FeatureMap) (d : DependencyRecord) (rest : List DependencyRecord) (name : Name) (names : List Name) → feature_of d ≡ Some name → is_implicit m name ≡ true → list_any (bytes_eq name) names ≡ true → picked names (names_left m (d ∷ rest)) ≡ picked names (names_left m rest)
pass-old m d rest name names e i h = ap (picked names) (left-cond m d rest name true e i) ∙ picked-old names name (names_left m rest) h

-- a dependency that is picked
pub picked-take : (m : FeatureMap) (all : List DependencyRecord) (d : DependencyRecord) (rest : List DependencyRecord) (name : Name) (f : Feature) (fs new : List Feature)
    → feature_of d ≡ Some name → is_implicit m name ≡ true → list_any (bytes_eq name) (texts_of fs) ≡ false → IsNormal name f → new ≡ fs ++ f ∷ [] → Picked m all (d ∷ rest) fs → Picked m all rest new
picked-take m all d rest name f fs new e i h is push p =
    let names : List Name = texts_of fs in
    let more : List Name = names_left m rest in
    let grown : texts_of new ≡ names ++ name ∷ [] = ap texts_of push ∙ texts-push fs f name is in
    record {
      are = normals-push fs new f name is push p.are;
      whole =
          ap (λ l. l ++ picked l more) grown ∙ append_assoc names (name ∷ []) (picked (names ++ name ∷ []) more)
          ∙ ap (λ l. names ++ l) (sym (picked-new names name more h) ∙ sym (ap (picked names) (left-cond m d rest name true e i)))
          ∙ p.whole;
    }

-- ---- the names of all candidates

-- whether one of three lists has a name
pub found-in : (name : Name) (xs ys zs : List Name) (a b c r : Bool) → a ≡ list_any (bytes_eq name) xs → b ≡ list_any (bytes_eq name) ys → c ≡ list_any (bytes_eq name) zs → r ≡ (a || (b || c)) → IsTrue r ↔ Contains (xs ++ (ys ++ zs)) name
found-in name xs ys zs a b c r x y z e =
    let whole : r ≡ list_any (bytes_eq name) (xs ++ (ys ++ zs)) =
    e ∙ rw (x, y, z) (sym (list_any-append (bytes_eq name) xs (ys ++ zs) ∙ ap (λ t. list_any (bytes_eq name) xs || t) (list_any-append (bytes_eq name) ys zs))) in (
      λ h. Contains-from_any (λ u v. (bytes_eq-Decides u v).0) name (xs ++ (ys ++ zs)) (sym whole ∙ h),
      λ h. (whole ∙ list_any-from_Contains nat_list_eq_equiv name (xs ++ (ys ++ zs)) h),
    )

-- a test of a map's values is the same test of its entries
pub named-values : (dep : Name) (es : List (String Global × Vec (String Global) Global)) → list_any (λ values. list_any (bytes_eq (codes "dep:" ++ dep)) (names_of values.items)) (values_of es) ≡ list_any (λ (e : Name × List Name). list_any (bytes_eq (codes "dep:" ++ dep)) e.1) (map (λ e. (string_bytes e.0, names_of e.1.items)) es)
named-values dep [] = refl
named-values dep (e ∷ es) = ap (λ t. list_any (bytes_eq (codes "dep:" ++ dep)) (names_of e.1.items) || t) (named-values dep es)

pub keys-shown : (es : List (String Global × Vec (String Global) Global)) → names_of (keys_of es) ≡ keys_of (map (λ e. (string_bytes e.0, names_of e.1.items)) es)
keys-shown [] = refl
keys-shown (e ∷ es) = ap (λ t. string_bytes e.0 ∷ t) (keys-shown es)

-- ---- dependencies

-- the dependency at a place, and those after it
pub left-at : (ds : List Dependency) (i : ℕ) (d : Dependency) → i < length ds → d ≡ get_or ds i d → map dependency_view (drop i ds) ≡ dependency_view d ∷ map dependency_view (drop (i + 1) ds)
left-at ds i d lt is = ap (map dependency_view) (drop-cons ds i d lt ∙ ap (λ x. x ∷ drop (suc i) ds) (sym is)) ∙ ap (λ k. dependency_view d ∷ map dependency_view (drop k ds)) (sym (add-one i))

chosen : (b : Bool) (xs : List (Name × Name)) → b ≡ true → cond b xs [] ≡ xs
chosen b xs e = rw e refl

get-shown : (ps : List Package) (i : ℕ) (o : Option Package) → slice_get ps i ≡ o → slice_get (map package_view ps) i ≡ option_map package_view o
get-shown ps i o e = slice_get-map package_view ps i ∙ ap (option_map package_view) e

-- a normal dependency on a package that is known
pub node-known : (ps : List Package) (ds : List DependencyRecord) (d : NodeDep) (p : Package) → list_any is_normal (map kind_view d.dep_kinds.items) ≡ true → slice_get ps d.pkg.index ≡ Some p
    → node_paths (map package_view ps) ds (node_dep_view d) ≡ paths_in ds (package_view p)
node-known ps ds d p e g =
    chosen (list_any is_normal (map kind_view d.dep_kinds.items)) _ e ∙ ap (λ o. unwrap_or (option_map (paths_in ds) o) []) (get-shown ps d.pkg.index (Some p) g)

-- a normal dependency on a package that is not known
pub node-unknown : (ps : List Package) (ds : List DependencyRecord) (d : NodeDep) → list_any is_normal (map kind_view d.dep_kinds.items) ≡ true → slice_get ps d.pkg.index ≡ None
    → node_paths (map package_view ps) ds (node_dep_view d) ≡ []
node-unknown ps ds d e g =
    chosen (list_any is_normal (map kind_view d.dep_kinds.items)) _ e ∙ ap (λ o. unwrap_or (option_map (paths_in ds) o) []) (get-shown ps d.pkg.index None g)

-- ---- the order of names

below_all : (k : String Global) (ks : List (String Global)) → AllByRecursion (λ y. string_cmp k y ≡ Less) ks → AllByRecursion (λ y. slice_cmp nat_cmp (string_bytes k) y ≡ Less) (names_of ks)
below_all k [] h = h
below_all k (x ∷ ks) h = (h.0, below_all k ks h.1)

-- keys that strictly increase are names that do
pub rising-names : (ks : List (String Global)) → IsStrictlySortedBy string_cmp ks → IsRising (names_of ks)
unfolding IsStrictlySortedBy
rising-names [] h = h
rising-names (k ∷ ks) h = (below_all k ks h.0, rising-names ks h.1)
