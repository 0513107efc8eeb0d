-- The feature map that the members of a table make: each feature is inserted after those before it.
use Rattle.std.proofs.Common.{◌≡◌, List, [], ◌∷◌, ◌++◌, map, Option, Some, None, option_map, option_and_then, String, Vec, Global, Ordering, Less, Equal, Greater, string_bytes, string_cmp, refl, sym, ap, subst, ◌∙◌, append_assoc}
use Rattle.std.specs.BTreeMap.{BTreeMap, insert_entry}
use Rattle.std.specs.List.{AllByRecursion}
use Rattle.std.specs.List.Sorted.{IsStrictlySortedBy}
use Rattle.std.specs.Map.{keys_of}
use Rattle.std.specs.Ordering.{match_ordering, ordering_reverse}
use Rattle.std.proofs.lemmas.Cmp.{nat_list_cmp_total}
use Rattle.toml.specs.Data.{Items, as_array}
use Rattle.toml.specs.View.{view, members_view}
use Rattle.toml.specs.declared.value.Value.{Value}
use Rattle.hack_base.specs.Names.{Name, names_of}
use Rattle.hack_routes.specs.FeatureMap.{FeatureMap, feature_map}
use Rattle.hack_manifest.specs.Manifest.{texts_in, feature_map_in}
use Rattle.hack_manifest.specs.Internal.{by_bytes}

abbrev pub Entry : Type 0
Entry = String Global × Value

-- the feature map that the entries of a map represent
abbrev shown : {Y Z : Type 0} → List (String Y × Vec (String Y) Z) → FeatureMap
shown es = map (λ e. (string_bytes e.0, names_of e.1.items)) es

shown-match : {Y Z : Type 0} (o : Ordering) (a b c : List (String Y × Vec (String Y) Z)) → shown (match_ordering o a b c) ≡ match_ordering o (shown a) (shown b) (shown c)
shown-match Less a b c = refl
shown-match Equal a b c = refl
shown-match Greater a b c = refl

shown-insert : {Y Z : Type 0} (es : List (String Y × Vec (String Y) Z)) (k : String Y) (v : Vec (String Y) Z) → shown (insert_entry string_cmp es k v) ≡ insert_entry by_bytes (shown es) (string_bytes k) (names_of v.items)
shown-insert [] k v = refl
shown-insert (e ∷ es) k v = shown-match (string_cmp k e.0) _ _ _ ∙ rw (shown-insert es k v)

-- a feature inserted into a map
pub put-shown : (m n : BTreeMap (String Global) (Vec (String Global) Global)) (k : String Global) (v : Vec (String Global) Global) (name : Name) (values : List Name)
    → n.entries ≡ insert_entry string_cmp m.entries k v → string_bytes k ≡ name → names_of v.items ≡ values → feature_map n ≡ insert_entry by_bytes (feature_map m) name values
put-shown m n k v name values entries same seen =
    ap shown entries ∙ shown-insert m.entries k v
    ∙ ap (λ t. insert_entry by_bytes (feature_map m) t (names_of v.items)) same ∙ ap (insert_entry by_bytes (feature_map m) name) seen

below_middle : (first : Name) (ks : List Name) (k : Name) (more : List Name) → AllByRecursion (λ y. by_bytes first y ≡ Less) (ks ++ k ∷ more) → by_bytes first k ≡ Less
below_middle first [] k more h = h.0
below_middle first (x ∷ ks) k more h = below_middle first ks k more h.1

-- a name above all others comes last
insert-last : (m : FeatureMap) (name : Name) (values more : List Name) → IsStrictlySortedBy by_bytes (keys_of m ++ name ∷ more) → insert_entry by_bytes m name values ≡ m ++ (name, values) ∷ []
unfolding IsStrictlySortedBy
insert-last [] name values more h = refl
insert-last (e ∷ m) name values more h =
    let above : by_bytes name e.0 ≡ Greater = nat_list_cmp_total.antisymm name e.0 ∙ ap ordering_reverse (below_middle e.0 (keys_of m) name more h.0) in
    rw above (ap (λ t. e ∷ t) (insert-last m name values more h.1))

-- the names of entries
abbrev pub names : List Entry → List Name
names es = map (λ e. string_bytes e.0) es

below_all : (k : String Global) (es : List Entry) → AllByRecursion (λ y. string_cmp k y ≡ Less) (keys_of es) → AllByRecursion (λ y. by_bytes (string_bytes k) y ≡ Less) (names es)
below_all k [] h = h
below_all k (e ∷ es) h = (h.0, below_all k es h.1)

sorted-names : (es : List Entry) → IsStrictlySortedBy string_cmp (keys_of es) → IsStrictlySortedBy by_bytes (names es)
unfolding IsStrictlySortedBy
sorted-names [] h = h
sorted-names (e ∷ es) h = (below_all e.0 es h.0, sorted-names es h.1)

-- the map so far and the remaining entries are the whole, in the order of names
pub record IsSoFar (whole : Option FeatureMap) (m : FeatureMap) (left : List Entry) : Type 0 where
  pub read : whole ≡ option_map (λ more. m ++ more) (feature_map_in (members_view left))
  pub sorted : IsStrictlySortedBy by_bytes (keys_of m ++ names left)

more-first : (m : FeatureMap) (name : Name) (values : List Name) (o : Option FeatureMap) → option_map (λ more. m ++ more) (option_map (λ more. (name, values) ∷ more) o) ≡ option_map (λ more. (m ++ (name, values) ∷ []) ++ more) o
more-first m name values None = refl
more-first m name values (Some more) = ap Some (sym (append_assoc m ((name, values) ∷ []) more))

keys-last : (m : FeatureMap) (name : Name) (values more : List Name) → keys_of m ++ name ∷ more ≡ keys_of (m ++ (name, values) ∷ []) ++ more
keys-last [] name values more = refl
keys-last (e ∷ m) name values more = ap (λ t. e.0 ∷ t) (keys-last m name values more)

none-first : (o : Option FeatureMap) → o ≡ option_map (λ more. [] ++ more) o
none-first None = refl
none-first (Some m) = refl

-- no feature is inserted yet
pub so_far-start : (m : BTreeMap (String Global) (Vec (String Global) Global)) (es left : List Entry) → m.entries ≡ [] → left ≡ es → IsStrictlySortedBy string_cmp (keys_of es)
    → IsSoFar (feature_map_in (members_view es)) (feature_map m) left
so_far-start m es left empty same h =
    let whole : Option FeatureMap = feature_map_in (members_view es) in
    let P : FeatureMap → Type 0 = λ t. IsSoFar whole t left in
    let Q : List Entry → Type 0 = λ t. IsSoFar whole [] t in
    subst P (sym (ap shown empty)) (subst Q (sym same) (record { read = none-first whole; sorted = sorted-names es h }))

-- one more feature
pub so_far-turn : (whole : Option FeatureMap) (m n : FeatureMap) (left rest : List Entry) (e : Entry) (ds : Items)
    → left ≡ e ∷ rest → as_array (view e.1) ≡ Some ds → n ≡ insert_entry by_bytes m (string_bytes e.0) (texts_in ds) → IsSoFar whole m left → IsSoFar whole n rest
so_far-turn whole m n left rest e ds first is put so_far =
    let P : List Entry → Type 0 = λ t. IsSoFar whole m t in
    let here : IsSoFar whole m (e ∷ rest) = subst P first so_far in
    let last : n ≡ m ++ (string_bytes e.0, texts_in ds) ∷ [] = put ∙ insert-last m (string_bytes e.0) (texts_in ds) (names rest) here.sorted in
    let S : List Name → Type 0 = λ ks. IsStrictlySortedBy by_bytes ks in
    let Q : FeatureMap → Type 0 = λ t. IsSoFar whole t rest in
    let more : Option FeatureMap = feature_map_in (members_view rest) in
    subst Q (sym last) (record {
      read = here.read
          ∙ ap (λ o. option_map (λ t. m ++ t) (option_and_then (λ ds. option_map (λ t. (string_bytes e.0, texts_in ds) ∷ t) more) o)) is
          ∙ more-first m (string_bytes e.0) (texts_in ds) more;
      sorted = subst S (keys-last m (string_bytes e.0) (texts_in ds) (names rest)) here.sorted;
    })
