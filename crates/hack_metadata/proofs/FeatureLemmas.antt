-- Members of an object, put into a map of features one after another.
use Rattle.std.proofs.Common.{arith, ◌≡◌, ◌==◌, not, List, [], ◌∷◌, ◌++◌, map, length, String, Vec, BTreeMap, Global, Less, Greater, Option, Some, None, option_map, option_and_then, string_bytes, refl, sym, subst, ap, ◌∙◌}
use Rattle.std.specs.List.{AllByRecursion}
use Rattle.std.specs.List.Sorted.{IsStrictlySortedBy}
use Rattle.std.specs.Map.{keys_of}
use Rattle.std.specs.String.{string_cmp}
use Rattle.std.specs.Ordering.{ordering_reverse}
use Rattle.std.specs.BTreeMap.{insert_entry}
use Rattle.std.proofs.lemmas.Cmp.{nat_list_cmp_total}
use Rattle.std.proofs.lemmas.Bool.Decides.{nat_tests}
use Rattle.serde_json.specs.Find.{as_array}
use Rattle.serde_json.specs.View.{view, items_view, members_view}
use Rattle.serde_json.specs.declared.value.Value.{Value}
use Rattle.hack_base.specs.Names.{names_of}
use Rattle.hack_routes.specs.FeatureMap.{FeatureMap, feature_map}
use Rattle.hack_metadata.specs.Fields.{texts_of_items}
use Rattle.hack_metadata.specs.MetadataReading.{has_items, features_of}

-- an array has items where its list isn't empty
pub has_items-view : (vs : List Value) → has_items (items_view vs) ≡ not (length vs == 0)
has_items-view [] = refl
has_items-view (v ∷ vs) = grind (arith, nat_tests)

below_middle : (x k : String Global) (before more : List (String Global)) → AllByRecursion (λ y. string_cmp x y ≡ Less) (before ++ k ∷ more) → string_cmp x k ≡ Less
below_middle x k [] more h = h.0
below_middle x k (b ∷ before) more h = below_middle x k before more h.1

-- a key greater than all others is inserted last
insert_last : {X : Type 0} (es : List (String Global × X)) (k : String Global) (v : X) (more : List (String Global)) → IsStrictlySortedBy string_cmp (keys_of es ++ k ∷ more) → insert_entry string_cmp es k v ≡ es ++ (k, v) ∷ []
unfolding IsStrictlySortedBy
insert_last [] k v more h = refl
insert_last (x ∷ es) k v more h =
    let above : string_cmp k x.0 ≡ Greater = nat_list_cmp_total.antisymm (string_bytes k) (string_bytes x.0) ∙ ap ordering_reverse (below_middle x.0 k (keys_of es) more h.0) in
    rw above (ap (λ t. x ∷ t) (insert_last es k v more h.1))

map_last : {X Y : Type 0} (f : X → Y) (xs : List X) (x : X) → map f (xs ++ x ∷ []) ≡ map f xs ++ f x ∷ []
map_last f [] x = refl
map_last f (y ∷ xs) x = ap (λ t. f y ∷ t) (map_last f xs x)

-- an element between two lists can be taken as the end of the first
regroup : {X : Type 0} (xs : List X) (x : X) (ys : List X) → (xs ++ x ∷ []) ++ ys ≡ xs ++ x ∷ ys
regroup [] x ys = refl
regroup (y ∷ xs) x ys = ap (λ t. y ∷ t) (regroup xs x ys)

moved : {X : Type 0} (xs ys : List X) (x : X) (o : Option (List X)) → ys ≡ xs ++ x ∷ [] → option_map (λ more. ys ++ more) o ≡ option_map (λ more. xs ++ more) (option_map (λ more. x ∷ more) o)
moved xs ys x None e = refl
moved xs ys x (Some more) e = ap (λ t. Some (t ++ more)) e ∙ ap Some (regroup xs x more)

-- the features so far, and then those left, are the whole, and so are their keys
pub record Turns (m : BTreeMap (String Global) (Vec (String Global) Global)) (left : List (String Global × Value)) (all : List (String Global)) (whole : Option FeatureMap) : Type 0 where
  pub keys : keys_of m.entries ++ keys_of left ≡ all
  pub features : option_map (λ more. feature_map m ++ more) (features_of (members_view left)) ≡ whole

module _ (m n : BTreeMap (String Global) (Vec (String Global) Global)) (left rest : List (String Global × Value)) (k : String Global) (value : Value) (v : Vec (String Global) Global) (keys : List (String Global)) (whole : Option FeatureMap) where
  -- one pass of the loop over the members
  pub features-turn : left ≡ (k, value) ∷ rest → n.entries ≡ insert_entry string_cmp m.entries k v → Some (names_of v.items) ≡ option_and_then texts_of_items (as_array (view value))
      → IsStrictlySortedBy string_cmp keys → Turns m left keys whole → Turns n rest keys whole
  features-turn first inserted texts sorted before =
      let ordered : keys_of m.entries ++ k ∷ keys_of rest ≡ keys = ap (λ l. keys_of m.entries ++ keys_of l) (sym first) ∙ before.keys in
      let last : n.entries ≡ m.entries ++ (k, v) ∷ [] = inserted ∙ insert_last m.entries k v (keys_of rest) (subst (λ ks. IsStrictlySortedBy string_cmp ks) (sym ordered) sorted) in
      let grown : feature_map n ≡ feature_map m ++ (string_bytes k, names_of v.items) ∷ [] = ap (λ es. map (λ (e : String Global × Vec (String Global) Global). (string_bytes e.0, names_of e.1.items)) es) last ∙ map_last _ m.entries (k, v) in
      record {
        keys = ap (λ es. keys_of es ++ keys_of rest) last ∙ ap (λ ks. ks ++ keys_of rest) (map_last (λ (e : String Global × Vec (String Global) Global). e.0) m.entries (k, v)) ∙ regroup (keys_of m.entries) k (keys_of rest) ∙ ordered;
        features = moved (feature_map m) (feature_map n) (string_bytes k, names_of v.items) (features_of (members_view rest)) grown
            ∙ ap (λ found. option_map (λ more. feature_map m ++ more) (option_and_then (λ values. option_map (λ features. (string_bytes k, values) ∷ features) (features_of (members_view rest))) found)) texts
            ∙ ap (λ l. option_map (λ more. feature_map m ++ more) (features_of (members_view l))) (sym first)
            ∙ before.features;
      }
