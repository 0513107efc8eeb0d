-- Steps of reading the input: features of keys, and members added to a map.
use Rattle.std.proofs.Common.{◌≡◌, ℕ, ◌+◌, ◌<◌, List, [], ◌∷◌, ◌++◌, map, length, get_or, take, option_and_then, Option, Some, BTreeMap, Vec, String, Ordering, Less, Equal, Greater, Global, string_bytes, string_cmp, nat_cmp, refl, sym, ap, ◌∙◌}
use Rattle.std.specs.Borrow.{Bor}
use Rattle.std.specs.BTreeMap.{insert_entry}
use Rattle.std.specs.Cmp.Lexicographic.{slice_cmp}
use Rattle.std.specs.Map.Iter.{TakesFirst}
use Rattle.std.specs.Ordering.{match_ordering}
use Rattle.std.proofs.lemmas.Map.Iter.{rest_more}
use Rattle.serde_json.specs.Data.{Data, Members, member}
use Rattle.serde_json.specs.View.{view, members_view}
use Rattle.serde_json.specs.declared.value.Value.{Value}
use Rattle.hack_features.specs.declared.feature.Feature.{Feature}
use Rattle.hack_base.specs.Names.{names_of}
use Rattle.hack_features.specs.Feature.{group_of, groups_of, candidates_of}
use Rattle.hack_routes.specs.FeatureMap.{FeatureMap, feature_map}
use Rattle.hack_base.proofs.Steps.{seen-next}
use Rattle.hack_powerset_list.specs.Input.{values_in, with_members, read_map, keys_of}

candidates-push : (all : List (Bor Feature)) (f : Bor Feature) → candidates_of (all ++ f ∷ []) ≡ candidates_of all ++ group_of f.now ∷ []
candidates-push [] f = refl
candidates-push (x ∷ all) f = ap (λ names. group_of x.now ∷ names) (candidates-push all f)

-- a reference to one more feature
pub candidates-next : (all new : List (Bor Feature)) (features : List Feature) (k : ℕ) (f : Bor Feature) → new ≡ all ++ f ∷ [] → candidates_of all ≡ take k (groups_of features) → k < length features → f.now ≡ get_or features k f.now → candidates_of new ≡ take (k + 1) (groups_of features)
candidates-next all new features k f pushed before lt is =
    ap candidates_of pushed ∙ candidates-push all f ∙ ap (λ names. names ++ group_of f.now ∷ []) before ∙ sym (seen-next group_of features k f.now lt is)

-- the names of a map are its keys
pub names-keys : {Y Z : Type 0} (es : List (String Y × Vec (String Y) Z)) → names_of (map (λ e. e.0) es) ≡ keys_of (map (λ e. (string_bytes e.0, names_of e.1.items)) es)
names-keys [] = refl
names-keys (e ∷ es) = ap (λ names. string_bytes e.0 ∷ names) (names-keys es)

-- what the feature map shows of the entries of a map
abbrev shown_entries : {Y Z : Type 0} → List (String Y × Vec (String Y) Z) → FeatureMap
shown_entries es = map (λ e. (string_bytes e.0, names_of e.1.items)) es

shown-match : {Y Z : Type 0} (o : Ordering) (a b c : List (String Y × Vec (String Y) Z)) → shown_entries (match_ordering o a b c) ≡ match_ordering o (shown_entries a) (shown_entries b) (shown_entries c)
shown-match Less a b c = refl
shown-match Equal a b c = refl
shown-match Greater a b c = refl

shown-insert : {Y Z : Type 0} (es : List (String Y × Vec (String Y) Z)) (k : String Y) (v : Vec (String Y) Z) → shown_entries (insert_entry string_cmp es k v) ≡ insert_entry (slice_cmp nat_cmp) (shown_entries es) (string_bytes k) (names_of v.items)
shown-insert [] k v = refl
shown-insert (e ∷ es) k v = shown-match (string_cmp k e.0) _ _ _ ∙ rw (shown-insert es k v)

-- one more member is added
with-member : {Y Z : Type 0} (m n : BTreeMap (String Y) (Vec (String Y) Z)) (k : String Y) (v : Vec (String Y) Z) (d : Data) (ms : Members) → n.entries ≡ insert_entry string_cmp m.entries k v → values_in d ≡ Some (names_of v.items) → with_members (feature_map m) (member (string_bytes k) d ms) ≡ with_members (feature_map n) ms
with-member m n k v d ms inserted values =
    ap (option_and_then (λ names. with_members (insert_entry (slice_cmp nat_cmp) (feature_map m) (string_bytes k) names) ms)) values
    ∙ ap (λ found. with_members found ms) (sym (ap shown_entries inserted ∙ shown-insert m.entries k v))

-- a turn of the loop over the members of an object
pub member-turn : (bytes : List ℕ) (m n : BTreeMap (String Global) (Vec (String Global) Global)) (left rest : List (String Global × Value)) (next : Option (String Global × Value)) (k : String Global) (value : Value) (v : Vec (String Global) Global)
    → next ≡ Some (k, value) → TakesFirst (λ (e : String Global × Value). e) left next rest → n.entries ≡ insert_entry string_cmp m.entries k v → values_in (view value) ≡ Some (names_of v.items)
    → read_map bytes ≡ with_members (feature_map m) (members_view left) → read_map bytes ≡ with_members (feature_map n) (members_view rest)
member-turn bytes m n left rest next k value v is steps inserted values before =
    before
    ∙ ap (λ ms. with_members (feature_map m) (members_view ms)) (rest_more (λ (e : String Global × Value). e) left rest next (k, value) is steps)
    ∙ with-member m n k v (view value) (members_view rest) inserted values
