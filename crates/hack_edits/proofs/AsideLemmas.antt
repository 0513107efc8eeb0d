-- Which texts of features are removed is the same for the tree without its features.
use Rattle.std.proofs.Common.{◌≡◌, List, [], ◌∷◌, true, false, ◌&&◌, ◌||◌, not, Option, Some, None, Ordering, Less, Equal, Greater, nat_cmp, is_eq, refl, sym, ap, ◌∙◌, inl, inr}
use Rattle.std.proofs.lemmas.Bool.{cases_Bool}
use Rattle.std.proofs.lemmas.Map.Text.{is_eq-slice_cmp}
use Rattle.std.proofs.lemmas.Slice.Eq.{bytes_eq-Decides}
use Rattle.std.specs.Cmp.Lexicographic.{slice_cmp}
use Rattle.std.specs.Ordering.{match_ordering}
use Rattle.std.specs.Prelude.{◌==◌, codes, length, is_some, option_and_then}
use Rattle.std.specs.Option.{option_map_or}
use Rattle.std.specs.List.{before_first, position_or_len}
use Rattle.toml.specs.Data.{Data, string, integer, float, boolean, datetime, array, table, Members, no_members, member, get_member, as_table, same_key}
use Rattle.toml.specs.View.{items_of}
use Rattle.hack_base.specs.Names.{Name}
use Rattle.hack_manifest.specs.Manifest.{table_at, features_key, list_of_items}
use Rattle.hack_edits.specs.KeyPaths.{dev_key, target_key}
use Rattle.hack_edits.specs.Lookup.{some_table, lists, depends, is_dev_only, item_goes}
use Rattle.hack_base.specs.PathTexts.{is_slash}
use Rattle.hack_edits.specs.DevTree.{items_left}
use Rattle.hack_edits.specs.Tables.{remove_member, with_member, with_value, put_each, in_table, in_array}

-- a key that differs from another one, which is passed over
passed : {X : Type 0} (o : Ordering) (x y : X) → is_eq o ≡ false → x ≡ match_ordering o x y x
passed Less x y h = refl
passed Equal x y h = absurd (cc)
passed Greater x y h = refl

apart : (j k l : Name) → same_key k j ≡ false → same_key j l ≡ true → same_key k l ≡ false
apart j k l other same =
    let is : j ≡ l = (bytes_eq-Decides j l).0 (sym (is_eq-slice_cmp j l) ∙ same) in
    ap (same_key k) (sym is) ∙ other

-- without one key another one holds what it held
get-aside : (j k : Name) → same_key k j ≡ false → (ms : Members) → get_member k (remove_member j ms) ≡ get_member k ms
get-aside j k other no_members = refl
get-aside j k other (member l d ms) =
    elim (cases_Bool (same_key j l)) [
      | inl same ↦ rw same (passed (slice_cmp nat_cmp k l) (get_member k ms) (Some d) (apart j k l other same))
      | inr differs ↦ rw differs (ap (λ o. match_ordering (slice_cmp nat_cmp k l) o (Some d) o) (get-aside j k other ms))
    ]

table-aside : (j k : Name) → same_key k j ≡ false → (ms : Members) → table_at k (remove_member j ms) ≡ table_at k ms
table-aside j k other ms = ap (λ o. option_and_then as_table o) (get-aside j k other ms)

depends-aside : (j section key : Name) → same_key section j ≡ false → same_key target_key j ≡ false → (ms : Members) → depends section key (remove_member j ms) ≡ depends section key ms
depends-aside j section key other apart_too ms =
    ap (λ o. option_map_or (λ t. is_some (get_member key t)) o false || option_map_or (some_table (lists section key)) (table_at target_key (remove_member j ms)) false) (table-aside j section other ms)
    ∙ ap (λ o. lists section key ms || option_map_or (some_table (lists section key)) o false) (table-aside j target_key apart_too ms)

dev_only-aside : (name : Name) (ms : Members) → is_dev_only name (remove_member features_key ms) ≡ is_dev_only name ms
dev_only-aside name ms =
    ap (λ b. b && not (depends (codes "dependencies") name (remove_member features_key ms) || depends (codes "build-dependencies") name (remove_member features_key ms))) (depends-aside features_key dev_key name refl refl ms)
    ∙ ap (λ b. depends dev_key name ms && not (b || depends (codes "build-dependencies") name (remove_member features_key ms))) (depends-aside features_key (codes "dependencies") name refl refl ms)
    ∙ ap (λ b. depends dev_key name ms && not (depends (codes "dependencies") name ms || b)) (depends-aside features_key (codes "build-dependencies") name refl refl ms)

goes-aside : (ms : Members) (d : Data) → item_goes (remove_member features_key ms) d ≡ item_goes ms d
goes-aside ms (string s) = ap (λ b. not (position_or_len is_slash s == length s) && b) (dev_only-aside (before_first is_slash s) ms)
goes-aside ms (integer z) = refl
goes-aside ms (float x) = refl
goes-aside ms (boolean b) = refl
goes-aside ms (datetime t) = refl
goes-aside ms (array ds) = refl
goes-aside ms (table ts) = refl

items-aside : (old : Members) (ds : List Data) → items_left (remove_member features_key old) ds ≡ items_left old ds
items-aside old [] = refl
items-aside old (d ∷ ds) = rw (goes-aside old d, items-aside old ds) refl

array-aside : (old : Members) (d : Data) → in_array (items_left (remove_member features_key old)) d ≡ in_array (items_left old) d
array-aside old (array ds) = ap (λ xs. array (items_of xs)) (items-aside old (list_of_items ds))
array-aside old (string s) = refl
array-aside old (integer z) = refl
array-aside old (float x) = refl
array-aside old (boolean b) = refl
array-aside old (datetime t) = refl
array-aside old (table ts) = refl

abbrev put_arrays : Members → Members → Members → Members
put_arrays old = put_each (λ d. Some (in_array (items_left old) d))

arrays-aside : (old kept ms : Members) → put_arrays (remove_member features_key old) kept ms ≡ put_arrays old kept ms
arrays-aside old kept no_members = refl
arrays-aside old kept (member x d ms) =
    ap (λ a. put_arrays (remove_member features_key old) (with_member x a kept) ms) (array-aside old d) ∙ arrays-aside old (with_member x (in_array (items_left old) d) kept) ms

features-aside : (old : Members) (d : Data) → in_table (put_arrays (remove_member features_key old) no_members) d ≡ in_table (put_arrays old no_members) d
features-aside old (table ms) = ap table (arrays-aside old no_members ms)
features-aside old (string s) = refl
features-aside old (integer z) = refl
features-aside old (float x) = refl
features-aside old (boolean b) = refl
features-aside old (datetime t) = refl
features-aside old (array ds) = refl

-- what stays of the features, by the tree without them
pub with_features-aside : (old : Members) (o : Option Data) (ms : Members)
    → with_value features_key (option_and_then (λ d. Some (in_table (put_each (λ v. Some (in_array (items_left (remove_member features_key old)) v)) no_members) d)) o) ms
    ≡ with_value features_key (option_and_then (λ d. Some (in_table (put_each (λ v. Some (in_array (items_left old) v)) no_members) d)) o) ms
with_features-aside old None ms = refl
with_features-aside old (Some d) ms = ap (λ f. with_member features_key f ms) (features-aside old d)
