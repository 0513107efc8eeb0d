-- Feature maps as JSON data.
use Rattle.std.specs.Prelude.{◌≡◌, ℕ, List, [], ◌∷◌, Option, None, Some, map, option_map, option_and_then, IsUtf8}
use Rattle.std.specs.Ordering.{nat_cmp}
use Rattle.std.specs.Cmp.Lexicographic.{slice_cmp}
use Rattle.std.specs.BTreeMap.{insert_entry}
use Rattle.serde_json.specs.Data.{Data, null, boolean, number, string, array, object, Items, no_items, item, Members, no_members, member}
use Rattle.serde_json.specs.Read.{read}
use Rattle.hack_base.specs.Names.{Name}
use Rattle.hack_routes.specs.FeatureMap.{FeatureMap}

-- the text, if the data are one
abbrev pub text_in : Data → Option Name
text_in (string text) = Some text
text_in (null) = None
text_in (boolean b) = None
text_in (number n) = None
text_in (array items) = None
text_in (object ms) = None

-- the texts of the items; None if one of them is no text
abbrev pub all_texts_in : Items → Option (List Name)
all_texts_in no_items = Some []
all_texts_in (item d items) = option_and_then (λ text. option_map (λ texts. text ∷ texts) (all_texts_in items)) (text_in d)

-- the texts, if the data are an array of texts
abbrev pub values_in : Data → Option (List Name)
values_in (array items) = all_texts_in items
values_in (null) = None
values_in (boolean b) = None
values_in (number n) = None
values_in (string text) = None
values_in (object ms) = None

-- the map, in the order of names, with the members added; None if one is no array of texts
abbrev pub with_members : FeatureMap → Members → Option FeatureMap
with_members m no_members = Some m
with_members m (member name d ms) = option_and_then (λ values. with_members (insert_entry (slice_cmp nat_cmp) m name values) ms) (values_in d)

-- the map, if the data are an object of arrays of texts
abbrev pub map_in : Data → Option FeatureMap
map_in (object ms) = with_members [] ms
map_in (null) = None
map_in (boolean b) = None
map_in (number n) = None
map_in (string text) = None
map_in (array items) = None

-- the map, if the text is the JSON of one
abbrev pub read_map : List ℕ → Option FeatureMap
read_map bytes = option_and_then map_in (read bytes)

-- the bytes are UTF-8, and are the JSON of this map
pub record IsMapText (bytes : List ℕ) (m : FeatureMap) : Type 0 where
  pub utf8 : IsUtf8 bytes
  pub reads : read_map bytes ≡ Some m

-- the bytes are not UTF-8, or not the JSON of a map
abbrev pub IsNoMapText : List ℕ → Type 0
IsNoMapText bytes = IsUtf8 bytes → read_map bytes ≡ None

-- the names of a map's features
abbrev pub keys_of : FeatureMap → List Name
keys_of m = map (λ e. e.0) m
