-- What a manifest says about its package and its features, or the name of the first field that
-- can't be read.
use Rattle.std.specs.Prelude.{◌≡◌, codes, ℕ, Bool, true, false, not, ◌&&◌, nat_lt, if◌then◌else◌, List, [], ◌∷◌, Option, Some, None, Ok, Err, option_map, option_and_then}
use Rattle.std.specs.List.{list_any, filter_map}
use Rattle.std.specs.Option.{ok_or}
use Rattle.std.specs.Str.{bytes_eq}
use Rattle.std.specs.Cmp.Lexicographic.{pointwise}
use Rattle.toml.specs.Data.{Data, string, boolean, array, Items, no_items, item, Members, no_members, member, get_member, as_table, as_array, as_str}
use Rattle.toml.specs.Parse.{parse_document}
use Rattle.toml.specs.Text.{has_items}
use Rattle.hack_base.specs.FieldReadings.{FieldReading, ◌>>=◌}
use Rattle.hack_base.specs.Names.{Name}
use Rattle.hack_routes.specs.FeatureMap.{FeatureMap}
use Rattle.hack_manifest.specs.Paths.{View, is_header, AreCut}

-- the key of the table of features
abbrev pub features_key : Name
features_key = codes "features"

-- some piece is a key of just this name with its value, not a header: then a table of this name is
-- written inline, and neither under headers nor by dotted keys
abbrev pub is_inline : Name → List View → Bool
is_inline name ps =
    list_any (λ p. pointwise bytes_eq p.path (name ∷ []) && not (is_header p.text)) ps

-- the table at a key
abbrev pub table_at : Name → Members → Option Members
table_at key ms = option_and_then as_table (get_member key ms)

-- the table `package`, which must not be inline
abbrev pub package_in : Bool → Members → FieldReading Members
package_in inline tree = ok_or (if inline then None else table_at (codes "package") tree) (codes "package")

-- whether a package may be published: it may without the field, and with an array that isn't empty
abbrev pub publish_from : Option Data → FieldReading (Option Bool)
publish_from None = Ok (Some true)
publish_from (Some (boolean b)) = Ok (Some b)
publish_from (Some (array ds)) = Ok (Some (has_items ds))
publish_from (Some _) = Err (codes "publish")

-- the package's own `rust-version`, a string or absent
abbrev pub rust_version_from : Option Data → FieldReading (Option (Option Name))
rust_version_from None = Ok (Some None)
rust_version_from (Some (string text)) = Ok (Some (Some text))
rust_version_from (Some _) = Err (codes "rust-version")

-- what is read only below this minor version of cargo, from which on the metadata contain it
abbrev pub read_below : {A : Type 0} → ℕ → ℕ → FieldReading (Option A) → FieldReading (Option A)
read_below bound minor read = if nat_lt minor bound then read else Ok None

-- the items of an array as a list
abbrev pub list_of_items : Items → List Data
list_of_items no_items = []
list_of_items (item d ds) = d ∷ list_of_items ds

-- the strings among items
abbrev pub texts_in : Items → List Name
texts_in ds = filter_map as_str (list_of_items ds)

-- the members as a feature map: each is a feature with the strings of its array; none where one is
-- no array
abbrev pub feature_map_in : Members → Option FeatureMap
feature_map_in no_members = Some []
feature_map_in (member name d ms) =
    option_and_then (λ ds. option_map (λ more. (name, texts_in ds) ∷ more) (feature_map_in ms)) (as_array d)

-- the feature map: empty without `features`, which must be a table that isn't inline
abbrev pub features_from : Bool → Option Data → FieldReading FeatureMap
features_from inline None = Ok []
features_from true (Some d) = Err features_key
features_from false (Some d) = ok_or (option_and_then feature_map_in (as_table d)) features_key

-- the content of a manifest
pub record Facts : Type 0 where
  pub publish : Option Bool
  pub rust_version : Option (Option Name)
  pub features : FeatureMap

-- the content of a manifest with this tree and these pieces, or its first field that can't be read
abbrev pub read_manifest : ℕ → List View → Members → FieldReading Facts
read_manifest minor ps tree =
    package_in (is_inline (codes "package") ps) tree >>= λ ms.
    read_below 39 minor (publish_from (get_member (codes "publish") ms)) >>= λ publish.
    read_below 58 minor (rust_version_from (get_member (codes "rust-version") ms)) >>= λ rust.
    features_from (is_inline features_key ps) (get_member features_key tree) >>= λ features.
    Ok (record { publish = publish; rust_version = rust; features = features })

-- what the text of a manifest is read as
pub record IsReadAs (text : List ℕ) (minor : ℕ) (read : FieldReading Facts) : Type 0 where
  pub tree : Members
  pub pieces : List View
  pub tail : List ℕ
  pub parsed : parse_document text ≡ Some tree
  pub cut : AreCut text pieces tail
  pub facts : read_manifest minor pieces tree ≡ read
