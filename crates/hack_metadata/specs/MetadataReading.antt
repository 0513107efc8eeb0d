-- What is read from the data of `cargo metadata`: the records, or the first field that is missing
-- or has the wrong type, in this order of fields. `minor` is the minor version of the cargo that
-- wrote the data: some fields came with a later one.
use Rattle.std.specs.Prelude.{ℕ, ◌==◌, Bool, true, false, not, List, [], ◌∷◌, Option, Some, None, Ok, codes, filter, fold, nat_le, option_map, option_and_then, if◌then◌else◌}
use Rattle.std.specs.List.{enumerate_from}
use Rattle.std.specs.Option.{ok_or, option_map_or}
use Rattle.std.specs.Ordering.{nat_cmp}
use Rattle.std.specs.Str.{bytes_eq}
use Rattle.std.specs.BTreeMap.{insert_entry}
use Rattle.serde_json.specs.Data.{Data, Items, no_items, item, Members, no_members, member}
use Rattle.serde_json.specs.Find.{as_str, as_array, as_object}
use Rattle.hack_base.specs.Names.{Name}
use Rattle.hack_routes.specs.FeatureMap.{FeatureMap}
use Rattle.hack_metadata.specs.Fields.{string_in, bool_in, array_in, object_in, nullable_in, optional_text_in, text_at, read_all, texts_of_items}
use Rattle.hack_base.specs.FieldReadings.{◌>>=◌, FieldReading}
use Rattle.hack_metadata.specs.RuleTables.{rules_in}
use Rattle.hack_metadata.specs.Records.{DependencyRecord, PackageRecord, KindRecord, NodeDepRecord, Nodes, MetadataRecord}

-- what is read from this minor version of cargo on, and a value before it
abbrev pub read_from : {A : Type 0} → ℕ → ℕ → A → FieldReading A → FieldReading A
read_from since minor before read = if nat_le since minor then read else Ok before

-- ---- packages

-- an element of `dependencies`
abbrev pub read_dependency : Data → FieldReading DependencyRecord
read_dependency d =
    ok_or (as_object d) (codes "dependencies") >>= λ ms.
    string_in (codes "name") ms >>= λ name.
    bool_in (codes "optional") ms >>= λ optional.
    optional_text_in (codes "rename") ms >>= λ rename.
    Ok (record { name = name; optional = optional; rename = rename })

-- the features of an object: each name with its texts; none where a name has anything else
abbrev pub features_of : Members → Option FeatureMap
features_of no_members = Some []
features_of (member name d ms) = option_and_then (λ values. option_map (λ features. (name, values) ∷ features) (features_of ms)) (option_and_then texts_of_items (as_array d))

-- there is an item
abbrev pub has_items : Items → Bool
has_items no_items = false
has_items (item d ds) = true

-- whether a package may be published, by what `publish` holds: null, or a list with a registry
abbrev pub may_publish : Option Data → FieldReading Bool
may_publish o = option_map_or (λ d. ok_or (option_map has_items (as_array d)) (codes "publish")) o (Ok true)

-- an element of `packages`
abbrev pub read_package : ℕ → Data → FieldReading PackageRecord
read_package minor d =
    ok_or (as_object d) (codes "packages") >>= λ ms.
    string_in (codes "id") ms >>= λ id.
    string_in (codes "name") ms >>= λ name.
    string_in (codes "version") ms >>= λ version.
    (array_in (codes "dependencies") ms >>= read_all read_dependency) >>= λ dependencies.
    (object_in (codes "features") ms >>= λ fs. ok_or (features_of fs) (codes "features"))
    >>= λ features.
    string_in (codes "manifest_path") ms >>= λ manifest_path.
    read_from 39 minor true (nullable_in (codes "publish") ms >>= may_publish) >>= λ publish.
    read_from 58 minor None (optional_text_in (codes "rust_version") ms) >>= λ rust_version.
    Ok (record { id = id; name = name; version = version; dependencies = dependencies; features = features; manifest_path = manifest_path; publish = publish; rust_version = rust_version; rules = rules_in ms })

-- ---- package ids

-- the place of the last package with the id, none where no package has it
abbrev pub place_of : List PackageRecord → Name → Option ℕ
place_of packages id =
    fold (λ last e. if bytes_eq e.1.id id then Some e.0 else last) None (enumerate_from 0 packages)

-- the elements, each once, at its first place; `same` tells which are the same
abbrev pub distinct : {A : Type 0} → (A → A → Bool) → List A → List A
distinct same [] = []
distinct same (x ∷ xs) = x ∷ filter (λ y. not (same y x)) (distinct same xs)

-- `place` says which package an id means
module _ (place : Name → Option ℕ) where
  -- an element of `workspace_members`: the id of a package
  abbrev pub read_member : Data → FieldReading ℕ
  read_member d = ok_or (option_and_then place (as_str d)) (codes "workspace_members")

  -- `workspace_members`
  abbrev pub workspace_members_in : Members → FieldReading (List ℕ)
  workspace_members_in ms =
      (array_in (codes "workspace_members") ms >>= read_all read_member) >>= λ members. Ok (distinct ◌==◌ members)

-- ---- the graph of dependencies

-- an element of `dep_kinds`
abbrev pub read_kind : Data → FieldReading KindRecord
read_kind d =
    ok_or (as_object d) (codes "dep_kinds") >>= λ ms.
    optional_text_in (codes "kind") ms >>= λ kind.
    optional_text_in (codes "target") ms >>= λ target.
    Ok (record { kind = kind; target = target })

-- the nodes, put in one after another: of two nodes of one package the last counts
abbrev pub with_nodes : Nodes → Nodes → Nodes
with_nodes nodes more = fold (λ all n. insert_entry nat_cmp all n.0 n.1) nodes more

module _ (place : Name → Option ℕ) (minor : ℕ) where
  -- an element of `deps`
  abbrev pub read_node_dep : Data → FieldReading NodeDepRecord
  read_node_dep d =
      ok_or (as_object d) (codes "deps") >>= λ ms.
      string_in (codes "pkg") ms >>= λ id.
      ok_or (place id) (codes "pkg") >>= λ pkg.
      read_from 41 minor [] (array_in (codes "dep_kinds") ms >>= read_all read_kind) >>= λ kinds.
      Ok (record { pkg = pkg; dep_kinds = kinds })

  -- an element of `nodes`: the place of its package, which is looked up last, and the node
  abbrev pub read_node : Data → FieldReading (ℕ × List NodeDepRecord)
  read_node d =
      ok_or (as_object d) (codes "nodes") >>= λ ms.
      string_in (codes "id") ms >>= λ id.
      read_from 30 minor [] (array_in (codes "deps") ms >>= read_all read_node_dep) >>= λ deps.
      ok_or (place id) (codes "id") >>= λ at.
      Ok (at, deps)

  -- what `resolve` holds: no nodes where it is null
  abbrev pub read_resolve : Option Data → FieldReading Nodes
  read_resolve None = Ok []
  read_resolve (Some d) =
      ok_or (as_object d) (codes "resolve") >>= λ ms.
      array_in (codes "nodes") ms >>= λ ds.
      read_all read_node ds >>= λ nodes.
      Ok (with_nodes [] nodes)

-- ---- the whole

-- what is read after the packages, where `place` says which one an id means
abbrev pub read_behind : ℕ → List PackageRecord → (Name → Option ℕ) → Members → FieldReading MetadataRecord
read_behind minor packages place ms =
    workspace_members_in place ms >>= λ members.
    (nullable_in (codes "resolve") ms >>= read_resolve place minor) >>= λ nodes.
    string_in (codes "workspace_root") ms >>= λ root.
    Ok (record { cargo_version = minor; packages = packages; workspace_members = members; resolve = nodes; workspace_root = root; target_directory = text_at (codes "target_directory") ms; rules = rules_in ms })

-- all that the object of `cargo metadata` says: an id means the last package that has it
abbrev pub read_metadata : ℕ → Members → FieldReading MetadataRecord
read_metadata minor ms =
    (array_in (codes "packages") ms >>= read_all (read_package minor)) >>= λ packages.
    read_behind minor packages (place_of packages) ms
