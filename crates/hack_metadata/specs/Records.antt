-- The records of `cargo metadata` as plain data: a package is known by its place in the list of packages.
use Rattle.std.specs.Prelude.{ℕ, ◌==◌, Bool, false, List, [], Option, None}
use Rattle.std.specs.Map.{lookup}
use Rattle.hack_base.specs.FieldReadings.{FieldReading}
use Rattle.hack_base.specs.Names.{Name}
use Rattle.hack_routes.specs.FeatureMap.{FeatureMap}

-- a dependency as a manifest names it
pub record DependencyRecord : Type 0 where
  pub name : Name
  pub optional : Bool
  pub rename : Option Name

-- what a manifest's metadata says of its package's rules: names and groups of names
pub record RulesRecord : Type 0 where
  pub exclude_features : List Name
  pub mutually_exclusive_features : List (List Name)
  pub at_least_one_of : List (List Name)
  pub group_features : List (List Name)
  pub optional_deps : Option (List Name)
  pub exclude_no_default_features : Bool
  pub exclude_all_features : Bool
  pub depth : Option ℕ
  pub strength : Option ℕ

-- what a manifest says that has no table
abbrev pub no_rules : RulesRecord
no_rules = record { exclude_features = []; mutually_exclusive_features = []; at_least_one_of = []; group_features = []; optional_deps = None; exclude_no_default_features = false; exclude_all_features = false; depth = None; strength = None }

-- a package; its rules, or the first fault of their table
pub record PackageRecord : Type 0 where
  pub id : Name
  pub name : Name
  pub version : Name
  pub dependencies : List DependencyRecord
  pub features : FeatureMap
  pub manifest_path : Name
  pub publish : Bool
  pub rust_version : Option Name
  pub rules : FieldReading RulesRecord

-- how a package is depended on: of which kind, and for which target
pub record KindRecord : Type 0 where
  pub kind : Option Name
  pub target : Option Name

-- a dependency of a node: the place of a package
pub record NodeDepRecord : Type 0 where
  pub pkg : ℕ
  pub dep_kinds : List KindRecord

-- the nodes of the graph of dependencies by the places of their packages, in increasing order: the
-- dependencies of each
abbrev pub Nodes : Type 0
Nodes = List (ℕ × List NodeDepRecord)

-- the dependencies of the node of the package at a place
abbrev pub node_at : Nodes → ℕ → Option (List NodeDepRecord)
node_at nodes at = lookup (λ place. at == place) nodes

-- all that cargo reports of a workspace, with the rules of its own table
pub record MetadataRecord : Type 0 where
  pub cargo_version : ℕ
  pub packages : List PackageRecord
  pub workspace_members : List ℕ
  pub resolve : Nodes
  pub workspace_root : Name
  pub target_directory : Option Name
  pub rules : FieldReading RulesRecord
