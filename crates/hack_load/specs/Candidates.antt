-- The candidates of a package: its features, its optional dependencies, and the features of its
-- dependencies.
use Rattle.std.specs.Prelude.{◌≡◌, ℕ, Bool, true, not, ◌&&◌, List, [], ◌++◌, map, filter, Option, None, codes, is_some, is_none, option_map, slice_get, unwrap_or, if◌then◌else◌}
use Rattle.std.specs.List.{find, flat_map, list_any}
use Rattle.std.specs.Map.{keys_of, lookup}
use Rattle.std.specs.Str.{bytes_eq}
use Rattle.hack_base.specs.Names.{Name}
use Rattle.hack_routes.specs.FeatureMap.{FeatureMap}
use Rattle.hack_metadata.specs.MetadataReading.{distinct}
use Rattle.hack_metadata.specs.Optional.{optional_in}
use Rattle.hack_metadata.specs.Records.{DependencyRecord, PackageRecord, KindRecord, NodeDepRecord, MetadataRecord, node_at}

-- ---- optional dependencies

-- some value of the map names the dependency by `dep:`
abbrev pub is_named : FeatureMap → Name → Bool
is_named m dep = list_any (λ e. list_any (bytes_eq (codes "dep:" ++ dep)) e.1) m

-- the dependency is a feature by itself: no key has its name, and no value names it by `dep:`
abbrev pub is_implicit : FeatureMap → Name → Bool
is_implicit m dep = not (is_some (lookup (bytes_eq dep) m)) && not (is_named m dep)

-- the optional dependencies that are features by themselves, in their order
abbrev pub optional_names : FeatureMap → List DependencyRecord → List Name
optional_names m ds = distinct bytes_eq (filter (is_implicit m) (optional_in ds))

-- ---- features of dependencies

-- a normal dependency, for every target
abbrev pub is_normal : KindRecord → Bool
is_normal k = is_none k.kind && is_none k.target

-- the name that dependencies use for a package: the one that the manifest gives the first of them
-- with the package's name
abbrev pub name_among_dependencies : List DependencyRecord → Name → Option Name
name_among_dependencies ds name =
    option_map (λ d. unwrap_or d.rename d.name) (find (λ d. bytes_eq d.name name) ds)

-- a dependency, and a feature of it
abbrev pub Path : Type 0
Path = Name × Name

-- the features of a dependency
abbrev pub paths_to : Name → FeatureMap → List Path
paths_to dep m = map (λ feature. (dep, feature)) (keys_of m)

-- the features of a package, where one of the dependencies names it
abbrev pub paths_in : List DependencyRecord → PackageRecord → List Path
paths_in ds p = unwrap_or (option_map (λ dep. paths_to dep p.features) (name_among_dependencies ds p.name)) []

-- the features of a dependency of a node, where it is a normal one
abbrev pub node_paths : List PackageRecord → List DependencyRecord → NodeDepRecord → List Path
node_paths packages ds d = if list_any is_normal d.dep_kinds then unwrap_or (option_map (paths_in ds) (slice_get packages d.pkg)) [] else []

-- the features of the dependencies of a node, in their order
abbrev pub deps_paths : List PackageRecord → List DependencyRecord → List NodeDepRecord → List Path
deps_paths packages ds deps = flat_map (node_paths packages ds) deps

-- ---- the candidates

-- the dependencies of the package at a place
abbrev pub dependencies_at : List PackageRecord → ℕ → List DependencyRecord
dependencies_at packages at = unwrap_or (option_map (λ p. p.dependencies) (slice_get packages at)) []

-- the features of the dependencies of the package at a place, where they are asked for
abbrev pub paths_at : MetadataRecord → ℕ → Bool → List Path
paths_at m at asked = if asked then unwrap_or (option_map (deps_paths m.packages (dependencies_at m.packages at)) (node_at m.resolve at)) [] else []

-- the features of dependencies are asked for, and the node of the package is missing
pub record MissesNode (m : MetadataRecord) (at : ℕ) (asked : Bool) : Type 0 where
  pub are_asked : asked ≡ true
  pub missing : node_at m.resolve at ≡ None
