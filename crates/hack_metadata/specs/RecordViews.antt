-- The records of the code as plain data.
use Rattle.std.specs.Prelude.{List, ℕ, Result, Ok, Err, String, map, option_map, string_bytes}
use Rattle.std.specs.BTreeMap.{BTreeMap}
use Rattle.std.specs.Hash.{HashWrites, usize}
use Rattle.hack_base.specs.FieldReadings.{FieldReading}
use Rattle.hack_base.specs.Names.{names_of, optional_text}
use Rattle.hack_features.specs.Feature.{groups_of}
use Rattle.hack_routes.specs.FeatureMap.{feature_map}
use Rattle.hack_metadata.specs.Records.{DependencyRecord, RulesRecord, PackageRecord, KindRecord, NodeDepRecord, Nodes}
use Rattle.hack_metadata.specs.declared.metadata.package.Dependency.{Dependency}
use Rattle.hack_metadata.specs.RuleTables.{LimitsRecord}
use Rattle.hack_metadata.specs.declared.metadata.rules.Limits.{Limits}
use Rattle.hack_metadata.specs.declared.metadata.rules.RulesTable.{RulesTable}
use Rattle.hack_metadata.specs.declared.metadata.package.Package.{Package}
use Rattle.hack_metadata.specs.declared.metadata.resolve.PackageId.{PackageId}
use Rattle.hack_metadata.specs.declared.metadata.resolve.DepKindInfo.{DepKindInfo}
use Rattle.hack_metadata.specs.declared.metadata.resolve.NodeDep.{NodeDep}
use Rattle.hack_metadata.specs.declared.metadata.resolve.Node.{Node}

-- a dependency
abbrev pub dependency_view : Dependency → DependencyRecord
dependency_view d = record { name = string_bytes d.name; optional = d.optional; rename = optional_text d.rename }

-- a package's rules
abbrev pub rules_view : RulesTable → RulesRecord
rules_view t = record { exclude_features = names_of t.exclude_features.items; mutually_exclusive_features = groups_of t.mutually_exclusive_features.items; at_least_one_of = groups_of t.at_least_one_of.items; group_features = groups_of t.group_features.items; optional_deps = option_map (λ names. names_of names.items) t.optional_deps; exclude_no_default_features = t.exclude_no_default_features; exclude_all_features = t.exclude_all_features; depth = t.depth; strength = t.strength }

-- what a table says beside its lists
abbrev pub limits_view : Limits → LimitsRecord
limits_view l = record { no_default = l.no_default; all_features = l.all_features; depth = l.depth; strength = l.strength }

-- a package's rules, or the name of their first fault
abbrev pub rules_reading : {Y : Type 0} → Result RulesTable (String Y) → FieldReading RulesRecord
rules_reading (Ok t) = Ok (rules_view t)
rules_reading (Err key) = Err (string_bytes key)

-- a package
abbrev pub package_view : Package → PackageRecord
package_view p = record { id = string_bytes p.id; name = string_bytes p.name; version = string_bytes p.version; dependencies = map dependency_view p.dependencies.items; features = feature_map p.features; manifest_path = string_bytes p.manifest_path; publish = p.publish; rust_version = optional_text p.rust_version; rules = rules_reading p.rules }

-- the place of a package that an id means
abbrev pub place_at : PackageId → ℕ
place_at id = id.index

-- a kind of dependency
abbrev pub kind_view : DepKindInfo → KindRecord
kind_view k = record { kind = optional_text k.kind; target = optional_text k.target }

-- a dependency of a node
abbrev pub node_dep_view : NodeDep → NodeDepRecord
node_dep_view d = record { pkg = d.pkg.index; dep_kinds = map kind_view d.dep_kinds.items }

-- a node's dependencies
abbrev pub node_view : Node → List NodeDepRecord
node_view n = map node_dep_view n.deps.items

-- the nodes, by place
abbrev pub nodes_view : BTreeMap PackageId Node → Nodes
nodes_view nodes = map (λ e. (e.0.index, node_view e.1)) nodes.entries

-- what a hasher is given for a place
abbrev pub place_bytes : ℕ → HashWrites
place_bytes = usize
