-- The features in the code, compared with plain data.
use Rattle.std.specs.Prelude.{◌≡◌, ℕ, Bool, List, ◌++◌, map, codes}
use Rattle.std.specs.List.{AllZip}
use Rattle.std.specs.Cmp.Lexicographic.{slice_cmp}
use Rattle.std.specs.List.Sorted.{IsStrictlySortedBy}
use Rattle.std.specs.Map.{keys_of}
use Rattle.std.specs.Ordering.{nat_cmp}
use Rattle.hack_base.specs.Names.{Name}
use Rattle.hack_routes.specs.FeatureMap.{FeatureMap}
use Rattle.hack_features.specs.Feature.{IsNormal, IsPath, name_of}
use Rattle.hack_features.specs.declared.feature.Feature.{Feature}
use Rattle.hack_metadata.specs.Records.{MetadataRecord}
use Rattle.hack_load.specs.Candidates.{MissesNode, dependencies_at, optional_names, paths_at}
use Rattle.hack_metadata.specs.declared.metadata.fault.MetadataFault.{MetadataFault}
use Rattle.hack_metadata.specs.declared.metadata.fault.MetadataFault.TheVariants as faults
use Rattle.hack_load.specs.declared.features.Features.{Features}

-- the names of features
abbrev pub texts_of : List Feature → List Name
texts_of fs = map name_of fs

-- the names strictly increase, in the order of bytes
abbrev pub IsRising : List Name → Type 0
IsRising names = IsStrictlySortedBy (slice_cmp nat_cmp) names

-- the names of all candidates
abbrev pub candidate_names_in : Features → List Name
candidate_names_in fs = texts_of fs.normal.items ++ (texts_of fs.optional_deps.items ++ texts_of fs.deps_features.items)

-- the candidates of the package at a place, whose manifest has this feature map: one for each
-- feature, optional dependency, and feature of a dependency, in order
pub record AreCandidates (m : MetadataRecord) (features : FeatureMap) (at : ℕ) (asked : Bool) (fs : Features) : Type 0 where
  pub normal : AllZip IsNormal (keys_of features) fs.normal.items
  pub optional :
      AllZip IsNormal (optional_names features (dependencies_at m.packages at))
      fs.optional_deps.items
  pub of_deps : AllZip (λ p f. IsPath p.0 p.1 f) (paths_at m at asked) fs.deps_features.items

-- memory was refused, or the node that is asked for is missing, and the error names `nodes`
abbrev pub IsNodeRefusal : MetadataRecord → ℕ → Bool → MetadataFault → Type 0
IsNodeRefusal m at asked faults.Memory = Unit {0}
IsNodeRefusal m at asked (faults.Field name) = (name.now ≡ codes "nodes") × MissesNode m at asked
IsNodeRefusal m at asked faults.Json = ⊥
