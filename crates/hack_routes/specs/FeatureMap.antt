-- What a package's feature map says: which names enable a name, and which reach it.
use Rattle.std.specs.Prelude.{◌≡◌, ◌==◌, List, [], map, String, Vec, string_bytes, unwrap_or, is_some, IsTrue, Contains, codes, nat_eq}
use Rattle.std.specs.List.{starts_with, before_first}
use Rattle.std.specs.BTreeMap.{BTreeMap}
use Rattle.std.specs.Map.{lookup}
use Rattle.std.specs.Str.{bytes_eq}
use Rattle.hack_base.specs.Names.{Name, names_of}

-- a feature map: names, each with its values
abbrev pub FeatureMap : Type 0
FeatureMap = List (Name × List Name)

-- the feature map, as plain data, that a map of texts is
abbrev pub feature_map : {Y Z : Type 0} → BTreeMap (String Y) (Vec (String Y) Z) → FeatureMap
feature_map m = map (λ e. (string_bytes e.0, names_of e.1.items)) m.entries

-- the values of a name; none if it is no key
abbrev pub values_at : FeatureMap → Name → List Name
values_at m x = unwrap_or (lookup (bytes_eq x) m) []

-- the name is a key of the map
abbrev pub IsKey : FeatureMap → Name → Type 0
IsKey m x = IsTrue (is_some (lookup (bytes_eq x) m))

-- a chain of edges from one to another; the empty chain leads from each to itself
pub data Chain {X : Type 0} (edge : X → X → Type 0) : X → X → Type 0 where
  here : {x : X} → Chain edge x x
  step : {x y z : X} → edge x y → Chain edge y z → Chain edge x z

-- v is a value of x, taken whole, and doesn't begin with `dep:`, as the name of a dependency does
abbrev pub HasEdge : FeatureMap → Name → Name → Type 0
HasEdge m x v = Contains (values_at m x) v × ¬ IsTrue (starts_with nat_eq v (codes "dep:"))

-- x enables y: y is x, or a chain of values leads from x to y
abbrev pub Enables : FeatureMap → Name → Name → Type 0
Enables m x y = Chain (HasEdge m) x y

-- v is a value of x, cut before its first slash; a dependency is one too
abbrev pub HasCutEdge : FeatureMap → Name → Name → Type 0
HasCutEdge m x v = (value : Name) × Contains (values_at m x) value × (before_first (λ b. b == 47) value ≡ v)

-- x reaches the group: a chain of cut values, maybe empty, leads from x to a name of the group
abbrev pub Reaches : FeatureMap → List Name → Name → Type 0
Reaches m group x = (name : Name) × Contains group name × Chain (HasCutEdge m) x name

-- x is a key that enables a name of the group
abbrev pub EnablesOneOf : FeatureMap → List Name → Name → Type 0
EnablesOneOf m group x = IsKey m x × (name : Name) × Contains group name × Enables m x name
