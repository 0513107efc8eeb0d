-- What each key of a feature map enables, and the keys that serve an at-least-one group, as tables of texts.
use Rattle.std.specs.Prelude.{◌≢◌, List, [], ◌∷◌, ◌++◌, IfSome, IsSome, IsTrue, ◌↔◌}
use Rattle.std.specs.BTreeMap.{BTreeMap}
use Rattle.std.specs.Borrow.{Bor}
use Rattle.hack_base.specs.Names.{Name}
use Rattle.hack_routes.specs.NameSets.{NameSet, has_name, get_at}
use Rattle.hack_routes.specs.FeatureMap.{FeatureMap, IsKey, Enables, EnablesOneOf}

-- the set has exactly what x enables, without x
abbrev pub IsDepsOf : FeatureMap → Name → NameSet → Type 0
IsDepsOf m x s = (y : Name) → IsTrue (has_name s y) ↔ ((y ≢ x) × Enables m x y)

-- deps has for each key, and for no other name, what the key enables, without the key itself
pub record AreDepsOf (m : FeatureMap) (deps : BTreeMap (Bor Name) NameSet) : Type 0 where
  pub keys : (x : Name) → IsSome (get_at deps x) ↔ IsKey m x
  pub each : (x : Name) → IfSome (get_at deps x) (IsDepsOf m x)

-- the set has exactly the keys that enable a name of the group
abbrev pub AreServers : FeatureMap → List Name → NameSet → Type 0
AreServers m group s = (x : Name) → IsTrue (has_name s x) ↔ EnablesOneOf m group x

-- no key enables a name of the group
abbrev pub IsDropped : FeatureMap → List Name → Type 0
IsDropped m group = (x : Name) → ¬ EnablesOneOf m group x

-- for each group that isn't dropped, in their order, the set of its keys, which is not empty
pub data ServeGroups (m : FeatureMap) : List (List Name) → List NameSet → Type 0 where
  none : ServeGroups m [] []
  dropped : (group : List Name) {groups : List (List Name)} {sets : List NameSet}
      → ServeGroups m groups sets → IsDropped m group → ServeGroups m (groups ++ group ∷ []) sets
  kept : (group : List Name) {groups : List (List Name)} {sets : List NameSet} (server : Name) (set : NameSet)
      → ServeGroups m groups sets → EnablesOneOf m group server → AreServers m group set → ServeGroups m (groups ++ group ∷ []) (sets ++ set ∷ [])
