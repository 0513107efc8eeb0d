-- What only private functions of the crate promise each other.
use Rattle.std.specs.Prelude.{◌≡◌, ◌==◌, List, ◌++◌, Option, None, Some, cond, codes, nat_eq, IsTrue, Contains, ◌↔◌, ◌⊎◌}
use Rattle.std.specs.List.{IsDistinct, starts_with, before_first}
use Rattle.std.specs.Str.{bytes_eq}
use Rattle.hack_base.specs.Names.{Name, names_behind}
use Rattle.hack_routes.specs.FeatureMap.{Chain}
use Rattle.hack_routes.specs.NameSets.{NameSet, has_name}
use Rattle.hack_routes.specs.declared.reach.Found.{Found}
use Rattle.hack_routes.specs.declared.reach.Edges.{Edges}
use Rattle.hack_routes.specs.declared.reach.Edges.TheVariants.{Enabling, Reaching}

-- the name that a value leads to, if any
abbrev pub target_of : Edges → Name → Option Name
target_of Enabling value = cond (starts_with nat_eq value (codes "dep:")) None (Some value)
target_of Reaching value = Some (before_first (λ b. b == 47) value)

-- one of the values leads to the name
pub record IsTarget (edges : Edges) (values : List Name) (name : Name) : Type 0 where
  pub value : Name
  pub listed : Contains values value
  pub leads : target_of edges value ≡ Some name

-- the set has exactly the names in the list
abbrev pub HasJust : NameSet → List Name → Type 0
HasJust s names = (y : Name) → IsTrue (has_name s y) ↔ Contains names y

-- the names that a search has found, in the order in which it found them
abbrev pub names_found : Found → List Name
names_found found = names_behind found.order.items

-- the set that a search keeps beside its list has exactly the names in the list
abbrev pub IsSeenInStep : Found → Type 0
IsSeenInStep found = HasJust found.seen (names_found found)

-- new begins with old and has exactly its names and those for which P holds, with no new repeats
pub record Adds (P : Name → Type 0) (old new : List Name) : Type 0 where
  pub kept : (more : List Name) × (new ≡ old ++ more)
  pub added : (y : Name) → P y → Contains new y
  pub only : (y : Name) → Contains new y → Contains old y ⊎ P y
  pub distinct : IsDistinct bytes_eq old → IsDistinct bytes_eq new

-- found has exactly the names to which a chain of edges leads from x, each once
pub record IsReach (edge : Name → Name → Type 0) (x : Name) (found : List Name) : Type 0 where
  pub exact : (y : Name) → Contains found y ↔ Chain edge x y
  pub distinct : IsDistinct bytes_eq found
