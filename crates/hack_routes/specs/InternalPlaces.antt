-- What only private functions of the crate promise each other.
use Rattle.std.specs.Prelude.{◌≡◌, ◌<◌, ℕ, List, [], ◌∷◌, length, Bool, Contains, IfSome, Some, is_some, cond, ◌+◌, ◌++◌, ◌⊎◌, ◌↔◌, IsTrue}
use Rattle.std.specs.List.{slice_index_or, filter_map, IsDistinct}
use Rattle.std.specs.Borrow.{Bor}
use Rattle.std.specs.BTreeMap.{BTreeMap}
use Rattle.std.specs.Map.{lookup}
use Rattle.std.specs.Str.{bytes_eq}
use Rattle.hack_base.specs.Names.{Name}
use Rattle.hack_routes.specs.FeatureMap.{FeatureMap, values_at}
use Rattle.hack_routes.specs.NameSets.{get_at}
use Rattle.hack_routes.specs.Search.{edge_of}
use Rattle.hack_routes.specs.InternalSearch.{target_of}
use Rattle.hack_routes.specs.Rows.{bit}
use Rattle.hack_routes.specs.declared.reach.Edges.{Edges}
use Rattle.hack_routes.specs.Places.{AreAt, name_at}

-- each name has one place, which the map has for it
pub record HasPlaces (names : List Name) (places : BTreeMap (Bor Name) ℕ) : Type 0 where
  pub found : (y : Name) → IfSome (get_at places y) (λ place. (place < length names) × (name_at names place ≡ y))
  pub kept : (place : ℕ) → place < length names → get_at places (name_at names place) ≡ Some place
  pub distinct : IsDistinct bytes_eq names

-- the names that the values lead to, in the order of the values
abbrev pub targets_of : Edges → List Name → List Name
targets_of edges values = filter_map (target_of edges) values

-- one edge leads from a place to another: the other is in its row
abbrev pub Leads : List (List ℕ) → ℕ → ℕ → Type 0
Leads rows from to = Contains (slice_index_or rows from []) to

-- the first rows and keys say for each place whether its name is a key, and what its values lead to
pub record AreRows (edges : Edges) (m : FeatureMap) (names : List Name) (keys : List Bool) (rows : List (List ℕ)) : Type 0 where
  pub keyed : (k : ℕ) → k < length rows → bit keys k ≡ is_some (lookup (bytes_eq (name_at names k)) m)
  pub led : (k : ℕ) → k < length rows → AreAt names (slice_index_or rows k []) (targets_of edges (values_at m (name_at names k)))
  pub level : length keys ≡ length rows

-- how many entries are true
abbrev pub ones : List Bool → ℕ
ones [] = 0
ones (b ∷ bs) = cond b 1 0 + ones bs

-- the marks are at exactly the places in the list, which has each of them once
pub record AreMarked (marks : List Bool) (order : List ℕ) : Type 0 where
  pub told : (place : ℕ) → IsTrue (bit marks place) ↔ Contains order place
  pub count : length order ≡ ones marks

-- new begins with old, and has exactly the places of old and those for which P holds
pub record AddsPlaces (P : ℕ → Type 0) (old new : List ℕ) : Type 0 where
  pub kept : (more : List ℕ) × (new ≡ old ++ more)
  pub added : (place : ℕ) → P place → Contains new place
  pub only : (place : ℕ) → Contains new place → Contains old place ⊎ P place

-- new begins with the names of old
abbrev pub IsMore : List Name → List Name → Type 0
IsMore old new = (more : List Name) × (new ≡ old ++ more)

-- new begins with the names of old, and each other name is one that an edge leads to
pub record IsGrown (edges : Edges) (m : FeatureMap) (old new : List Name) : Type 0 where
  pub kept : (more : List Name) × (new ≡ old ++ more)
  pub only : (y : Name) → Contains new y → Contains old y ⊎ ((x : Name) × edge_of edges m x y)
