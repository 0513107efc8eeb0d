-- Names by their places in a table of names, and places that lead to places.
use Rattle.std.specs.Prelude.{◌≡◌, ◌<◌, ℕ, List, [], map, length, Bool, All, Contains, is_some, ◌↔◌, IsTrue}
use Rattle.std.specs.List.{slice_index_or}
use Rattle.std.specs.Map.{lookup}
use Rattle.std.specs.Str.{bytes_eq}
use Rattle.hack_base.specs.Names.{Name}
use Rattle.hack_routes.specs.Rows.{leads, bit}
use Rattle.hack_routes.specs.FeatureMap.{FeatureMap, IsKey, Chain}
use Rattle.hack_routes.specs.Search.{edge_of}
use Rattle.hack_routes.specs.declared.reach.Edges.{Edges}

-- the name at a place
abbrev pub name_at : List Name → ℕ → Name
name_at names place = slice_index_or names place []

-- the places are those of these names, in their order
pub record AreAt (names : List Name) (places : List ℕ) (shown : List Name) : Type 0 where
  pub within : All (λ place. place < length names) places
  pub same : map (name_at names) places ≡ shown

-- each row has the places of the names in the list of the same rank
pub record AreAllAt (names : List Name) (rows : List (List ℕ)) (groups : List (List Name)) : Type 0 where
  pub count : length rows ≡ length groups
  pub each : (q : ℕ) → q < length groups → AreAt names (slice_index_or rows q []) (slice_index_or groups q [])

-- the table has each key and all names that chains of edges lead to from its names, each once;
-- keys say which names are keys, and marks say what chains of edges lead to from each name
pub record AreRoutes (edges : Edges) (m : FeatureMap) (names : List Name) (keys : List Bool) (marks : List (List Bool)) : Type 0 where
  pub known : (x : Name) → IsKey m x → Contains names x
  pub closed : (i : ℕ) (y : Name) → i < length names → Chain (edge_of edges m) (name_at names i) y → Contains names y
  pub apart : (i j : ℕ) → i < length names → j < length names → name_at names i ≡ name_at names j → i ≡ j
  pub keyed : (k : ℕ) → k < length names → bit keys k ≡ is_some (lookup (bytes_eq (name_at names k)) m)
  pub led : (i j : ℕ) → i < length names → j < length names → IsTrue (leads marks i j) ↔ Chain (edge_of edges m) (name_at names i) (name_at names j)

-- routes between the names, and the places of the names of candidates and groups
pub record ArePlaced (edges : Edges) (m : FeatureMap) (candidates groups : List (List Name)) (names : List Name) (keys : List Bool) (marks : List (List Bool)) (all each : List (List ℕ)) : Type 0 where
  pub routes : AreRoutes edges m names keys marks
  pub candidates_at : AreAllAt names all candidates
  pub groups_at : AreAllAt names each groups
