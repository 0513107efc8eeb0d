-- What only private functions of the crate promise each other.
use Rattle.std.specs.Prelude.{◌<◌, ◌+◌, ℕ, List, [], ◌∷◌, ◌++◌, Bool, not, length, Option, IsTrue, Contains, ◌↔◌, ◌&&◌, ◌==◌}
use Rattle.std.specs.List.{slice_index_or, list_all, list_any}
use Rattle.hack_base.specs.Names.{Name}
use Rattle.hack_routes.specs.FeatureMap.{FeatureMap, Reaches, EnablesOneOf}
use Rattle.hack_features.specs.Deps.{IsDropped}
use Rattle.hack_features.specs.Tables.{count_at, is_exclusive, is_required, keeps_depth}
use Rattle.hack_routes.specs.Rows.{bit, cell, leads}

-- the set is not empty, and keeps the depth, the exclusions and the groups
abbrev pub wanted_test : Option ℕ → List (List ℕ) → List (List Bool) → List ℕ → Bool
wanted_test depth hits serves s = not (length s == 0) && (keeps_depth depth s && (is_exclusive hits s && is_required serves s))

-- one of the names, by place, is a key, differs from each of the others, and leads to it
abbrev pub spares_test : List Bool → List (List Bool) → List ℕ → List ℕ → Bool
spares_test keys marks names others = list_any (λ x. bit keys x && list_all (λ y. not (x == y) && cell marks x y) others) names

-- the name at a place is a key and leads to one of the group
abbrev pub serves_test : List Bool → List (List Bool) → List ℕ → ℕ → Bool
serves_test keys marks group x = bit keys x && list_any (leads marks x) group

-- that many of the elements have the property
pub data Counts {X : Type 0} (P : X → Type 0) : List X → ℕ → Type 0 where
  none : Counts P [] 0
  one_more : {xs : List X} {x : X} {n : ℕ} → Counts P xs n → P x → Counts P (xs ++ x ∷ []) (n + 1)
  no_more : {xs : List X} {x : X} {n : ℕ} → Counts P xs n → ¬ P x → Counts P (xs ++ x ∷ []) n

-- the relation holds of the lists' elements, place by place
pub data Matched {X Y : Type 0} (R : X → Y → Type 0) : List X → List Y → Type 0 where
  nothing : Matched R [] []
  next : {xs : List X} {ys : List Y} {x : X} {y : Y} → Matched R xs ys → R x y → Matched R (xs ++ x ∷ []) (ys ++ y ∷ [])

-- the row counts, for each candidate, its names that reach the group
abbrev pub CountsHits : FeatureMap → List (List Name) → List Name → List ℕ → Type 0
CountsHits m candidates group row = (q : ℕ) → q < length candidates → Counts (Reaches m group) (slice_index_or candidates q []) (count_at row q)

-- the row says, for each candidate, whether one of its names is a key that enables a name of the group
abbrev pub SaysServers : FeatureMap → List (List Name) → List Name → List Bool → Type 0
SaysServers m candidates group row = (q : ℕ) → q < length candidates → IsTrue (bit row q) ↔ ((x : Name) × Contains (slice_index_or candidates q []) x × EnablesOneOf m group x)

-- for each group that a key serves, in their order, a row that says which candidates serve it
pub data RowsServe (m : FeatureMap) (candidates : List (List Name)) : List (List Name) → List (List Bool) → Type 0 where
  no_rows : RowsServe m candidates [] []
  dropped_row : (group : List Name) {groups : List (List Name)} {rows : List (List Bool)}
      → RowsServe m candidates groups rows → IsDropped m group → RowsServe m candidates (groups ++ group ∷ []) rows
  kept_row : (group : List Name) {groups : List (List Name)} {rows : List (List Bool)} (server : Name) (row : List Bool)
      → RowsServe m candidates groups rows → EnablesOneOf m group server → SaysServers m candidates group row → RowsServe m candidates (groups ++ group ∷ []) (rows ++ row ∷ [])
