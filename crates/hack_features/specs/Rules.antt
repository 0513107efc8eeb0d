-- Which sets of features a package's powerset lists. A set is an increasing list of positions in the list of candidates.
use Rattle.std.specs.Prelude.{◌≡◌, ◌≢◌, ◌<◌, ℕ, List, [], ◌∷◌, flat_map, length, Option, All, Contains, ◌↔◌, ◌⊎◌, Bool, cond}
use Rattle.std.specs.List.{slice_index_or}
use Rattle.hack_base.specs.Names.{Name}
use Rattle.hack_routes.specs.FeatureMap.{FeatureMap, IsKey, Enables, Reaches, EnablesOneOf}
use Rattle.hack_sets.specs.Sets.{IsSelection, IsBefore, IsWithin, Pairwise}

-- what the sets of a package are chosen from, and the rules; a candidate is the list of its names
pub record Choice : Type 0 where
  pub map : FeatureMap
  pub candidates : List (List Name)
  pub depth : Option ℕ
  pub at_least_one_of : List (List Name)
  pub exclusive : List (List Name)

-- the groups that are not lifted
abbrev pub unlifted_groups : List (List Name) → List Bool → List (List Name)
unlifted_groups [] lifted = []
unlifted_groups (group ∷ groups) [] = group ∷ unlifted_groups groups []
unlifted_groups (group ∷ groups) (lift ∷ lifted) = cond lift (unlifted_groups groups lifted) (group ∷ unlifted_groups groups lifted)

-- the names of the candidate at a position
abbrev pub names_at : Choice → ℕ → List Name
names_at c p = slice_index_or c.candidates p []

-- the names of a set's members, one after another
abbrev pub names_in : Choice → List ℕ → List Name
names_in c s = flat_map (names_at c) s

-- some name of the set enables y
abbrev pub IsEnabledBy : Choice → List ℕ → Name → Type 0
IsEnabledBy c s y = (by : Name) × Contains (names_in c s) by × Enables c.map by y

-- both sets enable the same names
abbrev pub EnableTheSame : Choice → List ℕ → List ℕ → Type 0
EnableTheSame c s t = (y : Name) → IsEnabledBy c s y ↔ IsEnabledBy c t y

-- a name of the first candidate is a key that differs from every name of the second and enables each of them
abbrev pub SparesNames : FeatureMap → List Name → List Name → Type 0
SparesNames m names others =
    (by : Name) × Contains names by × IsKey m by × All (λ y. (y ≢ by) × Enables m by y) others

-- the candidate at p spares the one at q
abbrev pub Spares : Choice → ℕ → ℕ → Type 0
Spares c p q = SparesNames c.map (names_at c p) (names_at c q)

-- the set is redundant: a member spares a member
abbrev pub IsRedundant : Choice → List ℕ → Type 0
IsRedundant c s = (p : ℕ) × (q : ℕ) × Contains s p × Contains s q × Spares c p q

-- not both names reach the group
abbrev pub NotBothReach : FeatureMap → List Name → Name → Name → Type 0
NotBothReach m group x y = Reaches m group x → Reaches m group y → ⊥

-- the set is exclusive: each group is reached by at most one of its names, repeats counted
abbrev pub IsExclusive : Choice → List ℕ → Type 0
IsExclusive c s = All (λ group. Pairwise (NotBothReach c.map group) (names_in c s)) c.exclusive

-- the candidate at p reaches the group: some name of it does
abbrev pub CandidateReaches : Choice → List Name → ℕ → Type 0
CandidateReaches c group p = (name : Name) × Contains (names_at c p) name × Reaches c.map group name

-- some name of the set is a key that enables a name of the group
abbrev pub Serves : Choice → List Name → List ℕ → Type 0
Serves c group s = (name : Name) × Contains (names_in c s) name × EnablesOneOf c.map group name

-- the set is required to serve each at-least-one group that some key serves
abbrev pub IsRequired : Choice → List ℕ → Type 0
IsRequired c s = All (λ group. (key : Name) → EnablesOneOf c.map group key → Serves c group s) c.at_least_one_of

-- the set is permitted: it keeps the depth, and is exclusive and not redundant
pub record IsPermitted (c : Choice) (s : List ℕ) : Type 0 where
  pub within : IsWithin c.depth s
  pub lean : ¬ IsRedundant c s
  pub exclusive : IsExclusive c s

-- the set has to be covered: it isn't empty, keeps the depth, is exclusive, and serves the groups
pub record IsWanted (c : Choice) (s : List ℕ) : Type 0 where
  pub nonempty : s ≢ []
  pub within : IsWithin c.depth s
  pub exclusive : IsExclusive c s
  pub required : IsRequired c s

-- the set is listed: it has to be covered, and isn't redundant
pub record IsListed (c : Choice) (s : List ℕ) : Type 0 where
  pub wanted : IsWanted c s
  pub lean : ¬ IsRedundant c s

-- t covers s: it is listed, inside s, and enables the same names
pub record Covers (c : Choice) (s t : List ℕ) : Type 0 where
  pub selection : IsSelection (length c.candidates) t
  pub listed : IsListed c t
  pub inside : All (Contains s) t
  pub same : EnableTheSame c s t

-- each set that has to be covered is covered by one of these
abbrev pub AreCovers : Choice → ℕ → List (List ℕ) → Type 0
AreCovers c n sets = (s : List ℕ) → IsSelection n s → IsWanted c s → (t : List ℕ) × Covers c s t × Contains sets t

-- t is the first, in the order of sets, of those that cover s
pub record IsFirstCover (c : Choice) (s t : List ℕ) : Type 0 where
  pub covers : Covers c s t
  pub first : (u : List ℕ) → Covers c s u → IsBefore t u ⊎ (t ≡ u)

-- each candidate has one name, and no two candidates' names are the same or enable each other
pub record AreSingle (c : Choice) : Type 0 where
  pub one : (p : ℕ) → p < length c.candidates → length (names_at c p) ≡ 1
  pub apart : (p q : ℕ) → p < length c.candidates → q < length c.candidates → p ≢ q → (x y : Name)
      → Contains (names_at c p) x → Contains (names_at c q) y → (x ≢ y) × (Enables c.map x y → Enables c.map y x → ⊥)
