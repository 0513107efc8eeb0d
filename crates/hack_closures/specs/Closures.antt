-- Positions of candidates: which there are, what they enable, and what is built for sets of them.
use Rattle.std.specs.Prelude.{◌≡◌, ◌≢◌, ◌<◌, ◌+◌, ℕ, List, [], ◌∷◌, length, Bool, cond, IsTrue, All, Contains, ◌↔◌}
use Rattle.std.specs.List.{slice_index_or}
use Rattle.hack_base.specs.Names.{Name}
use Rattle.hack_conflicts.specs.Sets.{Has, mark}
use Rattle.hack_conflicts.specs.Rules.{IsPreorder, IsChoice, size_of, enables}
use Rattle.hack_conflicts.specs.declared.rules.Rules.{Rules as SearchRules}
use Rattle.hack_sets.specs.Sets.{IsSelection}
use Rattle.hack_features.specs.Rules.{Choice, CandidateReaches, IsExclusive, IsWanted, IsListed, IsEnabledBy, IsFirstCover}
use Rattle.hack_features.specs.Samples.{IsOn}
use Rattle.hack_features.specs.Settings.{IsOnWithAll}
use Rattle.hack_closures.specs.declared.build.Build.{Build}
use Rattle.hack_closures.specs.declared.build.Build.TheVariants.{NoFeatures, AllFeatures, Set}

-- the candidates that reach no exclusion group by two names, each once and in order
pub record AreAlone (c : Choice) (alone : List ℕ) : Type 0 where
  pub selection : IsSelection (length c.candidates) alone
  pub exact : (p : ℕ) → p < length c.candidates → Contains alone p ↔ IsExclusive c (p ∷ [])

-- the candidate of a position
abbrev pub candidate_at : List ℕ → ℕ → ℕ
candidate_at alone x = slice_index_or alone x 0

-- candidate p turns candidate q on: it enables each of its names, and reaches each exclusion group
-- that q reaches. The second follows unless names have slashes: one that is enabled as a whole is
-- compared with groups only up to its slash.
pub record TurnsOn (c : Choice) (p q : ℕ) : Type 0 where
  pub on : IsOn c (p ∷ []) q
  pub reaches : All (λ group. CandidateReaches c group q → CandidateReaches c group p) c.exclusive

-- each candidate's position enables those of the candidates that it turns on. If there is a position
-- of all features, it is the last, enables itself and those of the candidates that are on with all
-- features, and no other enables it.
pub record AreEnabling (c : Choice) (alone : List ℕ) (all : Bool) (r : SearchRules) : Type 0 where
  pub size : size_of r ≡ length alone + cond all 1 0
  pub order : IsPreorder r
  pub candidates : (x y : ℕ) → x < length alone → y < length alone → IsTrue (enables r x y) ↔ TurnsOn c (candidate_at alone x) (candidate_at alone y)
  pub to_all : (x : ℕ) → x < length alone → ¬ IsTrue (enables r x (length alone))
  pub from_all : IsTrue all → (y : ℕ) → y < length alone → IsTrue (enables r (length alone) y) ↔ IsOnWithAll c (candidate_at alone y)

-- s has the positions of the candidates that a candidate of t turns on, and no other position
abbrev pub IsClosureOf : Choice → List ℕ → List ℕ → List Bool → Type 0
IsClosureOf c alone t s = (x : ℕ) → Has s x ↔ ((x < length alone) × (p : ℕ) × Contains t p × TurnsOn c p (candidate_at alone x))

-- what a set turns on may be chosen, if the set is listed or has to be covered by a listed one
abbrev pub AreChosen : Choice → List ℕ → SearchRules → Type 0
AreChosen c alone r = (t : List ℕ) → IsSelection (length c.candidates) t → IsWanted c t → (s : List Bool) × IsClosureOf c alone t s × IsChoice r s

-- p is the candidate of one of the set's positions
abbrev pub HasCandidate : List ℕ → List Bool → ℕ → Type 0
HasCandidate alone s p = (x : ℕ) × (x < length alone) × Has s x × (candidate_at alone x ≡ p)

-- t is listed, its members are candidates of the set's positions, and it enables just the names that
-- these candidates enable
pub record StandsFor (c : Choice) (alone : List ℕ) (s : List Bool) (t : List ℕ) : Type 0 where
  pub selection : IsSelection (length c.candidates) t
  pub listed : IsListed c t
  pub among : All (HasCandidate alone s) t
  pub same : (y : Name) → IsEnabledBy c t y ↔ ((p : ℕ) × HasCandidate alone s p × IsEnabledBy c (p ∷ []) y)

-- x is a top position of the set: each other position of the set that enables it is a greater one, which it
-- enables too
pub record IsTop (r : SearchRules) (s : List Bool) (x : ℕ) : Type 0 where
  pub member : Has s x
  pub others : (y : ℕ) → Has s y → y ≢ x → IsTrue (enables r y x) → (x < y) × IsTrue (enables r x y)

-- tops are the candidates of the set's top positions
abbrev pub AreTops : List ℕ → SearchRules → List Bool → List ℕ → Type 0
AreTops alone r s tops = (p : ℕ) → Contains tops p ↔ ((x : ℕ) × (x < length alone) × IsTop r s x × (candidate_at alone x ≡ p))

-- t is the first set that covers the candidates of the set's top positions: there is at most one such t
abbrev pub IsFirstFor : Choice → List ℕ → SearchRules → List Bool → List ℕ → Type 0
IsFirstFor c alone r s t = (tops : List ℕ) × AreTops alone r s tops × IsFirstCover c tops t

-- what is built for a set: all features if it has their position, and then it is what that enables; no
-- features if it is empty; else the first listed set for its top positions, which stands for it
abbrev pub IsBuildFor : Choice → List ℕ → Bool → SearchRules → List Bool → Build → Type 0
IsBuildFor c alone all r s NoFeatures = (x : ℕ) → ¬ Has s x
IsBuildFor c alone all r s AllFeatures = IsTrue all × Has s (length alone) × ((x : ℕ) → mark s x ≡ enables r (length alone) x)
IsBuildFor c alone all r s (Set t) = (¬ Has s (length alone)) × StandsFor c alone s t.items × IsFirstFor c alone r s t.items
