-- What a sample of a package's sets shows. A pattern is a list of candidates, each on or off.
use Rattle.std.specs.Prelude.{◌≡◌, ◌≤◌, ◌+◌, ℕ, List, [], ◌∷◌, Bool, cond, IsTrue, All, Contains, length, ◌↔◌}
use Rattle.hack_samples.specs.declared.sets.Setting.{Setting}
use Rattle.hack_features.specs.declared.rules.Rules.{Rules}
use Rattle.hack_sets.specs.Sets.{IsSelection, IsBefore, Pairwise}
use Rattle.hack_features.specs.Rules.{Choice, names_at, IsEnabledBy, IsListed}
use Rattle.hack_features.specs.View.{choice_of, size_of, may_of, whole_of}

-- the candidate is on in the set: the set enables each of its names
abbrev pub IsOn : Choice → List ℕ → ℕ → Type 0
IsOn c s p = All (IsEnabledBy c s) (names_at c p)

-- the set shows the pattern: each of its candidates is on exactly where the pattern says so
abbrev pub SetShows : Choice → List Setting → List ℕ → Type 0
SetShows c pattern s = All (λ setting. IsOn c s setting.candidate ↔ IsTrue setting.on) pattern

-- one of the sets shows the pattern
abbrev pub SomeSetShows : Choice → List Setting → List (List ℕ) → Type 0
SomeSetShows c pattern sets = (by : List ℕ) × Contains sets by × SetShows c pattern by

-- each pattern of at most t candidates that some listed set shows is shown by one of the sets
abbrev pub CoversPatterns : Choice → ℕ → ℕ → List (List ℕ) → Type 0
CoversPatterns c n t sets =
    (pattern : List Setting) → length pattern ≤ t → (s : List ℕ) → IsSelection n s → IsListed c s → SetShows c pattern s → SomeSetShows c pattern sets

-- the sets need s: some pattern of at most t candidates is shown by s and by no other of them
pub record IsNeeded (c : Choice) (t : ℕ) (sets : List (List ℕ)) (s : List ℕ) : Type 0 where
  pub pattern : List Setting
  pub few : length pattern ≤ t
  pub shows : SetShows c pattern s
  pub alone : (u : List ℕ) → Contains sets u → SetShows c pattern u → u ≡ s

-- the sets are lean: they need each of them
abbrev pub IsLean : Choice → ℕ → List (List ℕ) → Type 0
IsLean c t sets = All (IsNeeded c t sets) sets

-- the sets are listed, and each is before all later ones
pub record IsSample (c : Choice) (n : ℕ) (sets : List (List ℕ)) : Type 0 where
  pub selections : All (IsSelection n) sets
  pub listed : All (IsListed c) sets
  pub ordered : Pairwise IsBefore sets

-- the places of the flags that are true, counted from k
abbrev pub positions_from : ℕ → List Bool → List ℕ
positions_from k [] = []
positions_from k (b ∷ s) = cond b (k ∷ positions_from (k + 1) s) (positions_from (k + 1) s)

-- the places of the flags that are true
abbrev pub positions_of : List Bool → List ℕ
positions_of s = positions_from 0 s

-- the rules are the same, but for the number of questions that they were asked
pub record IsSame (earlier later : Rules) : Type 0 where
  pub choice : choice_of later ≡ choice_of earlier
  pub size : size_of later ≡ size_of earlier
  pub may : may_of later ≡ may_of earlier
  pub whole : whole_of later ≡ whole_of earlier
