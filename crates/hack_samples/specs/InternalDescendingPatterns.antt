-- Patterns in descending order of their candidates, and which of them are covered.
use Rattle.std.specs.Prelude.{◌<◌, ◌≤◌, ℕ, List, [], ◌∷◌, ◌++◌, Bool, Contains, length}
use Rattle.hack_samples.specs.Samples.{Shows, IsListedMask, SomeShows}
use Rattle.hack_samples.specs.declared.sets.Setting.{Setting}

-- some listed set shows the pattern
pub record IsPossible (may : List Bool → Bool) (n : ℕ) (required : List (List ℕ)) (providers : List (List (List ℕ))) (pattern : List Setting) : Type 0 where
  pub by : List Bool
  pub listed : IsListedMask may n required by
  pub shows : Shows providers pattern by

-- the candidates are in descending order, all below the limit
abbrev pub Descends : ℕ → List Setting → Type 0
Descends limit [] = Unit {0}
Descends limit (setting ∷ pattern) = (setting.candidate < limit) × Descends setting.candidate pattern

-- each possible pattern that continues this one by up to `more` such settings is shown
abbrev pub CoversBelow : (List Bool → Bool) → ℕ → List (List ℕ) → List (List (List ℕ)) → List Setting → ℕ → ℕ → List (List Bool) → Type 0
CoversBelow may n required providers pattern limit more sets =
    (rest : List Setting) → Descends limit rest → length rest ≤ more → IsPossible may n required providers (pattern ++ rest) → SomeShows providers (pattern ++ rest) sets

-- each pattern that continues this one by up to `more` such settings, as s does, is shown by one of the others
abbrev pub IsShownBelow : List (List (List ℕ)) → List Bool → List Setting → ℕ → ℕ → List (List Bool) → Type 0
IsShownBelow providers s pattern limit more others =
    (rest : List Setting) → Descends limit rest → length rest ≤ more → Shows providers (pattern ++ rest) s → SomeShows providers (pattern ++ rest) others

-- each pattern of at most t candidates that one of the earlier sets shows is shown by one of the later
abbrev pub AreShown : List (List (List ℕ)) → ℕ → List (List Bool) → List (List Bool) → Type 0
AreShown providers t earlier later =
    (pattern : List Setting) → length pattern ≤ t → SomeShows providers pattern earlier → SomeShows providers pattern later

-- some pattern of at most t candidates is shown by s, and by none of the others
pub record IsAlone (providers : List (List (List ℕ))) (t : ℕ) (s : List Bool) (others : List (List Bool)) : Type 0 where
  pub pattern : List Setting
  pub few : length pattern ≤ t
  pub shows : Shows providers pattern s
  pub none : SomeShows providers pattern others → ⊥

-- each of the earlier sets is one of the later
abbrev pub AreKept : List (List Bool) → List (List Bool) → Type 0
AreKept earlier later = (s : List Bool) → Contains earlier s → Contains later s
