-- What a sample of sets covers.
use Rattle.std.specs.Prelude.{◌≡◌, ◌≤◌, ℕ, List, Bool, true, All, AllPairs, Contains, length, Some, slice_get}
use Rattle.hack_samples.specs.Sets.{is_on, has_each}
use Rattle.hack_samples.specs.Order.{IsMaskBefore}
use Rattle.hack_samples.specs.declared.sets.Setting.{Setting}

-- the set shows the pattern: each of its candidates is on or off in it as the pattern says
abbrev pub Shows : List (List (List ℕ)) → List Setting → List Bool → Type 0
Shows providers pattern s = All (λ setting. is_on providers s setting.candidate ≡ setting.on) pattern

-- the set is listed: it is over n positions, allowed, and has a member of each required group
pub record IsListedMask (may : List Bool → Bool) (n : ℕ) (required : List (List ℕ)) (s : List Bool) : Type 0 where
  pub size : length s ≡ n
  pub allowed : may s ≡ true
  pub met : has_each s required ≡ true

-- one of the sets shows the pattern
pub record SomeShows (providers : List (List (List ℕ))) (pattern : List Setting) (sets : List (List Bool)) : Type 0 where
  pub by : List Bool
  pub chosen : Contains sets by
  pub shows : Shows providers pattern by

-- each pattern of at most t candidates that some listed set shows is shown by one of the sets
abbrev pub ShowEachPattern : (List Bool → Bool) → ℕ → List (List ℕ) → List (List (List ℕ)) → ℕ → List (List Bool) → Type 0
ShowEachPattern may n required providers t sets =
    (pattern : List Setting) → length pattern ≤ t → (s : List Bool) → IsListedMask may n required s → Shows providers pattern s → SomeShows providers pattern sets

-- the sets need s: some pattern of at most t candidates is shown by s and by no other of them
pub record IsNeeded (providers : List (List (List ℕ))) (t : ℕ) (sets : List (List Bool)) (s : List Bool) : Type 0 where
  pub pattern : List Setting
  pub few : length pattern ≤ t
  pub shows : Shows providers pattern s
  pub alone : (r : List Bool) → Contains sets r → Shows providers pattern r → r ≡ s

-- the sets are lean: they need each of them
abbrev pub IsLean : List (List (List ℕ)) → ℕ → List (List Bool) → Type 0
IsLean providers t sets = All (IsNeeded providers t sets) sets

-- the sets are listed, and each is before all later ones
pub record IsMaskSample (may : List Bool → Bool) (n : ℕ) (required : List (List ℕ)) (sets : List (List Bool)) : Type 0 where
  pub listed : All (IsListedMask may n required) sets
  pub ordered : AllPairs IsMaskBefore sets

-- a row, which says of each candidate whether it is on, shows the pattern: it has what the pattern says
abbrev pub RowShows : List Bool → List Setting → Type 0
RowShows row pattern = All (λ setting. slice_get row setting.candidate ≡ Some setting.on) pattern
