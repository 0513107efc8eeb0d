-- Rows that say of each candidate whether it is on: in a set, or where all features of the package are.
use Rattle.std.specs.Prelude.{◌≡◌, ◌<◌, ℕ, List, Bool, false, IsTrue, All, length, ◌↔◌}
use Rattle.std.specs.List.{slice_index_or}
use Rattle.hack_base.specs.Names.{Name}
use Rattle.hack_samples.specs.declared.sets.Setting.{Setting}
use Rattle.hack_routes.specs.FeatureMap.{FeatureMap, IsKey, Enables}
use Rattle.hack_features.specs.Rules.{Choice, names_at}
use Rattle.hack_features.specs.Samples.{IsOn}

-- some key of the map enables y; a key enables itself
abbrev pub IsEnabledByKey : FeatureMap → Name → Type 0
IsEnabledByKey m y = (by : Name) × IsKey m by × Enables m by y

-- the candidate is on where all features of the package are: each of its names is enabled by a key
abbrev pub IsOnWithAll : Choice → ℕ → Type 0
IsOnWithAll c p = All (IsEnabledByKey c.map) (names_at c p)

-- the row has one entry for each candidate, which says whether P holds of the candidate's position
pub record SaysOfEach (c : Choice) (P : ℕ → Type 0) (row : List Bool) : Type 0 where
  pub count : length row ≡ length c.candidates
  pub each : (p : ℕ) → p < length c.candidates → IsTrue (slice_index_or row p false) ↔ P p

-- the row says of each candidate whether it is on in the set
abbrev pub AreSettings : Choice → List ℕ → List Bool → Type 0
AreSettings c s row = SaysOfEach c (IsOn c s) row

-- the row says of each candidate whether it is on where all features are
abbrev pub AreSettingsOfAll : Choice → List Bool → Type 0
AreSettingsOfAll c row = SaysOfEach c (IsOnWithAll c) row

-- the pattern is one of candidates of the choice
abbrev pub IsOfCandidates : Choice → List Setting → Type 0
IsOfCandidates c pattern = All (λ setting. setting.candidate < length c.candidates) pattern

-- all features show the pattern: each of its candidates is on with them exactly where the pattern says so
abbrev pub AllShow : Choice → List Setting → Type 0
AllShow c pattern = All (λ setting. IsOnWithAll c setting.candidate ↔ IsTrue setting.on) pattern
