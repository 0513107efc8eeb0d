-- Which small patterns explain the failed runs.
use Rattle.std.specs.Prelude.{◌≡◌, ◌<◌, ◌≤◌, ◌+◌, ◌⊎◌, ◌↔◌, ℕ, zero, suc, List, [], ◌∷◌, Bool, true, false, AllPairs, Contains, length, map}
use Rattle.hack_samples.specs.Samples.{RowShows}
use Rattle.hack_samples.specs.declared.sets.Setting.{Setting}
use Rattle.hack_suspects.specs.declared.suspect.RunOutcome.{RunOutcome as Run}
use Rattle.hack_suspects.specs.declared.suspect.SuspectFault.{SuspectFault}
use Rattle.hack_suspects.specs.declared.suspect.SuspectFault.TheVariants.{Memory, TooManyPatterns}

-- a run: for each candidate whether it is on, and whether the run failed
pub record RunOutcome : Type 0 where
  pub on : List Bool
  pub failed : Bool

-- the runs as plain data
abbrev pub outcomes_of : List Run → List RunOutcome
outcomes_of runs = map (λ run. record { on = run.on.items; failed = run.failed }) runs

-- some run shows the pattern, and failed if `failed` is true, else passed
pub record IsShown (failed : Bool) (outcomes : List RunOutcome) (pattern : List Setting) : Type 0 where
  pub by : RunOutcome
  pub among : Contains outcomes by
  pub ended : by.failed ≡ failed
  pub shows : RowShows by.on pattern

-- some failed run shows the pattern, and no passed one does
pub record IsSuspicious (outcomes : List RunOutcome) (pattern : List Setting) : Type 0 where
  pub failed : IsShown true outcomes pattern
  pub passed : IsShown false outcomes pattern → ⊥

-- the candidates of the pattern increase, are not less than first, and are below n
abbrev pub Rises : ℕ → ℕ → List Setting → Type 0
Rises first n [] = Unit {0}
Rises first n (setting ∷ pattern) = (first ≤ setting.candidate) × (setting.candidate < n) × Rises (setting.candidate + 1) n pattern

-- a part of the pattern: some of its settings in their order, maybe none or all
abbrev pub IsPart : List Setting → List Setting → Type 0
IsPart [] [] = Unit {0}
IsPart (setting ∷ part) [] = ⊥
IsPart [] (kept ∷ pattern) = Unit {0}
IsPart (setting ∷ part) (kept ∷ pattern) = ((setting ≡ kept) × IsPart part pattern) ⊎ IsPart (setting ∷ part) pattern

-- a suspicious pattern of at most t of the candidates below n, of which no proper part is suspicious
pub record IsSuspect (outcomes : List RunOutcome) (n t : ℕ) (pattern : List Setting) : Type 0 where
  pub rises : Rises 0 n pattern
  pub small : length pattern ≤ t
  pub suspicious : IsSuspicious outcomes pattern
  pub minimal : (part : List Setting) → IsPart part pattern → length part < length pattern → IsSuspicious outcomes part → ⊥

-- a setting is before another: its candidate is lower, or it has the same one off and the other has it on
abbrev pub Precedes : Setting → Setting → Type 0
Precedes a b = (a.candidate < b.candidate) ⊎ ((a.candidate ≡ b.candidate) × (a.on ≡ false) × (b.on ≡ true))

-- at the first place where the patterns differ, the first one's setting is before the other's
abbrev pub DiffersBefore : List Setting → List Setting → Type 0
DiffersBefore [] q = ⊥
DiffersBefore (a ∷ p) [] = ⊥
DiffersBefore (a ∷ p) (b ∷ q) = Precedes a b ⊎ ((a ≡ b) × DiffersBefore p q)

-- a pattern is before another: it is shorter, or as long and before it where they first differ
abbrev pub IsPatternBefore : List Setting → List Setting → Type 0
IsPatternBefore p q = (length p < length q) ⊎ ((length p ≡ length q) × DiffersBefore p q)

-- these are all the suspects, each before all later ones
pub record AreSuspects (outcomes : List RunOutcome) (n t : ℕ) (found : List (List Setting)) : Type 0 where
  pub ordered : AllPairs IsPatternBefore found
  pub exactly : (pattern : List Setting) → Contains found pattern ↔ IsSuspect outcomes n t pattern

-- how many choices there are of at most t of n candidates
abbrev pub choices : ℕ → ℕ → ℕ
choices zero t = 1
choices (suc n) zero = 1
choices (suc n) (suc t) = choices n (suc t) + choices n t

-- an error for too many patterns comes only if there are more than `most`
abbrev pub IsRefused : ℕ → ℕ → SuspectFault → Type 0
IsRefused most patterns Memory = Unit {0}
IsRefused most patterns TooManyPatterns = most < patterns
