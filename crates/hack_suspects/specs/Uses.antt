-- The order of use: of patterns, those that most failed runs show first.
use Rattle.std.specs.Prelude.{◌≡◌, ◌≤◌, ◌&&◌, ℕ, List, Bool, false, AllPairs, nat_eq, not, slice_get, if◌then◌else◌}
use Rattle.std.specs.List.{count_by, filter, list_all}
use Rattle.std.specs.List.Sorted.{IsPermutation}
use Rattle.std.specs.Option.{option_map_or}
use Rattle.hack_suspects.specs.Suspects.{RunOutcome, AreSuspects}
use Rattle.hack_samples.specs.declared.sets.Setting.{Setting}

-- the setting's candidate is on or off in the row as the setting says
abbrev pub shows_setting : List Bool → Setting → Bool
shows_setting row setting = option_map_or (λ on. if setting.on then on else not on) (slice_get row setting.candidate) false

-- the run failed and shows the pattern
abbrev pub is_use : List Setting → RunOutcome → Bool
is_use pattern run = run.failed && list_all (shows_setting run.on) pattern

-- how many failed runs show the pattern
abbrev pub uses : List RunOutcome → List Setting → ℕ
uses outcomes pattern = count_by (is_use pattern) outcomes

-- so many failed runs show the pattern
abbrev pub is_used : List RunOutcome → ℕ → List Setting → Bool
is_used outcomes n pattern = nat_eq (uses outcomes pattern) n

-- the same patterns, those that most failed runs show first, and of as many the order as before
pub record AreInOrderOfUse (outcomes : List RunOutcome) (old new : List (List Setting)) : Type 0 where
  pub same : IsPermutation old new
  pub most_first : AllPairs (λ one later. uses outcomes later ≤ uses outcomes one) new
  pub as_before : (n : ℕ) → filter (is_used outcomes n) new ≡ filter (is_used outcomes n) old

-- these are all the suspects, in order of use
pub record AreSuspectsByUse (outcomes : List RunOutcome) (n t : ℕ) (found : List (List Setting)) : Type 0 where
  pub all : List (List Setting)
  pub suspects : AreSuspects outcomes n t all
  pub by_use : AreInOrderOfUse outcomes all found
