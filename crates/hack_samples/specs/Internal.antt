-- What only private functions of the crate promise each other.
use Rattle.std.specs.Prelude.{◌<◌, ◌≤◌, ℕ, List, Bool, length, ◌≡◌, ◌&&◌, ◌⊎◌, true, false, not, nat_lt, slice_set, Vec, vec_len, Result, Ok, Err}
use Rattle.std.specs.List.{slice_index_or}
use Rattle.hack_samples.specs.Order.{IsMaskBefore}
use Rattle.hack_samples.specs.declared.sets.Setting.{Setting}
use Rattle.hack_samples.specs.declared.fault.SampleFault.{SampleFault}
use Rattle.hack_samples.specs.declared.fault.SampleFault.TheVariants.{Memory, TooManyQuestions}
use Rattle.hack_samples.specs.Samples.{Shows}
use Rattle.hack_samples.specs.Sets.{IsInside, has, has_each}

-- s belongs at the place among the sets: those at earlier places are before s, the others after it
pub record BelongsAt (sets : List (List Bool)) (s : List Bool) (place : ℕ) : Type 0 where
  pub within : place ≤ length sets
  pub in_front : (k : ℕ) (d : List Bool) → k < place → IsMaskBefore (slice_index_or sets k d) s
  pub behind : (k : ℕ) (d : List Bool) → place ≤ k → k < length sets → IsMaskBefore s (slice_index_or sets k d)

-- the count after is at most the greater of the end and the count before
abbrev pub StaysWithin : ℕ → ℕ → ℕ → Type 0
StaysWithin end before behind = (k : ℕ) → end ≤ k → before ≤ k → behind ≤ k

-- no banned position is a member of the set
abbrev pub IsClear : List Bool → List Bool → Type 0
IsClear banned s = (p : ℕ) → has banned p ≡ true → has s p ≡ false

-- the set is over n positions, allowed, and has no banned member
pub record IsSuited (may : List Bool → Bool) (n : ℕ) (banned s : List Bool) : Type 0 where
  pub size : length s ≡ n
  pub allowed : may s ≡ true
  pub clear : IsClear banned s

-- the set is suited, and has a member of each group
pub record Meets (may : List Bool → Bool) (n : ℕ) (groups : List (List ℕ)) (banned s : List Bool) : Type 0 where
  pub suited : IsSuited may n banned s
  pub met : has_each s groups ≡ true

-- no set that meets the groups, without a banned position, shows the pattern
abbrev pub NoneShows : (List Bool → Bool) → ℕ → List (List ℕ) → List Bool → List (List (List ℕ)) → List Setting → Type 0
NoneShows may n groups banned providers pattern = (s : List Bool) → Meets may n groups banned s → Shows providers pattern s → ⊥

-- whether a position is new to the set, not banned, and the set is allowed with it
abbrev pub may_join : (List Bool → Bool) → List Bool → List Bool → ℕ → Bool
may_join may banned s p = not (has banned p) && not (has s p) && nat_lt p (length s) && may (slice_set s p true)

-- no set that has all members of the base meets the groups
abbrev pub NoneMeets : (List Bool → Bool) → ℕ → List (List ℕ) → List Bool → List Bool → Type 0
NoneMeets may n groups banned base = (s : List Bool) → IsInside base s → Meets may n groups banned s → ⊥

-- one of the two, and no longer than either
pub record IsShorter {X Z : Type 0} (one other chosen : Vec X Z) : Type 0 where
  pub either : (chosen ≡ one) ⊎ (chosen ≡ other)
  pub first : vec_len chosen ≤ vec_len one
  pub second : vec_len chosen ≤ vec_len other

-- the shorter of both, and the first where the second asked too many questions; want of memory stays one
abbrev pub IsChosen : {X Z : Type 0} → Vec X Z → Result (Vec X Z) SampleFault → Result (Vec X Z) SampleFault → Type 0
IsChosen one (Ok other) (Ok chosen) = IsShorter one other chosen
IsChosen one (Ok other) (Err fault) = ⊥
IsChosen one (Err TooManyQuestions) chosen = chosen ≡ Ok one
IsChosen one (Err Memory) chosen = chosen ≡ Err Memory
