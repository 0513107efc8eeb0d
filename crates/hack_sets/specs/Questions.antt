-- The sets that an enumeration by questions finds, and how many questions it may ask.
use Rattle.std.specs.Prelude.{◌≢◌, ℕ, ◌*◌, ◌≤◌, List, [], length, Bool, IsTrue, ◌&&◌, ◌==◌, not}
use Rattle.hack_sets.specs.Sets.{IsListing}

-- a nonempty set that passes both tests
pub record IsWholeSet (may complete : List ℕ → Bool) (s : List ℕ) : Type 0 where
  pub nonempty : s ≢ []
  pub allowed : IsTrue (may s)
  pub completed : IsTrue (complete s)

-- at most n questions for each set that is permitted, the empty one included
pub record IsCheap (P : List ℕ → Type 0) (n asked : ℕ) : Type 0 where
  pub sets : List (List ℕ)
  pub all : IsListing n P sets
  pub few : asked ≤ n * length sets

-- the set is not empty and complete
abbrev pub is_whole : (List ℕ → Bool) → List ℕ → Bool
is_whole complete s = not (length s == 0) && complete s
