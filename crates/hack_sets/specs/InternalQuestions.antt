-- What only private functions of the crate promise each other.
use Rattle.std.specs.Prelude.{◌≡◌, ℕ, ◌≤◌, ◌<◌, All, List, [], ◌∷◌, ◌++◌, map, filter, drop, length, Bool, IsTrue}
use Rattle.std.specs.List.{slice_index_or}
use Rattle.hack_sets.specs.Sets.{IsWithin}
use Rattle.hack_sets.specs.declared.questions.Limits.{Limits}
use Rattle.hack_sets.specs.Questions.{is_whole}

-- the sets that the next position may extend, each extended by it
abbrev pub with_next : (List ℕ → Bool) → ℕ → List (List ℕ) → List (List ℕ)
with_next may next sets = map (λ s. s ++ next ∷ []) (filter (λ s. may (s ++ next ∷ [])) sets)

-- the sets that are not empty and are complete are all but the first
abbrev pub AreComplete : (List ℕ → Bool) → List (List ℕ) → Type 0
AreComplete complete sets = filter (is_whole complete) sets ≡ drop 1 sets

-- each set passes both tests
abbrev pub IsFree : (List ℕ → Bool) → (List ℕ → Bool) → Type 0
IsFree may complete = (s : List ℕ) → IsTrue (may s) × IsTrue (complete s)

-- the places are open: extending only the sets there gives what extending all sets gives
pub record AreOpen (may : List ℕ → Bool) (sets : List (List ℕ)) (places : List ℕ) : Type 0 where
  pub inside : All (λ p. p < length sets) places
  pub few : length places ≤ length sets
  pub same : (next : ℕ) → with_next may next (map (λ p. slice_index_or sets p []) places) ≡ with_next may next sets

-- the limits are true: no permitted set has more positions, and if free, each set passes both tests
pub record AreLimits (may complete : List ℕ → Bool) (limits : Limits) : Type 0 where
  pub within : (s : List ℕ) → IsTrue (may s) → IsWithin limits.most s
  pub free : IsTrue limits.free → IsFree may complete
