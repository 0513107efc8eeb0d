-- What files hold, and how a call changes it.
use Rattle.hack_base.specs.Counters.{GrowsBy}
use Rattle.std.specs.Prelude.{◌≡◌, ◌≢◌, ◌⊎◌, ◌<◌, ◌≤◌, ◌+◌, ◌-◌, ◌^◌, ◌++◌, [], ◌∷◌, ℕ, Bool, not, List, Option, Some, None, Result, Ok, Err, Contains, cond, min}
use Rattle.std.specs.List.{filter}
use Rattle.std.specs.Str.{bytes_eq}

-- what the paths hold: the bytes of each, and nothing where no file is
abbrev pub Contents : Type 0
Contents = List ℕ → Option (List ℕ)

-- a path now holds these bytes, or nothing
pub record Change : Type 0 where
  pub path : List ℕ
  pub bytes : Option (List ℕ)

-- a write of these bytes
abbrev pub puts : List ℕ → List ℕ → Change
puts path bytes = record { path = path; bytes = Some bytes }

-- a removal
abbrev pub removes : List ℕ → Change
removes path = record { path = path; bytes = None }

-- what the paths hold after a change
abbrev pub after_change : Change → Contents → Contents
after_change c m q = cond (bytes_eq c.path q) c.bytes (m q)

-- what the paths hold after changes in order
abbrev pub after : List Change → Contents → Contents
after [] m = m
after (c ∷ cs) m = after cs (after_change c m)

-- The changes that files have seen, in order; where paths of one kind are in files of their own, those of
-- this kind and all others: between these two the order isn't known.
pub data Trace : Type 0 where
  in_order : List Change → Trace
  by_kind : (List ℕ → Bool) → Trace → Trace → Trace

-- just these changes came next, in this order
abbrev pub ComesNext : List Change → Trace → Trace → Type 0
ComesNext cs (in_order old) (in_order new) = new ≡ old ++ cs
ComesNext cs (by_kind kind these others) (by_kind kind_now these_now others_now) =
    (kind_now ≡ kind) × ComesNext (filter (λ c. kind c.path) cs) these these_now × ComesNext (filter (λ c. not (kind c.path)) cs) others others_now
ComesNext cs old new = ⊥

-- these changes were made, and no others
pub record Makes (cs : List Change) (old_trace new_trace : Trace) (old new : Contents) : Type 0 where
  pub traced : ComesNext cs old_trace new_trace
  pub holds : new ≡ after cs old

-- this change was made whole, or none at all
abbrev pub MakesOrNot : Change → Trace → Trace → Contents → Contents → Type 0
MakesOrNot c old_trace new_trace old new =
    Makes [] old_trace new_trace old new ⊎ Makes (c ∷ []) old_trace new_trace old new

-- a call that fails counts one more failure, and one that succeeds none
abbrev pub CountsFailedCall : {T E : Type 0} → ℕ → ℕ → Result T E → Type 0
CountsFailedCall old new (Ok _) = GrowsBy 0 old new
CountsFailedCall old new (Err _) = GrowsBy 1 old new

-- the path of a call that failed; none of one that didn't
abbrev pub refused_path : {T E : Type 0} → Result T E → List ℕ → List (List ℕ)
refused_path (Ok _) path = []
refused_path (Err _) path = path ∷ []

-- a read that failed leaves its path unseen, unless the files tell that nothing is there
abbrev pub IsUnseenUnlessAbsent : {T E : Type 0} → (List (List ℕ) → Type 0) → Type 0 → Option (List ℕ) → List ℕ → Result T E → Type 0
IsUnseenUnlessAbsent Unseen tells held path (Ok _) = Unseen []
IsUnseenUnlessAbsent Unseen tells held path (Err _) = Unseen (path ∷ []) ⊎ (Unseen [] × tells × (held ≡ None))

-- some calls failed, or none
abbrev pub Grows : ℕ → ℕ → Type 0
Grows old new = (k : ℕ) × GrowsBy k old new

-- a count of failures went up by so many at least
abbrev pub GrowsAtLeastBy : ℕ → ℕ → ℕ → Type 0
GrowsAtLeastBy k old new = old < 2 ^ 64 → (min (old + k) (2 ^ 64 - 1) ≤ new) × (new < 2 ^ 64)

-- `Below` holds, or a call failed of itself
pub record IsOwnOr (Below : Type 0) (old new : ℕ) : Type 0 where
  pub grown : Grows old new
  pub why : Below ⊎ GrowsAtLeastBy 1 old new

-- each path but this one holds what it held
abbrev pub KeepsOthers : List ℕ → Contents → Contents → Type 0
KeepsOthers path old new = (q : List ℕ) → q ≢ path → new q ≡ old q

-- each path holds what it held
abbrev pub KeepsAll : Contents → Contents → Type 0
KeepsAll old new = (q : List ℕ) → new q ≡ old q

-- writes or removals at these paths were refused; each other path holds what it held
pub record KeepsAllBut (Refuses : List (List ℕ) → Type 0) (tells : Type 0) (old new : Contents) : Type 0 where
  pub spoilt : List (List ℕ)
  pub refused : Refuses spoilt
  pub others : tells → (q : List ℕ) → ¬ Contains spoilt q → new q ≡ old q
