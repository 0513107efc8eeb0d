-- Which writes and removals were refused, and by whom.
use Rattle.std.specs.Prelude.{◌≡◌, ◌⊎◌, ◌≤◌, ◌+◌, ◌∷◌, ◌||◌, [], ℕ, Bool, List, MatchResult, Result, OnErr, IsTrue, All, false, length, true}
use Rattle.hack_base.specs.Counters.{GrowsBy}
use Rattle.hack_files.specs.Files.{GrowsAtLeastBy}
use Rattle.hack_files.specs.declared.fs.Files.{Ghosts as Filing}
use Rattle.hack_journal.specs.LockfilesApart.{is_lockfile}
use Rattle.hack_journal.specs.declared.unkept.Unkept.{Ghosts as Noting}

-- these files refused a write or removal of this path
pub record IsRefused {F : Type 0} (f : Filing F) (path : List ℕ) : Type 0 where
  pub before : F
  pub after : F
  pub refused : f.refuses before after (path ∷ [])

-- whether there are any paths
abbrev pub are_some : List (List ℕ) → Bool
are_some [] = false
are_some (path ∷ more) = true

-- these files refused some write or removal, or none, as the flag notes that went up from `was` to `is`
pub record NotesRefusals {F : Type 0} (f : Filing F) (old new : F) (was is : Bool) : Type 0 where
  pub paths : List (List ℕ)
  pub refused : f.refuses old new paths
  pub noted : is ≡ (was || are_some paths)

-- it was told that a write of this path couldn't be kept
pub record IsUnkept {U : Type 0} (u : Noting U) (path : List ℕ) : Type 0 where
  pub before : U
  pub after : U
  pub missed : u.misses before after path

-- these files left this path unseen
pub record IsUnseen {F : Type 0} (f : Filing F) (path : List ℕ) : Type 0 where
  pub before : F
  pub after : F
  pub unseen : f.unseen before after (path ∷ [])

-- so they did; or it isn't told whether something is there
abbrev pub IsUnseenOrUntold : {F : Type 0} → Type 0 → Filing F → List ℕ → Type 0
IsUnseenOrUntold tells f path = IsUnseen f path ⊎ ¬ tells

-- a write of this path was refused by the files below, or couldn't be kept
abbrev pub IsRefusedOrUnkept : {F U : Type 0} → Filing F → Noting U → List ℕ → Type 0
IsRefusedOrUnkept f u path = IsRefused f path ⊎ IsUnkept u path

-- P holds of the path, or Q where it is a lockfile's
pub record HoldsByKind (P Q : List ℕ → Type 0) (path : List ℕ) : Type 0 where
  pub files : ¬ IsTrue (is_lockfile path) → P path
  pub lockfiles : IsTrue (is_lockfile path) → Q path

-- the path was left unseen by those of two files that it goes to; or not both tell what they hold
abbrev pub UnseenByKind : {A B : Type 0} → Filing A → Filing B → List ℕ → Type 0
UnseenByKind a b = HoldsByKind (IsUnseenOrUntold (a.tells × b.tells) a) (IsUnseenOrUntold (a.tells × b.tells) b)

-- P holds of each of these paths, and at least as many calls failed
pub record AreJust (P : List ℕ → Type 0) (paths : List (List ℕ)) (old new : ℕ) : Type 0 where
  pub each : All P paths
  pub failed : GrowsAtLeastBy (length paths) old new

-- a count grew by no more than two others together, and by no less than the second
pub record GrowsWithin (one_old one_new two_old two_new old new : ℕ) : Type 0 where
  pub first : ℕ
  pub second : ℕ
  pub both : ℕ
  pub one : GrowsBy first one_old one_new
  pub two : GrowsBy second two_old two_new
  pub sum : GrowsBy both old new
  pub most : both ≤ first + second
  pub least : second ≤ both

-- a count grew by what two others did together
pub record GrowsAsBoth (one_old one_new two_old two_new old new : ℕ) : Type 0 where
  pub first : ℕ
  pub second : ℕ
  pub one : GrowsBy first one_old one_new
  pub two : GrowsBy second two_old two_new
  pub sum : GrowsBy (first + second) old new

-- a call that failed is counted by one of two counts; the second counts it once at most, and no other call
pub record IsCounted {T E : Type 0} (result : Result T E) (one_old one_new two_old two_new : ℕ) : Type 0 where
  pub first : ℕ
  pub second : ℕ
  pub one : GrowsBy first one_old one_new
  pub two : GrowsBy second two_old two_new
  pub some : OnErr result (1 ≤ first + second)
  pub once : MatchResult result (λ _. second ≡ 0) (λ _. second ≤ 1)
