-- What calls of files keep.
use Rattle.std.specs.Prelude.{◌≡◌, [], ◌∷◌, ℕ, List, Option, Some, IsTrue, Result, OnOk, OnErr, string_bytes}
use Rattle.hack_files.specs.Files.{CountsFailedCall, KeepsAll, KeepsOthers, Makes, MakesOrNot, refused_path}
use Rattle.hack_files.specs.declared.fs.Files.{Ghosts as Filing}
use Rattle.hack_journal.specs.FailedCalls.{FailsRefusedAt}
use Rattle.hack_journal.specs.LockfilesApart.{is_lockfile}
use Rattle.hack_journal.specs.Rows.{Spot}
use Rattle.hack_journal.specs.SafeFiles.{Stays, gives}
use Rattle.hack_journal.specs.declared.apart.Apart.{Apart}
use Rattle.hack_journal.specs.declared.journaled.Journaled.{Journaled}

-- a call that only looks: nothing is changed
pub record OnlyLooks {F T E : Type 0} (f : Filing F) (old new : F) (result : Result T E) : Type 0 where
  pub stays : f.stays old new
  pub counted : CountsFailedCall (f.failed old) (f.failed new) result
  pub refused_none : f.refuses old new []
  pub same : f.tells → KeepsAll (f.bytes_at old) (f.bytes_at new)
  pub untraced : f.whole → Makes [] (f.trace old) (f.trace new) (f.bytes_at old) (f.bytes_at new)

-- a call that changes at most what this path holds
pub record ChangesOnly {F T E : Type 0} (f : Filing F) (path : List ℕ) (old new : F) (result : Result T E) : Type 0 where
  pub stays : f.stays old new
  pub counted : CountsFailedCall (f.failed old) (f.failed new) result
  pub refused_path : f.refuses old new (refused_path result path)
  pub unseen_none : f.unseen old new []
  pub others : f.tells → KeepsOthers path (f.bytes_at old) (f.bytes_at new)

-- a call that puts these bytes at this path, or removes what is there
pub record Puts {F T E : Type 0} (f : Filing F) (path : List ℕ) (bytes : Option (List ℕ)) (old new : F) (result : Result T E) : Type 0 where
  pub changes : ChangesOnly f path old new result
  pub calls : FailsRefusedAt f path old new result
  pub put : OnOk result (f.tells → f.bytes_at new path ≡ bytes)
  pub traced : OnOk result (f.whole → Makes (gives path bytes ∷ []) (f.trace old) (f.trace new) (f.bytes_at old) (f.bytes_at new))
  pub refused : OnErr result (f.whole → MakesOrNot (gives path bytes) (f.trace old) (f.trace new) (f.bytes_at old) (f.bytes_at new))

-- a call at a lockfile leaves the other files alone, and any other call the lockfiles
pub record GoesToOne {A B : Type 0} (path : List ℕ) (old new : Apart A B) : Type 0 where
  pub files : IsTrue (is_lockfile path) → new.files ≡ old.files
  pub lockfiles : ¬ IsTrue (is_lockfile path) → new.lockfiles ≡ old.lockfiles

-- a call puts these bytes at this path in those of two files that it goes to, and in no other way
pub record PutsByKind {A B T E : Type 0} (a : Filing A) (b : Filing B) (path bytes : List ℕ) (old new : Apart A B) (result : Result T E) : Type 0 where
  pub files : ¬ IsTrue (is_lockfile path) → Puts a path (Some bytes) old.files new.files result
  pub lockfiles : IsTrue (is_lockfile path) → Puts b path (Some bytes) old.lockfiles new.lockfiles result

-- where the journal of these files lies
abbrev pub spot_in : {F U : Type 0} → Journaled F U → Spot
spot_in files = record { folder = string_bytes files.folder; journal = files.notes.journal }

-- whatever the paths held at first: files that are journaled stay safe and journaled
abbrev pub StaysJournaled : {F U : Type 0} → Filing F → Journaled F U → Journaled F U → Type 0
StaysJournaled f old new = f.tells → f.whole
    → Stays (spot_in old) old.notes.entries new.notes.entries (f.trace old.files) (f.trace new.files) (f.bytes_at old.files) (f.bytes_at new.files)
