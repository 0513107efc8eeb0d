-- Which calls of files failed between two of their states. What is said of a failed look can't be made
-- up: a read of a path that holds nothing leaves none unseen.
use Rattle.std.specs.Prelude.{◌≡◌, ◌⊎◌, [], ◌∷◌, ℕ, List, None}
use Rattle.hack_files.specs.declared.fs.Files.{Ghosts as Filing}

-- no path was unseen, and no write or removal was refused
pub record NoneFailed {F : Type 0} (f : Filing F) (old new : F) : Type 0 where
  pub unseen : f.unseen old new []
  pub refused : f.refuses old new []

-- one look failed: this path was unseen, and nothing else failed
pub record LookFailed {F : Type 0} (f : Filing F) (path : List ℕ) (old new : F) : Type 0 where
  pub unseen : f.unseen old new (path ∷ [])
  pub refused : f.refuses old new []

-- one write or removal was refused, of this path, and nothing else failed
pub record WriteFailed {F : Type 0} (f : Filing F) (path : List ℕ) (old new : F) : Type 0 where
  pub unseen : f.unseen old new []
  pub refused : f.refuses old new (path ∷ [])

-- one read failed: its path was unseen, or the files tell that nothing is there; nothing else failed
abbrev pub ReadFailed : {F : Type 0} → Filing F → List ℕ → F → F → Type 0
ReadFailed f path old new = LookFailed f path old new ⊎ (NoneFailed f old new × f.tells × (f.bytes_at old path ≡ None))
