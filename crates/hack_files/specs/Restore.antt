-- Files that are written back.
use Rattle.std.specs.Prelude.{◌≡◌, ◌≢◌, ◌⊎◌, ◌≤◌, ◌+◌, ◌++◌, [], ◌∷◌, ℕ, Bool, false, List, Some, length, map, string_bytes, All, AllPairs, Contains, if◌then◌else◌}
use Rattle.std.specs.List.{list_any}
use Rattle.std.specs.Str.{bytes_eq}
use Rattle.hack_files.specs.Files.{Contents, Change, puts}
use Rattle.hack_files.specs.declared.saved.Saved.{Saved}
use Rattle.hack_files.specs.declared.restore.Manager.{Manager}

-- a path, and the bytes that it is to hold again
pub record Kept : Type 0 where
  pub path : List ℕ
  pub bytes : List ℕ

-- the path and bytes of a file that a manager keeps
abbrev pub kept_file : Saved → Kept
kept_file file = record { path = string_bytes file.path; bytes = file.bytes.items }

-- the files that a manager keeps, in the order of their registration
abbrev pub registered_files : Manager → List Kept
registered_files manager = map kept_file manager.saved.items

abbrev pub paths : List Kept → List (List ℕ)
paths files = map (λ file. file.path) files

-- each file's path holds its bytes, but for the paths of `spoilt`, and every other path holds what
-- it held
pub record Back (files : List Kept) (spoilt : List (List ℕ)) (old new : Contents) : Type 0 where
  pub held : All (λ file. Contains spoilt file.path ⊎ (new file.path ≡ Some file.bytes)) files
  pub others : (q : List ℕ) → ¬ Contains (paths files) q → new q ≡ old q

-- no two files have one path
abbrev pub AreDistinct : List Kept → Type 0
AreDistinct files = AllPairs (λ a b. a.path ≢ b.path) files

-- where the paths are distinct, all of them but at most k hold their bytes again
abbrev pub Brings : List Kept → Contents → Contents → ℕ → Type 0
Brings files old new k =
    AreDistinct files → (spoilt : List (List ℕ)) × (length spoilt ≤ k) × Back files spoilt old new

-- the paths of as many refused writes as failed; where the paths of these files are distinct, all
-- but those that were refused hold their bytes again
pub record ComesBackBut (Refuses : List (List ℕ) → Type 0) (tells : Type 0) (files : List Kept) (old new : Contents) (failed : ℕ) : Type 0 where
  pub spoilt : List (List ℕ)
  pub refused : Refuses spoilt
  pub number : length spoilt ≡ failed
  pub back : tells → AreDistinct files → Back files spoilt old new

-- a file of this path is kept
abbrev pub is_kept : List Kept → List ℕ → Bool
is_kept files path = list_any (λ file. bytes_eq file.path path) files

-- these files and one more, unless a file of its path is kept already
abbrev pub kept_too : List Kept → Kept → List Kept
kept_too files file = if is_kept files file.path then files else files ++ file ∷ []

-- No path is kept twice, each kept file has what its path held at the start, and every other path
-- still holds what it held at the start: so writing the kept files back restores each path.
pub record AreSafe (files : List Kept) (start now : Contents) : Type 0 where
  pub distinct : AreDistinct files
  pub held : All (λ file. start file.path ≡ Some file.bytes) files
  pub others : (q : List ℕ) → is_kept files q ≡ false → now q ≡ start q

-- the write that puts a kept file back
abbrev pub write_of : Kept → Change
write_of file = puts file.path file.bytes

-- every file's write was tried, in order, and k failed: each of these was made all the same, or not
-- at all; the list has the writes that were made
pub data Tried : List Kept → List Change → ℕ → Type 0 where
  none : Tried [] [] 0
  written : {files : List Kept} {made : List Change} {k : ℕ} (file : Kept)
      → Tried files made k → Tried (files ++ file ∷ []) (made ++ write_of file ∷ []) k
  failed : {files : List Kept} {made : List Change} {k : ℕ} (file : Kept)
      → Tried files made k → Tried (files ++ file ∷ []) made (k + 1)
  made_and_failed : {files : List Kept} {made : List Change} {k : ℕ} (file : Kept)
      → Tried files made k → Tried (files ++ file ∷ []) (made ++ write_of file ∷ []) (k + 1)
