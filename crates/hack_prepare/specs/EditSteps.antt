-- What a step of the edits does to files and to what is kept.
use Rattle.std.specs.Prelude.{◌≡◌, ◌⊎◌, ◌++◌, ◌∷◌, [], true, false, List, Some, MatchOption, map, if◌then◌else◌}
use Rattle.std.specs.List.{find, list_any}
use Rattle.std.specs.Str.{bytes_eq}
use Rattle.hack_base.specs.Names.{Name}
use Rattle.hack_files.specs.Files.{Change, Contents}
use Rattle.hack_files.specs.Restore.{Kept, is_kept, registered_files}
use Rattle.hack_files.specs.declared.restore.Manager.{Manager}
use Rattle.hack_prepare.specs.Prepared.{MemberManifest, Wanted, is_root}

-- a path that is kept was kept before, or is one of these
abbrev pub KeepsOnly : (Name → Type 0) → Manager → Manager → Type 0
KeepsOnly P old new = (q : Name) → is_kept (registered_files new) q ≡ true → (is_kept (registered_files old) q ≡ true) ⊎ P q

-- more files are kept, after those that were: each with what its path held at the start, and none
-- whose path was kept already
pub data AddsKeptFiles (start : Contents) (old : List Kept) : List Kept → Type 0 where
  none : AddsKeptFiles start old old
  one : {now : List Kept} (file : Kept) → AddsKeptFiles start old now → is_kept now file.path ≡ false → start file.path ≡ Some file.bytes → AddsKeptFiles start old (now ++ file ∷ [])

-- and every path that isn't kept holds what it held at the start
pub record KeepsHeld (old new : List Kept) (start now : Contents) : Type 0 where
  pub added : AddsKeptFiles start old new
  pub others : (q : Name) → is_kept new q ≡ false → now q ≡ start q

-- these paths, and then others in their order, each of them once: where it first comes
abbrev pub kept_paths : List Name → List Name → List Name
kept_paths kept [] = kept
kept_paths kept (path ∷ more) = kept_paths (if list_any (λ p. bytes_eq p path) kept then kept else kept ++ path ∷ []) more

-- the paths of changes, in their order
abbrev pub change_paths : List Change → List Name
change_paths made = map (λ c. c.path) made

-- the paths that are kept: those that were, then those of the changes that were made, in their order
-- and each once, and at last the lockfile, or not
abbrev pub KeepsInOrder : Name → List Change → List Name → List Name → Type 0
KeepsInOrder lockfile made old new =
    (new ≡ kept_paths old (change_paths made))
    ⊎ (new ≡ kept_paths old (change_paths made ++ lockfile ∷ []))

-- the text of the manifest in the folder of the workspace: a member's, or what the path holds now
abbrev pub IsRootText : Wanted → List MemberManifest → Contents → Name → Type 0
IsRootText w ms held text = MatchOption (find (is_root w) ms) (held w.root ≡ Some text) (λ m. text ≡ m.text)
