-- Paths that are read, written and kept.
use Rattle.std.specs.Prelude.{◌≡◌, ◌⊎◌, true, false, List}
use Rattle.std.specs.List.{list_any}
use Rattle.hack_base.specs.Names.{Name}
use Rattle.hack_files.specs.Faults.{HoldsNoText}
use Rattle.hack_files.specs.Files.{Contents}
use Rattle.hack_prepare.specs.Prepared.{MemberManifest, Wanted, edits_root, is_edited, is_root}

-- a path that is edited
abbrev pub IsEdited : Wanted → List MemberManifest → Name → Type 0
IsEdited w ms p = is_edited w ms p ≡ true

-- a path that is edited, or the lockfile
abbrev pub IsTouched : Wanted → List MemberManifest → Name → Type 0
IsTouched w ms p = IsEdited w ms p ⊎ (p ≡ w.lockfile)

-- the manifest in the folder of the workspace, which is edited, and which no member has read
abbrev pub IsReadRoot : Wanted → List MemberManifest → Name → Type 0
IsReadRoot w ms p = (edits_root w ms ≡ true) × (list_any (is_root w) ms ≡ false) × (p ≡ w.root)

-- a path that is looked at: such a manifest, or the lockfile
abbrev pub IsLookedAt : Wanted → List MemberManifest → Name → Type 0
IsLookedAt w ms p = IsReadRoot w ms p ⊎ (p ≡ w.lockfile)

-- one of these paths, which are read, and what it holds is no text
abbrev pub IsTextless : Type 0 → Contents → (Name → Type 0) → Name → Type 0
IsTextless tells held reads p = reads p × HoldsNoText tells (held p)
