-- What is edited before the runs of a call, and what becomes of it.
use Rattle.std.specs.Prelude.{◌≡◌, ◌⊎◌, ◌&&◌, ◌||◌, Bool, true, false, not, MatchBool, List, Some, All, Contains, map}
use Rattle.std.specs.List.{filter, list_any}
use Rattle.std.specs.Str.{bytes_eq}
use Rattle.hack_base.specs.Names.{Name}
use Rattle.hack_files.specs.Files.{Contents}
use Rattle.hack_edits.specs.DevDeps.{IsWithoutDev}
use Rattle.hack_manifest.specs.LineRuns.{has_some}
use Rattle.hack_private_crates.specs.Members.{in_order}
use Rattle.hack_private_crates.specs.PrivateCrates.{IsWithoutPrivate}

-- the edits that a call asks for in the manifests of a workspace
pub record Wanted : Type 0 where
  -- development dependencies are to be removed
  pub drops_dev : Bool
  -- private members are to be removed
  pub no_private : Bool
  -- each edit is reported
  pub verbose : Bool
  -- the folder of the workspace, and the paths of its manifest and its lockfile
  pub folder : Name
  pub root : Name
  pub lockfile : Name

-- what is known of a workspace member's manifest
pub record MemberManifest : Type 0 where
  pub path : Name
  pub text : Name
  pub is_private : Bool

-- each member's manifest holds what was read there
abbrev pub HoldTexts : Contents → List MemberManifest → Type 0
HoldTexts held ms = All (λ m. held m.path ≡ Some m.text) ms

-- ---- what is edited

-- manifests are edited at all
abbrev pub edits : Wanted → Bool
edits w = w.drops_dev || w.no_private

-- the member's manifest is in the folder of the workspace
abbrev pub is_root : Wanted → MemberManifest → Bool
is_root w m = bytes_eq m.path w.root

-- the member is removed from the workspace
abbrev pub is_removed : Wanted → MemberManifest → Bool
is_removed w m = w.no_private && m.is_private

-- the member's manifest is edited by itself: the member isn't removed, nor is its manifest edited
-- with the workspace's
abbrev pub is_alone : Wanted → MemberManifest → Bool
is_alone w m = w.drops_dev && not (w.no_private && (m.is_private || is_root w m))

-- the same, and it is at this path
abbrev pub is_alone_at : Wanted → Name → MemberManifest → Bool
is_alone_at w q m = is_alone w m && bytes_eq m.path q

-- the manifests of the members that are removed
abbrev pub gone_manifests : Wanted → List MemberManifest → List Name
gone_manifests w ms = map (λ m. m.path) (filter (is_removed w) ms)

-- a member in the folder of the workspace loses its development dependencies
abbrev pub drops_at_root : Wanted → List MemberManifest → Bool
drops_at_root w ms = w.drops_dev && list_any (is_root w) ms

-- the manifest in the folder of the workspace gets its edits at the end
abbrev pub edits_root : Wanted → List MemberManifest → Bool
edits_root w ms = w.no_private && (drops_at_root w ms || has_some (gone_manifests w ms))

-- a path is edited
abbrev pub is_edited : Wanted → List MemberManifest → Name → Bool
is_edited w ms q = list_any (is_alone_at w q) ms || (edits_root w ms && bytes_eq q w.root)

-- ---- what becomes of it

-- a path held a text, and now holds one that P makes of it
abbrev pub Turns : (Name → Name → Type 0) → Name → Contents → Contents → Type 0
Turns P path old new = (text turned : Name) × (old path ≡ Some text) × (new path ≡ Some turned) × P text turned

-- a workspace's text is edited: development dependencies are removed, if they are to, then members
pub record IsRootEdit (folder : Name) (drops_dev : Bool) (private : List Name) (text turned : Name) : Type 0 where
  pub between : Name
  pub dev : MatchBool drops_dev (IsWithoutDev text between) (between ≡ text)
  pub members : MatchBool (has_some private) (IsWithoutPrivate folder (in_order private) between turned) (turned ≡ between)

-- every path that isn't edited holds what it held
abbrev pub KeepsUnedited : Wanted → List MemberManifest → Contents → Contents → Type 0
KeepsUnedited w ms old new = (q : Name) → is_edited w ms q ≡ false → new q ≡ old q

-- each manifest that is edited holds its edit, and every other path what it held
pub record IsPrepared (w : Wanted) (ms : List MemberManifest) (old new : Contents) : Type 0 where
  pub alone : All (λ m. is_alone w m ≡ true → Turns IsWithoutDev m.path old new) ms
  pub root : edits_root w ms ≡ true → Turns (IsRootEdit w.folder (drops_at_root w ms) (gone_manifests w ms)) w.root old new
  pub others : KeepsUnedited w ms old new

-- a path holds what it held, or what P makes of that, or this has failed
abbrev pub TurnsOrStays : Type 0 → (Name → Name → Type 0) → Name → Contents → Contents → Type 0
TurnsOrStays failed P path old new = (new path ≡ old path) ⊎ (Turns P path old new ⊎ failed)

-- each manifest that is edited holds what it held, or its edit, or this has failed for its path
pub record IsPartlyPrepared (w : Wanted) (ms : List MemberManifest) (failed : Name → Type 0) (old new : Contents) : Type 0 where
  pub alone : All (λ m. is_alone w m ≡ true → TurnsOrStays (failed m.path) IsWithoutDev m.path old new) ms
  pub root : edits_root w ms ≡ true → TurnsOrStays (failed w.root) (IsRootEdit w.folder (drops_at_root w ms) (gone_manifests w ms)) w.root old new

-- a private member is in the folder of the workspace, and private members are to be removed
pub record HasPrivateRoot (w : Wanted) (ms : List MemberManifest) : Type 0 where
  pub member : MemberManifest
  pub among : Contains ms member
  pub removed : is_removed w member ≡ true
  pub at_root : is_root w member ≡ true
