-- Which paths are looked at to find the places of a call. What files hold says where looks end; where they don't say
-- it, any folder may come next.
use Rattle.std.specs.Prelude.{◌≡◌, ◌⊎◌, ◌++◌, ◌∷◌, List, None, Option, Some, codes, false}
use Rattle.hack_base.specs.Names.{Name}
use Rattle.hack_base.specs.PathTexts.{join_of, normal_of}
use Rattle.hack_files.specs.Files.{Contents}
use Rattle.hack_places.specs.CallPlaces.{PlacesAt}
use Rattle.hack_places.specs.Folders.{first_some, folders, said_in, with_manifest}
use Rattle.hack_places.specs.Repositories.{has_head, is_folder, link_in, repository_in}

-- these folders are left of some: nothing was found in those before them
pub record AreLeft {A : Type 0} (tells : Type 0) (found : Name → Option A) (some left : List Name) : Type 0 where
  pub passed : List Name
  pub are : some ≡ passed ++ left
  pub none : tells → first_some found passed ≡ None

-- this folder comes next
abbrev pub ComesNext : {A : Type 0} → Type 0 → (Name → Option A) → List Name → Name → Type 0
ComesNext tells found some folder = (others : List Name) × AreLeft tells found some (folder ∷ others)

-- the manifest of the next of these folders, as long as nothing was found in those before it
abbrev pub IsManifestLook : {A : Type 0} → Type 0 → (Name → Option A) → List Name → Name → Type 0
IsManifestLook tells found some path = (folder : Name) × ComesNext tells found some folder × (path ≡ join_of folder (codes "Cargo.toml"))

-- that of the next folder, from the start up, as long as none has a manifest
abbrev pub IsPackageLook : Type 0 → Contents → Name → Name → Type 0
IsPackageLook tells held start = IsManifestLook tells (with_manifest held) (folders start)

-- that of the next folder, from the package's up, as long as none says where its workspace is
abbrev pub IsWorkspaceLook : Type 0 → Contents → Name → Name → Type 0
IsWorkspaceLook tells held pkg_dir = IsManifestLook tells (said_in held pkg_dir) (folders pkg_dir)

-- what is looked at, in order, for the own folder of a repository whose topmost folder this may be, with this `.git`:
-- each, where those before it don't decide it
pub data IsOwnFolderLook (tells : Type 0) (held : Contents) (folder git path : Name) : Type 0 where
  head : path ≡ join_of git (codes "HEAD") → IsOwnFolderLook tells held folder git path
  itself : (tells → has_head held git ≡ false) → path ≡ join_of git (codes ".") → IsOwnFolderLook tells held folder git path
  file : (tells → (has_head held git ≡ false) × (is_folder held git ≡ false)) → path ≡ git → IsOwnFolderLook tells held folder git path
  linked : (bytes link : Name) → (tells → (has_head held git ≡ false) × (is_folder held git ≡ false) × (held git ≡ Some bytes)) → link_in bytes ≡ Some link
      → path ≡ join_of (normal_of (join_of folder link)) (codes "HEAD") → IsOwnFolderLook tells held folder git path

-- that in the next of these folders, as long as none is a repository's topmost one
abbrev pub IsRepositoryLook : Type 0 → Contents → List Name → Name → Type 0
IsRepositoryLook tells held some path =
    (folder : Name) × ComesNext tells (repository_in held) some folder × IsOwnFolderLook tells held folder (join_of folder (codes ".git")) path

-- where an interrupted call may have left something
abbrev pub IsPlaceLook : PlacesAt → Name → Type 0
IsPlaceLook places path = (path ≡ places.journal) ⊎ ((path ≡ places.older) ⊎ (path ≡ places.copy))
