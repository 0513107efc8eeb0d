-- Where a call's workspace is, its journal, and what else is kept.
use Rattle.std.specs.Prelude.{◌≡◌, ◌||◌, Bool, codes, is_some}
use Rattle.hack_base.specs.Names.{Name}
use Rattle.hack_base.specs.PathTexts.{join_of}
use Rattle.hack_files.specs.Files.{Contents}
use Rattle.hack_places.specs.JournalPlaces.{journal_beside, journal_of, lockfile_copy}

-- the workspace's folder, as it was found, and by its path without symbolic links; the folder of the call's
-- package; the journal, and where an older version had it, with its folder; the lockfile, and its copy
pub record PlacesAt : Type 0 where
  pub found : Name
  pub pkg_dir : Name
  pub folder : Name
  pub journal : Name
  pub older_folder : Name
  pub older : Name
  pub lockfile : Name
  pub copy : Name

-- the places of a workspace's folder; the journal's was looked for
pub record ArePlacesOf (tells : Type 0) (held : Contents) (folder : Name) (places : PlacesAt) : Type 0 where
  pub folder_is : places.folder ≡ folder
  pub journal_is : tells → places.journal ≡ journal_of held folder
  pub older_folder_is : places.older_folder ≡ folder
  pub older_is : places.older ≡ journal_beside folder
  pub lockfile_is : places.lockfile ≡ join_of folder (codes "Cargo.lock")
  pub copy_is : places.copy ≡ lockfile_copy places.journal

-- an interrupted call left a journal, or a copy of the lockfile
abbrev pub is_left : Contents → PlacesAt → Bool
is_left held places = is_some (held places.journal) || is_some (held places.older) || is_some (held places.copy)
