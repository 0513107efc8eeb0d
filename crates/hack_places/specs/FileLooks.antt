-- Files that are only looked at.
use Rattle.std.specs.Prelude.{◌≡◌, ◌⊎◌, [], ℕ, List, Result, Ok, Err, string_bytes}
use Rattle.hack_files.specs.Files.{KeepsAll, Makes}
use Rattle.hack_base.specs.Counters.{GrowsBy}
use Rattle.hack_files.specs.View.{FilesView}
use Rattle.hack_files.specs.declared.fs.Files.{Ghosts as Filing}
use Rattle.hack_files.specs.FailedCalls.{LookFailed, NoneFailed}
use Rattle.hack_places.specs.declared.look.LookFault.{LookFault}
use Rattle.hack_places.specs.declared.look.LookFault.TheVariants.{Memory, Device}

-- nothing was changed
pub record Unchanged (tells whole : Type 0) (old new : FilesView) : Type 0 where
  pub same : tells → KeepsAll old.held new.held
  pub untraced : whole → Makes [] old.trace new.trace old.held new.held

-- the error of a look counts one failure; refused memory none, or one of the files'
abbrev pub CountsLookFault : ℕ → ℕ → LookFault → Type 0
CountsLookFault old new Memory = GrowsBy 0 old new ⊎ GrowsBy 1 old new
CountsLookFault old new (Device path) = GrowsBy 1 old new

-- the error names the path that was unseen, and nothing else failed; where memory was refused, the files
-- may have refused it
abbrev pub IsOfUnseen : {F : Type 0} → Filing F → F → F → LookFault → Type 0
IsOfUnseen f old new Memory = NoneFailed f old new ⊎ ((path : List ℕ) × LookFailed f path old new)
IsOfUnseen f old new (Device path) = LookFailed f (string_bytes path) old new

-- looks end at the first that fails, whose path the error names
abbrev pub AreLooksSeen : {F T : Type 0} → Filing F → F → F → Result T LookFault → Type 0
AreLooksSeen f old new (Ok found) = NoneFailed f old new
AreLooksSeen f old new (Err fault) = IsOfUnseen f old new fault

-- the error of a look at a path names that path
abbrev pub IsOfPath : List ℕ → LookFault → Type 0
IsOfPath path Memory = Unit {0}
IsOfPath path (Device named) = string_bytes named ≡ path

-- the error of looks names a path that is one of those looked at
abbrev pub IsOfLooked : (List ℕ → Type 0) → LookFault → Type 0
IsOfLooked Looked Memory = Unit {0}
IsOfLooked Looked (Device named) = Looked (string_bytes named)

-- looks end at the first that fails, which is counted, and no other failed
abbrev pub AreLooksCounted : {T : Type 0} → ℕ → ℕ → Result T LookFault → Type 0
AreLooksCounted old new (Ok found) = GrowsBy 0 old new
AreLooksCounted old new (Err fault) = CountsLookFault old new fault
