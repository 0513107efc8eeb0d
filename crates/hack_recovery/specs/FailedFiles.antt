-- Which paths a call's files left unseen, and which writes they refused. In code over any files nothing but
-- such calls shows that.
use Rattle.std.specs.Prelude.{◌≡◌, ◌⊎◌, ℕ, Bool, List, false}
use Rattle.hack_base.specs.Counters.{GrowsBy}
use Rattle.hack_base.specs.Names.{Name}
use Rattle.hack_files.specs.FailedCalls.{NoneFailed}
use Rattle.hack_files.specs.declared.fs.Files.{Ghosts as Filing}
use Rattle.hack_files.specs.View.{FilesView, files_view}
use Rattle.hack_journal.specs.FailedCalls.{IsOfFailedCall}
use Rattle.hack_journal.specs.Refusing.{IsRefused, IsUnseen, NotesRefusals}
use Rattle.hack_journal.specs.declared.recover.RecoverFault.{RecoverFault}

-- writes or removals of these paths were refused by such files, one after the other
pub record RefusesThese {F : Type 0} (f : Filing F) (paths : List Name) : Type 0 where
  pub before : F
  pub after : F
  pub refused : f.refuses before after paths

-- just one call of them failed: this path was left unseen, or its write or removal was refused
pub record OneFailedAt {F : Type 0} (f : Filing F) (path : Name) (before now : ℕ) : Type 0 where
  pub counted : GrowsBy 1 before now
  pub cause : IsUnseen f path ⊎ IsRefused f path

-- between files as they were in these scenes no call failed
pub record NoneFailedBetween {F : Type 0} (f : Filing F) (old new : FilesView) : Type 0 where
  pub before : F
  pub after : F
  pub first : files_view f before ≡ old
  pub last : files_view f after ≡ new
  pub none : NoneFailed f before after

-- between lockfiles as they were in these scenes writes were refused, or none was, as is noted
pub record TellsRefusals {F : Type 0} (f : Filing F) (old new : FilesView) (unwritten : Bool) : Type 0 where
  pub before : F
  pub after : F
  pub first : files_view f before ≡ old
  pub last : files_view f after ≡ new
  pub noted : NotesRefusals f before after false unwritten

-- between files as they were in these scenes just the call failed that the error tells of, at a path of which P
-- holds; none did where it is a refusal, and at most one, at such a path, where memory was refused
pub record FailsBetween {F : Type 0} (f : Filing F) (P : Name → Type 0) (fault : RecoverFault) (old new : FilesView) : Type 0 where
  pub before : F
  pub after : F
  pub first : files_view f before ≡ old
  pub last : files_view f after ≡ new
  pub failed : IsOfFailedCall f P before after fault
