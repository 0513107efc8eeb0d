-- What is said, and recorded, of a step that may report an error.
use Rattle.std.specs.Prelude.{◌≡◌, ◌≢◌, ℕ, Bool, true, false, List, [], ◌∷◌, MatchBool, None, Option, Some, Result, Ok, Err}
use Rattle.hack_base.specs.Counters.{GrowsBy}
use Rattle.hack_base.specs.Names.{Name}
use Rattle.hack_base.specs.Streams.{Stream, WritesText}
use Rattle.hack_files.specs.Faults.{of_device}
use Rattle.hack_files.specs.View.{FilesView}
use Rattle.hack_files.specs.WriteBacks.{SaysReason}
use Rattle.hack_files.specs.declared.fs.Files.{Ghosts as Filing}
use Rattle.hack_journal.specs.Recovery.{unrecovered_text}
use Rattle.hack_journal.specs.Refusing.{IsRefused, IsUnseen}
use Rattle.hack_journal.specs.declared.recover.RecoverFault.{RecoverFault}
use Rattle.hack_journal.specs.declared.recover.RecoverFault.TheVariants as unrecovered
use Rattle.hack_places.specs.CallPlaces.{PlacesAt}
use Rattle.hack_recovery.specs.FailedFiles.{OneFailedAt}
use Rattle.hack_recovery.specs.declared.admit.Standing.{Standing}
use Rattle.hack_recovery.specs.declared.admit.Standing.TheVariants.{Nobodys, Anothers, Interrupted}
use Rattle.hack_recovery.specs.Texts.{beside_text, left_text, nothing_left_text, restored_text, row_text, stranger_text, unkept_text, unlocked_text, unrestored_text, unseen_text, unsettled_text, unsure_text, unwatched_text}
use Rattle.hack_recovery.specs.declared.fault.CallFault.{CallFault}
use Rattle.hack_recovery.specs.declared.fault.CallFault.TheVariants.{Memory}
use Rattle.hack_term.specs.Lines.{error_line, info_line, warning_line}
use Rattle.hack_term.specs.declared.term.Coloring.{Coloring}
use Rattle.hack_term.specs.declared.term.Term.{Term}

-- nothing was recorded where it is done, and just an error where it isn't; there is no other fault than
-- that memory was refused, which isn't recorded yet
abbrev pub Tells : Term → Term → Result Bool CallFault → Type 0
Tells was now (Ok true) = now ≡ was
Tells was now (Ok false) = now ≡ record was { error = true }
Tells was now (Err fault) = (fault ≡ Memory) × (now ≡ was)

-- whose edits may stand while a call goes on: one of another call is told, and a warning given of those of an
-- interrupted one
abbrev pub SaysStanding : Standing → Term → Term → Stream → Stream → Type 0
SaysStanding Nobodys was now old new = (now ≡ was) × (new ≡ old)
SaysStanding Anothers was now old new = (now ≡ was) × WritesText (info_line was.coloring beside_text) old new
SaysStanding Interrupted was now old new = (now ≡ record was { warn = true }) × WritesText (warning_line was.coloring unlocked_text) old new

-- ---- a journal

-- what is said before the error of a journal: how to put back by hand what it tells, or why a file failed
abbrev pub SaysWhy : Coloring → RecoverFault → Stream → Stream → Type 0
SaysWhy coloring unrecovered.Memory old new = new ≡ old
SaysWhy coloring (unrecovered.NotJournal j) old new = WritesText (info_line coloring row_text) old new
SaysWhy coloring (unrecovered.Changed p j) old new = WritesText (info_line coloring row_text) old new
SaysWhy coloring (unrecovered.Files f) old new = MatchBool (of_device f) (SaysReason coloring old new) (new ≡ old)

-- its own line, unless memory was refused for it
abbrev pub SaysError : Coloring → RecoverFault → Result Bool CallFault → Stream → Stream → Type 0
SaysError coloring fault (Ok true) old new = ⊥
SaysError coloring fault (Ok false) old new = WritesText (error_line coloring (unrecovered_text fault)) old new
SaysError coloring fault (Err refused) old new = new ≡ old

-- both, one after the other
abbrev pub SaysFault : Coloring → RecoverFault → Result Bool CallFault → Stream → Stream → Type 0
SaysFault coloring fault came old new = (mid : Stream) × SaysWhy coloring fault old mid × SaysError coloring fault came mid new

-- the journal names a file that no call edits
abbrev pub SaysStranger : Coloring → Name → Name → Result Bool CallFault → Stream → Stream → Type 0
SaysStranger coloring journal path (Ok true) old new = ⊥
SaysStranger coloring journal path (Ok false) old new =
    (mid : Stream) × WritesText (info_line coloring row_text) old mid × WritesText (error_line coloring (stranger_text journal path)) mid new
SaysStranger coloring journal path (Err refused) old new = new ≡ old

-- a file was restored
abbrev pub SaysFileRestored : Coloring → Name → Name → Stream → Stream → Type 0
SaysFileRestored coloring dir path old new = WritesText (info_line coloring (restored_text dir path)) old new

-- these files were restored: a line for each
abbrev pub SaysRestored : Coloring → Name → List Name → Stream → Stream → Type 0
SaysRestored coloring dir [] old new = new ≡ old
SaysRestored coloring dir (path ∷ paths) old new = (mid : Stream) × SaysFileRestored coloring dir path old mid × SaysRestored coloring dir paths mid new

-- ---- the lockfile and its copy

-- a call at this path failed: the system's words, if it has any, and the error; nothing is said where memory was refused
abbrev pub SaysFailed : Coloring → Name → Result Bool CallFault → Stream → Stream → Type 0
SaysFailed coloring path (Ok true) old new = ⊥
SaysFailed coloring path (Ok false) old new =
    (mid : Stream) × SaysReason coloring old mid × WritesText (error_line coloring (unsettled_text path)) mid new
SaysFailed coloring path (Err refused) old new = new ≡ old

-- what is said of a lockfile that isn't what its copy is: the guard restored it, and any other call left it
abbrev pub SaysLockfile : Bool → Coloring → Name → Name → Stream → Stream → Type 0
SaysLockfile true coloring dir path old new = SaysFileRestored coloring dir path old new
SaysLockfile false coloring dir path old new = WritesText (info_line coloring (left_text dir path)) old new

-- that is said just where the lockfile doesn't hold these bytes
pub data SaysIfOther (by_guard : Bool) (coloring : Coloring) (dir path : Name) (tells : Type 0) (held : Option (List ℕ)) (bytes : List ℕ) (old new : Stream) : Type 0 where
  other : (tells → held ≢ Some bytes) → SaysLockfile by_guard coloring dir path old new → SaysIfOther by_guard coloring dir path tells held bytes old new
  same : (tells → held ≡ Some bytes) → new ≡ old → SaysIfOther by_guard coloring dir path tells held bytes old new

-- nothing is said where it is done; else a call at this path failed, as `one` says of it, and that was said
abbrev pub SaysIfNotDone : Type 0 → Coloring → Name → Result Bool CallFault → Stream → Stream → Type 0
SaysIfNotDone one coloring path (Ok true) old new = new ≡ old
SaysIfNotDone one coloring path (Ok false) old new = one × SaysFailed coloring path (Ok false) old new
SaysIfNotDone one coloring path (Err fault) old new = one × SaysFailed coloring path (Err fault) old new

-- such a call of these files failed, and that was said
abbrev pub SaysUnsettled : {F : Type 0} → Filing F → Coloring → Name → ℕ → ℕ → Result Bool CallFault → Stream → Stream → Type 0
SaysUnsettled f coloring path before now came old new = OneFailedAt f path before now × SaysFailed coloring path came old new

-- where it is done, what is said of a lockfile, unless it held these bytes; else why it isn't
abbrev pub SaysOfLockfile : {F : Type 0} → Filing F → Bool → Coloring → Name → Name → List ℕ → FilesView → FilesView → Result Bool CallFault → Stream → Stream → Type 0
SaysOfLockfile f by_guard coloring dir path bytes was now (Ok true) old new = SaysIfOther by_guard coloring dir path f.tells (was.held path) bytes old new
SaysOfLockfile f by_guard coloring dir path bytes was now (Ok false) old new = SaysUnsettled f coloring path was.failed now.failed (Ok false) old new
SaysOfLockfile f by_guard coloring dir path bytes was now (Err fault) old new = SaysUnsettled f coloring path was.failed now.failed (Err fault) old new

-- What is said of a copy of the lockfile: nothing, where none is there; that a look at it failed; why the lockfile can't be
-- looked at or written, and then the copy stays; or what became of the lockfile, and then that the copy can't be removed, if
-- it can't.
pub data SaysSettling {F L : Type 0} (f : Filing F) (l : Filing L) (places : PlacesAt) (by_guard : Bool) (dir : Name) (coloring : Coloring)
    (files files_now lockfiles lockfiles_now : FilesView) (came : Result Bool CallFault) (old new : Stream) : Type 0 where
  absent : (f.tells → files.held places.copy ≡ None) → came ≡ Ok true → new ≡ old
      → SaysSettling f l places by_guard dir coloring files files_now lockfiles lockfiles_now came old new
  unseen : GrowsBy 1 files.failed files_now.failed → IsUnseen f places.copy → SaysFailed coloring places.copy came old new
      → SaysSettling f l places by_guard dir coloring files files_now lockfiles lockfiles_now came old new
  unsettled : (bytes : List ℕ) → (f.tells → files.held places.copy ≡ Some bytes) → (f.tells → files_now.held places.copy ≡ Some bytes) → GrowsBy 0 files.failed files_now.failed
      → SaysUnsettled l coloring places.lockfile lockfiles.failed lockfiles_now.failed came old new
      → SaysSettling f l places by_guard dir coloring files files_now lockfiles lockfiles_now came old new
  settled : (bytes : List ℕ) (mid : Stream) → (f.tells → files.held places.copy ≡ Some bytes) → GrowsBy 0 lockfiles.failed lockfiles_now.failed
      → SaysIfOther by_guard coloring dir places.lockfile l.tells (lockfiles.held places.lockfile) bytes old mid
      → SaysIfNotDone (GrowsBy 1 files.failed files_now.failed × IsRefused f places.copy) coloring places.copy came mid new
      → SaysSettling f l places by_guard dir coloring files files_now lockfiles lockfiles_now came old new

-- ---- why a call isn't performed, or how

-- a path can't be looked at: the system's words, if it has any, and then its error
abbrev pub SaysUnseen : Coloring → Name → Stream → Stream → Type 0
SaysUnseen coloring path old new = (mid : Stream) × SaysReason coloring old mid × WritesText (error_line coloring (unseen_text path)) mid new

-- the same, and then a warning
abbrev pub SaysUnsure : Coloring → Name → Stream → Stream → Type 0
SaysUnsure coloring path old new = (mid : Stream) × SaysReason coloring old mid × WritesText (warning_line coloring (unsure_text path)) mid new

-- why nothing is restored: nothing is left, or, which is an error, another call has what is; a guard says nothing, since
-- nobody reads it
abbrev pub SaysUnrestored : Bool → Bool → Term → Term → Stream → Stream → Type 0
SaysUnrestored true left was now old new = (now ≡ was) × (new ≡ old)
SaysUnrestored false true was now old new = (now ≡ record was { error = true }) × WritesText (error_line was.coloring unrestored_text) old new
SaysUnrestored false false was now old new = (now ≡ was) × WritesText (info_line was.coloring nothing_left_text) old new

-- where no guard watches, that is said
abbrev pub SaysWatched : Coloring → Bool → Stream → Stream → Type 0
SaysWatched coloring true old new = new ≡ old
SaysWatched coloring false old new = WritesText (info_line coloring unwatched_text) old new

-- ---- what stays

-- it was warned of this
abbrev pub Warns : Name → Term → Term → Stream → Stream → Type 0
Warns text was now old new = (now ≡ record was { warn = true }) × WritesText (warning_line was.coloring text) old new

-- just where the journal refused something, that is said: an edit, since no call reads the journal's own files
abbrev pub SaysUnkept : Bool → Coloring → Name → Stream → Stream → Type 0
SaysUnkept false coloring journal old new = new ≡ old
SaysUnkept true coloring journal old new = WritesText (info_line coloring (unkept_text journal)) old new
