-- What becomes of what an interrupted call left.
use Rattle.std.specs.Prelude.{◌≡◌, ◌≢◌, ◌⊎◌, [], ℕ, Bool, true, false, List, Option, Some, None, Ok, Err, Result, codes, string_bytes, if◌then◌else◌}
use Rattle.std.specs.Option.{option_or}
use Rattle.hack_base.specs.Counters.{GrowsBy}
use Rattle.hack_base.specs.Names.{Name}
use Rattle.hack_base.specs.Streams.{Stream}
use Rattle.hack_files.specs.Files.{Contents, KeepsAll, KeepsOthers, Makes, MakesOrNot, puts, removes}
use Rattle.hack_files.specs.declared.fs.Files.{Ghosts as Filing}
use Rattle.hack_journal.specs.Recovery.{ComesNearer, CountsRecoverFault, IsJournalOrItsEntry, IsJournalRefusal, IsReached, IsRestored, IsWhy, IsWhyUnread, SparesOthers}
use Rattle.hack_journal.specs.Refusing.{IsRefused, IsUnseen}
use Rattle.hack_journal.specs.Rows.{Spot}
use Rattle.hack_journal.specs.CutFiles.{IsSafeOrCut, StaysSafeOrCut}
use Rattle.hack_journal.specs.SafeFiles.{AfterEachFront, IsSafe, StaysSafe}
use Rattle.hack_journal.specs.Strangers.{NamesNone, NamesStranger}
use Rattle.hack_journal.specs.declared.recover.RecoverFault.{RecoverFault}
use Rattle.hack_journal.specs.declared.recover.RecoverFault.TheVariants as unrecovered
use Rattle.hack_files.specs.View.{FilesView}
use Rattle.hack_term.specs.declared.term.Coloring.{Coloring}
use Rattle.hack_term.specs.declared.term.Term.{Term}
use Rattle.hack_words.specs.declared.cli.env.Env.{Env}
use Rattle.hack_base.specs.PathTexts.{join_of}
use Rattle.hack_places.specs.CallPlaces.{PlacesAt}
use Rattle.hack_places.specs.Folders.{leaves_out}
use Rattle.hack_places.specs.FileLooks.{Unchanged}
use Rattle.hack_recovery.specs.FailedFiles.{FailsBetween, NoneFailedBetween}
use Rattle.hack_recovery.specs.Scenes.{IsQuiet, OneMayFail, Scene, scene_with}
use Rattle.hack_recovery.specs.Telling.{SaysFailed, SaysFault, SaysRestored, SaysSettling, SaysStranger, Tells}
use Rattle.hack_recovery.specs.declared.fault.CallFault.{CallFault}
use Rattle.hack_recovery.specs.declared.fault.CallFault.TheVariants.{Memory}

-- ---- a journal

-- where none is, nothing is written or removed
abbrev pub IsStill : Type 0 → Type 0 → Spot → FilesView → FilesView → Type 0
IsStill tells whole spot old new = tells → whole → old.held spot.journal ≡ None → Makes [] old.trace new.trace old.held new.held

-- after every front of the changes, each path beside it holds what it held, or what it held at first
abbrev pub StaysNearer : Type 0 → Type 0 → Spot → FilesView → FilesView → Type 0
StaysNearer tells whole spot old new = tells → whole → AfterEachFront (ComesNearer spot old.held) old.trace new.trace old.held new.held

-- what it keeps was brought back, also where a write was cut: these paths held something else, and the
-- journal is gone
pub record Recovers {F : Type 0} (f : Filing F) (spot : Spot) (paths : List Name) (old new : FilesView) : Type 0 where
  pub failures : GrowsBy 0 old.failed new.failed
  pub none : NoneFailedBetween f old new
  pub restored : f.tells → IsRestored spot paths old.held new.held
  pub still : IsStill f.tells f.whole spot old new
  pub nearer : StaysNearer f.tells f.whole spot old new
  pub comes_back : f.tells → (first : Contents) → IsSafeOrCut spot first old.held → KeepsAll first new.held
  pub safe : f.tells → f.whole → (first : Contents) → IsSafe spot first old.held → StaysSafe spot first old.trace new.trace old.held new.held
  pub safe_after_cut : f.tells → f.whole → (first : Contents) → IsSafeOrCut spot first old.held → StaysSafeOrCut spot first old.trace new.trace old.held new.held

-- it could not be brought back, or not all of it: the error says why, what isn't back is still in the
-- journal, and no path was changed but the row's and those of its entries, where each held what a call
-- left there
pub record FailsToRestore {F : Type 0} (f : Filing F) (spot : Spot) (fault : RecoverFault) (old new : FilesView) : Type 0 where
  pub failures : CountsRecoverFault old.failed new.failed fault
  pub cause : FailsBetween f (IsJournalOrItsEntry spot f.tells old.held) fault old new
  pub why : IsWhy spot f.tells old.held fault
  pub still : IsStill f.tells f.whole spot old new
  pub spared : f.tells → SparesOthers spot old.held new.held
  pub nearer : StaysNearer f.tells f.whole spot old new
  pub refused : IsJournalRefusal fault → f.tells → KeepsAll old.held new.held
  pub never : IsJournalRefusal fault → f.tells → (first : Contents) → ¬ IsSafeOrCut spot first old.held
  pub safe : f.tells → f.whole → (first : Contents) → IsSafe spot first old.held → StaysSafe spot first old.trace new.trace old.held new.held
  pub safe_after_cut : f.tells → f.whole → (first : Contents) → IsSafeOrCut spot first old.held → StaysSafeOrCut spot first old.trace new.trace old.held new.held

-- what comes of a fault: refused memory is told as that, and after any other it isn't done
abbrev pub IsToldAs : RecoverFault → Result Bool CallFault → Type 0
IsToldAs unrecovered.Memory came = came ≡ Err Memory
IsToldAs fault came = came ≢ Ok true

-- what came of bringing it back: it is, and a line is said for each path; or why it isn't, unless memory is refused
-- for that
pub data IsBroughtBack {F : Type 0} (f : Filing F) (spot : Spot) (dir : Name) (coloring : Coloring) (old new : FilesView) (err now_err : Stream) (came : Result Bool CallFault) : Type 0 where
  brought : (paths : List Name) → Recovers f spot paths old new → came ≡ Ok true → SaysRestored coloring dir paths err now_err
      → IsBroughtBack f spot dir coloring old new err now_err came
  stopped : (fault : RecoverFault) → FailsToRestore f spot fault old new → IsToldAs fault came → SaysFault coloring fault came err now_err
      → IsBroughtBack f spot dir coloring old new err now_err came

-- what became of a journal: it can't be read, which is said of one that an interrupted call left only
-- where a look at it failed; or it names a file that no call edits, as none does that such a call left,
-- and nothing is changed; or it names none, and what it keeps was brought back. An error was reported
-- where it isn't back; paths are shown from the folder `dir`
pub data Restores {F : Type 0} (f : Filing F) (spot : Spot) (dir : Name) (old new : FilesView) (was now : Term) (err now_err : Stream) (came : Result Bool CallFault) : Type 0 where
  unread : (fault : RecoverFault) → Unchanged f.tells f.whole old new → CountsRecoverFault old.failed new.failed fault → FailsBetween f (IsReached spot f.tells old.held) fault old new → IsWhyUnread spot f.tells old.held fault
      → (f.tells → (first : Contents) → IsSafeOrCut spot first old.held → came ≡ Ok false → GrowsBy 1 old.failed new.failed) → IsToldAs fault came → Tells was now came
      → SaysFault was.coloring fault came err now_err → Restores f spot dir old new was now err now_err came
  strange : (path : Name) → Unchanged f.tells f.whole old new → GrowsBy 0 old.failed new.failed → NoneFailedBetween f old new → (f.tells → NamesStranger spot old.held path) → (f.tells → (first : Contents) → ¬ IsSafeOrCut spot first old.held) → came ≢ Ok true → Tells was now came
      → SaysStranger was.coloring spot.journal path came err now_err → Restores f spot dir old new was now err now_err came
  trusted : (at : FilesView) → Unchanged f.tells f.whole old at → GrowsBy 0 old.failed at.failed → NoneFailedBetween f old at → (f.tells → NamesNone spot old.held) → IsBroughtBack f spot dir was.coloring at new err now_err came → Tells was now came
      → Restores f spot dir old new was now err now_err came

-- ---- the copy of the lockfile

module _ {F L : Type 0} (f : Filing F) (l : Filing L) (places : PlacesAt) where
  -- one call failed, at this path: the lockfile was left unseen, the write of the copy was refused, or the
  -- manifest was left unseen that says whether the lockfile is that of the call's package
  abbrev pub FailsToCopy : Name → ℕ → ℕ → ℕ → ℕ → Type 0
  FailsToCopy path before now first last =
      ((path ≡ places.lockfile) × GrowsBy 0 before now × GrowsBy 1 first last × IsUnseen l path)
      ⊎ (GrowsBy 1 before now × GrowsBy 0 first last × (((path ≡ places.copy) × IsRefused f path) ⊎ ((path ≡ join_of places.found (codes "Cargo.toml")) × IsUnseen f path)))

  -- nothing is said where the lockfile is copied, or need not be, and no call failed; nor where memory was refused, also
  -- after such a call, or another look; else which call failed
  abbrev pub EndsCopying : Coloring → ℕ → ℕ → ℕ → ℕ → Result Bool CallFault → Stream → Stream → Type 0
  EndsCopying coloring before now first last (Ok true) old new = GrowsBy 0 before now × GrowsBy 0 first last × (new ≡ old)
  EndsCopying coloring before now first last (Ok false) old new = (path : Name) × FailsToCopy path before now first last × SaysFailed coloring path (Ok false) old new
  EndsCopying coloring before now first last (Err fault) old new =
      (((path : Name) × FailsToCopy path before now first last) ⊎ (OneMayFail before now × GrowsBy 0 first last)) × (new ≡ old)

  -- what the lockfile's copy is to hold: what the lockfile does, if there is one, unless the workspace leaves out the
  -- call's package, which has a lockfile of its own; else what it held
  abbrev pub copy_of : Contents → Contents → Option (List ℕ)
  copy_of held lockfiles = if leaves_out held places.found places.pkg_dir then held places.copy else option_or (lockfiles places.lockfile) (held places.copy)

  -- the lockfile was copied, and no other file is changed; where it isn't done, a call failed, which is reported, or memory was refused, and nothing is changed, unless the copy's own write was refused: even then it
  -- is whole, or as it was
  pub record KeepsCopy (came : Result Bool CallFault) (old new : Scene) : Type 0 where
    pub copied : came ≡ Ok true → f.tells → l.tells → new.files.held places.copy ≡ copy_of old.files.held old.lockfiles.held
    pub others : f.tells → KeepsOthers places.copy old.files.held new.files.held
    pub made : f.whole → Makes [] old.files.trace new.files.trace old.files.held new.files.held
        ⊎ ((bytes : Name) × (f.tells → leaves_out old.files.held places.found places.pkg_dir ≡ false) × (l.tells → old.lockfiles.held places.lockfile ≡ Some bytes) × MakesOrNot (puts places.copy bytes) old.files.trace new.files.trace old.files.held new.files.held)
    pub undone : came ≢ Ok true → Unchanged f.tells f.whole old.files new.files ⊎ IsRefused f places.copy
    pub same : Unchanged l.tells l.whole old.lockfiles new.lockfiles
    pub told : Tells old.host.term new.host.term came
    pub ends : EndsCopying old.host.term.coloring old.files.failed new.files.failed old.lockfiles.failed new.lockfiles.failed came old.streams.err new.streams.err
    pub quiet : IsQuiet old new

  -- the copy is gone, no other file is changed, and no call failed; the guard gives the lockfile what the
  -- copy has, and nobody else changes it. Whatever comes of it, the copy still has that or the lockfile has
  -- it; the lockfile holds what it held, or that, unless its own write was refused; and at most one call of
  -- each failed; where it isn't done, what is said tells which
  pub record Settles (env : Env) (old new : Scene) (came : Result Bool CallFault) : Type 0 where
    pub gone : came ≡ Ok true → f.tells → new.files.held places.copy ≡ None
    pub counted : came ≡ Ok true → GrowsBy 0 old.files.failed new.files.failed × GrowsBy 0 old.lockfiles.failed new.lockfiles.failed
    pub failed : OneMayFail old.files.failed new.files.failed × OneMayFail old.lockfiles.failed new.lockfiles.failed
    pub others : f.tells → KeepsOthers places.copy old.files.held new.files.held
    pub made : f.whole → MakesOrNot (removes places.copy) old.files.trace new.files.trace old.files.held new.files.held
    pub given : came ≡ Ok true → env.by_guard ≡ true → f.tells → l.tells → (bytes : Name) → old.files.held places.copy ≡ Some bytes → new.lockfiles.held places.lockfile ≡ Some bytes
    pub kept : env.by_guard ≡ true → f.tells → l.tells → (bytes : Name) → old.files.held places.copy ≡ Some bytes → (new.files.held places.copy ≡ Some bytes) ⊎ (new.lockfiles.held places.lockfile ≡ Some bytes)
    pub only : l.tells → (new.lockfiles.held places.lockfile ≡ old.lockfiles.held places.lockfile)
        ⊎ ((f.tells → new.lockfiles.held places.lockfile ≡ old.files.held places.copy) ⊎ IsRefused l places.lockfile)
    pub left : env.by_guard ≡ false → Unchanged l.tells l.whole old.lockfiles new.lockfiles
    pub wrote : l.whole → Makes [] old.lockfiles.trace new.lockfiles.trace old.lockfiles.held new.lockfiles.held
        ⊎ ((bytes : Name) × (f.tells → old.files.held places.copy ≡ Some bytes) × MakesOrNot (puts places.lockfile bytes) old.lockfiles.trace new.lockfiles.trace old.lockfiles.held new.lockfiles.held)
    pub none : f.tells → old.files.held places.copy ≡ None → l.tells → KeepsAll old.lockfiles.held new.lockfiles.held
    pub apart : l.tells → KeepsOthers places.lockfile old.lockfiles.held new.lockfiles.held
    pub told : Tells old.host.term new.host.term came
    pub said : SaysSettling f l places env.by_guard (string_bytes env.current_dir) old.host.term.coloring old.files new.files old.lockfiles new.lockfiles came old.streams.err new.streams.err
    pub quiet : IsQuiet old new

-- ---- all of it

-- the journal, and where an older version had it
abbrev pub journal_spot : PlacesAt → Spot
journal_spot places = record { folder = places.folder; journal = places.journal }

abbrev pub older_spot : PlacesAt → Spot
older_spot places = record { folder = places.older_folder; journal = places.older }

-- what an interrupted call left is taken back: the journal first, then one of an older version, and
-- then the lockfile's copy; it ends where one of these can't be
pub data TakesBack {F L : Type 0} (f : Filing F) (l : Filing L) (env : Env) (places : PlacesAt) (old new : Scene) (came : Result Bool CallFault) : Type 0 where
  unrestored : Restores f (journal_spot places) (string_bytes env.current_dir) old.files new.files old.host.term new.host.term old.streams.err new.streams.err came → came ≢ Ok true
      → new ≡ scene_with new.files new.host.term new.streams.err old → TakesBack f l env places old new came
  older_unrestored : (files : FilesView) (term : Term) (err : Stream) → Restores f (journal_spot places) (string_bytes env.current_dir) old.files files old.host.term term old.streams.err err (Ok true)
      → Restores f (older_spot places) (string_bytes env.current_dir) files new.files term new.host.term err new.streams.err came → came ≢ Ok true
      → new ≡ scene_with new.files new.host.term new.streams.err old → TakesBack f l env places old new came
  settled : (files later : FilesView) (term after : Term) (err late : Stream) → Restores f (journal_spot places) (string_bytes env.current_dir) old.files files old.host.term term old.streams.err err (Ok true)
      → Restores f (older_spot places) (string_bytes env.current_dir) files later term after err late (Ok true) → Settles f l places env (scene_with later after late old) new came
      → TakesBack f l env places old new came
