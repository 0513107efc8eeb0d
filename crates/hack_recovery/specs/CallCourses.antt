-- The ways that a call can go.
use Rattle.std.specs.Prelude.{◌≡◌, ◌⊎◌, ℕ, Bool, true, false, if◌then◌else◌, not, nat_eq, IsSome, List, None, Ok, Err, Option, Result, string_bytes}
use Rattle.hack_base.specs.Counters.{GrowsBy}
use Rattle.hack_base.specs.Names.{Name}
use Rattle.hack_base.specs.Streams.{Stream}
use Rattle.hack_files.specs.Files.{Contents, KeepsAll, KeepsAllBut, KeepsOthers, MakesOrNot, removes}
use Rattle.hack_journal.specs.LockfilesApart.{KeepsOtherFiles}
use Rattle.hack_journal.specs.Refusing.{AreJust, HoldsByKind, IsRefused, IsRefusedOrUnkept, IsUnseen}
use Rattle.hack_journal.specs.Rows.{Spot}
use Rattle.hack_journal.specs.SafeFiles.{StaysSafe, without}
use Rattle.hack_journal.specs.declared.unkept.Unkept.{Ghosts as Noting}
use Rattle.hack_journaled.specs.Journals.{BetweenBoth, IsAccounted, IsWhyItStays, OnlyEndFailed, SaysCallOver, contents_seen, files_seen, world_seen}
use Rattle.hack_run.specs.CallChanges.{IsChangeTrace}
use Rattle.hack_run.specs.CallTrace.{IsCallTrace}
use Rattle.hack_run.specs.LastingEdits.{LeavesAtMostEdits}
use Rattle.hack_run.specs.Standing.{Between, EditsStand}
use Rattle.hack_run.specs.TemporaryEdits.{BringsBack, IsClean, RestoresEdits}
use Rattle.hack_run.specs.Refusals.{AreRefused, ReportsRefusal}
use Rattle.hack_run.specs.Shown.{SaysCall, looks_of}
use Rattle.hack_files.specs.View.{FilesView, files_view}
use Rattle.hack_files.specs.declared.fs.Files.{Ghosts as Filing}
use Rattle.hack_run.specs.Worlds.{IsStatus}
use Rattle.hack_term.specs.declared.term.Term.{Term}
use Rattle.hack_words.specs.declared.cli.env.Env.{Env}
use Rattle.hack_recovery.specs.declared.admit.Standing.{Standing}
use Rattle.hack_recovery.specs.declared.admit.Way.{Way}
use Rattle.hack_recovery.specs.declared.admit.Way.TheVariants.{Plain, Guarded}
use Rattle.hack_words.specs.declared.cli.edits.Edits.{Edits}
use Rattle.hack_words.specs.declared.cli.edits.Edits.TheVariants as edits
use Rattle.hack_recovery.specs.declared.fault.CallFault.{CallFault}
use Rattle.hack_recovery.specs.declared.fault.CallFault.TheVariants.{Memory}
use Rattle.hack_recovery.specs.AskedEdits.{AsksForEdits, AsksToPrint}
use Rattle.hack_words.specs.Edits.{is_change, is_restore}
use Rattle.hack_recovery.specs.Admission.{IsAdmitted}
use Rattle.hack_places.specs.CallPlaces.{ArePlacesOf, PlacesAt, is_left}
use Rattle.hack_places.specs.FileLooks.{Unchanged}
use Rattle.hack_places.specs.Folders.{folders, package_from, start_at, workspace_around}
use Rattle.hack_places.specs.LookedPaths.{IsPackageLook, IsPlaceLook, IsRepositoryLook, IsWorkspaceLook}
use Rattle.hack_recovery.specs.FailedFiles.{RefusesThese, TellsRefusals}
use Rattle.hack_recovery.specs.GuardEvents.{GuardsView, after_leave, after_start}
use Rattle.hack_recovery.specs.LockEvents.{LocksView, after_release}
use Rattle.hack_recovery.specs.Restoring.{KeepsCopy, TakesBack, journal_spot}
use Rattle.hack_recovery.specs.Scenes.{IsQuiet, IsToldWhy, OneMayFail, Refuses, Scene, Untouched, said_in, scene_with, world_in}
use Rattle.hack_recovery.specs.Telling.{SaysStanding, SaysUnkept, SaysUnrestored, SaysUnseen, SaysUnsure, SaysWatched, Warns}
use Rattle.hack_recovery.specs.Texts.{copy_keeps, copy_left, copy_may_keep, journal_may_stay, journal_stays, stay_text}

-- ---- the beginning

-- where a call that names this manifest, or none, begins to look for its workspace
abbrev pub start_of : Env → Option Name → Name
start_of env path = start_at path (string_bytes env.current_dir)

-- the folders of its package and of its workspace: what a guard calls is called in the workspace's, and needs no
-- manifest that says so
abbrev pub package_of : Contents → Env → Option Name → Name
package_of held env path = if env.by_guard then string_bytes env.current_dir else package_from held (start_of env path)

abbrev pub workspace_of : Contents → Env → Option Name → Name
workspace_of held env path = if env.by_guard then string_bytes env.current_dir else workspace_around held (package_from held (start_of env path))

-- the places of a call that names this manifest, or none, and whether an interrupted call left anything
-- there; the workspace's folder is known by its path without symbolic links
pub record ArePlacesFound (tells records : Type 0) (real : Name → Name) (held : Contents) (path : Option Name) (env : Env) (places : PlacesAt) (left : Bool) : Type 0 where
  pub pkg_dir : tells → places.pkg_dir ≡ package_of held env path
  pub found : tells → places.found ≡ workspace_of held env path
  pub is_real : records → places.folder ≡ real places.found
  pub are : ArePlacesOf tells held places.folder places
  pub seen : tells → left ≡ is_left held places

-- The call asks for no text and no list of cargo's. What it does to manifests, its places, and whether an interrupted call left
-- anything there; where edits are to come back, the call asks for none that stay.
pub record Begins (tells records : Type 0) (real : Name → Name) (words : List Name) (env : Env) (does : Edits) (places : PlacesAt) (left : Bool) (old : FilesView) : Type 0 where
  pub prints_nothing : AsksToPrint env words false
  pub path : Option Name
  pub asked : AsksForEdits env words does path
  pub back : does ≡ edits.Temporary → RestoresEdits env words
  pub found : ArePlacesFound tells records real old.held path env places left

-- with only looks at files, the call came to this answer on how it may go on
pub record DecidesHowToGoOn (tells whole records : Type 0) (real : Name → Name) (words : List Name) (env : Env) (does : Edits) (places : PlacesAt) (old new : Scene) (came : Result Way CallFault) : Type 0 where
  pub left : Bool
  pub begins : Begins tells records real words env does places left old.files
  pub admitted : IsAdmitted records does places.folder left old.locks new.locks came
  pub untouched : Untouched tells whole old new
  pub counted : GrowsBy 0 old.files.failed new.files.failed

-- a path that is looked at to find the folders of a call's package and workspace, unless a guard calls: on the
-- way up to the package's, or from there to the workspace's
pub data IsFolderLook (tells : Type 0) (held : Contents) (path : Option Name) (env : Env) (looked : Name) : Type 0 where
  for_package : env.by_guard ≡ false → IsPackageLook tells held (start_of env path) looked → IsFolderLook tells held path env looked
  for_workspace : env.by_guard ≡ false → (pkg_dir : Name) → (tells → pkg_dir ≡ package_from held (start_of env path)) → IsWorkspaceLook tells held pkg_dir looked
      → IsFolderLook tells held path env looked

-- a path that is looked at to find the places of a call that names this manifest, or none: for these folders, on the
-- way from the workspace's to its repository, or where an interrupted call may have left something
pub data IsLookedAt (tells records : Type 0) (real : Name → Name) (held : Contents) (path : Option Name) (env : Env) (looked : Name) : Type 0 where
  for_folders : IsFolderLook tells held path env looked → IsLookedAt tells records real held path env looked
  for_repository : (folder top : Name) → (tells → folder ≡ workspace_of held env path) → (records → top ≡ real folder) → IsRepositoryLook tells held (folders top) looked
      → IsLookedAt tells records real held path env looked
  for_places : (folder : Name) (places : PlacesAt) → (tells → folder ≡ workspace_of held env path) → (records → places.folder ≡ real folder)
      → ArePlacesOf tells held places.folder places → IsPlaceLook places looked → IsLookedAt tells records real held path env looked

-- the call asks for no text and no list of cargo's; it is known what it does to manifests, but not where its journal is, or
-- whether an interrupted call left one: one call of files failed, which left a path unseen that is looked
-- at for that, and nothing was changed
pub record CannotSee {F : Type 0} (f : Filing F) (records : Type 0) (real : Name → Name) (words : List Name) (env : Env) (does : Edits) (old new : Scene) : Type 0 where
  pub prints_nothing : AsksToPrint env words false
  pub path : Option Name
  pub asked : AsksForEdits env words does path
  pub failed : GrowsBy 1 old.files.failed new.files.failed
  pub looked : Name
  pub at : IsLookedAt f.tells records real old.files.held path env looked
  pub unseen : IsUnseen f looked
  pub untouched : Untouched f.tells f.whole old new
  pub locks : new.locks ≡ old.locks

-- ---- the call itself, over files `f` and lockfiles `l`; `u` is told of what a journal refuses on its own

-- such files, or these and such lockfiles, held this between two of their states
abbrev pub WasBetween : {F : Type 0} → Filing F → Contents → Type 0
WasBetween {F} f held = (before : F) × (after : F) × Between f before after held

abbrev pub WereBetween : {F L : Type 0} → Filing F → Filing L → Name → Contents → Type 0
WereBetween {F} {L} f l journal held = (before : F) × (after : F) × (first : L) × (last : L) × BetweenBoth f l journal before after first last held

-- what `run` says of a call was said, over files that are as they were in these scenes
pub record SaysCallIn {F : Type 0} (f : Filing F) (talks : Type 0) (words : List Name) (env : Env) (old new : Scene) : Type 0 where
  pub before : F
  pub after : F
  pub first : files_view f before ≡ old.files
  pub last : files_view f after ≡ new.files
  pub said : SaysCall f before after talks words env (looks_of old.host.term) (looks_of new.host.term) (said_in old) (said_in new)

-- the call was performed without a journal: it meets what `run` promises of files, calls, reports and lines; a path
-- that doesn't hold what it held, or its edit where that stays, is one whose own write was refused
pub record PerformsUnjournaled {F : Type 0} (f : Filing F) (talks : Type 0) (words : List Name) (env : Env) (old new : Scene) : Type 0 where
  pub refused : AreRefused env words → ReportsRefusal talks env old.host new.host
  pub done : new.host.term.error ≡ false → talks → IsCallTrace true f.tells words env (world_in old) (world_in new)
  pub traced : new.host.term.error ≡ false → talks → f.whole → IsChangeTrace f.tells words env (world_in old) (world_in new)
  pub stood : new.host.term.error ≡ false → EditsStand (WasBetween f) f.tells talks words env old.files.held old.host.calls
  pub made : talks → IsCallTrace false f.tells words env (world_in old) (world_in new)
  pub said : talks → SaysCallIn f talks words env old new
  pub back : RestoresEdits env words → f.tells → BringsBack old.files new.files
  pub spoilt : RestoresEdits env words → KeepsAllBut (RefusesThese f) f.tells old.files.held new.files.held
  pub lasting : LeavesAtMostEdits (RefusesThese f) f.tells talks words env old.host.calls old.files.held new.files.held
  pub clean : new.host.term.error ≡ false → IsClean (RestoresEdits env words) f.tells old.files new.files
  pub lockfiles : new.lockfiles ≡ old.lockfiles
  pub unkept : new.unkept ≡ old.unkept
  pub locks : new.locks ≡ old.locks
  pub guards : new.guards ≡ old.guards

-- the call was performed with a journal, and so many calls of files failed: it meets what
-- `run_journaled` promises of these, so that no more failed than `f`, `l` and `u` count, and a path that
-- doesn't hold what it held is one whose own write was refused, or couldn't be kept; what is said is said
-- over the files with a journal, `j`
pub record Journals {F L U J : Type 0} (f : Filing F) (l : Filing L) (u : Noting U) (j : Filing J) (talks : Type 0) (words : List Name) (env : Env) (spot : Spot) (failed : ℕ) (old new : Scene) : Type 0 where
  pub refused : AreRefused env words → ReportsRefusal talks env old.host new.host
  pub done : new.host.term.error ≡ false → talks → IsCallTrace true (f.tells × l.tells) words env
      (world_seen spot.journal old.files old.lockfiles 0 old.host) (world_seen spot.journal new.files new.lockfiles failed new.host)
  pub traced : new.host.term.error ≡ false → talks → f.tells → f.whole → l.whole → IsChangeTrace (f.tells × l.tells) words env
      (world_seen spot.journal old.files old.lockfiles 0 old.host) (world_seen spot.journal new.files new.lockfiles failed new.host)
  pub made : talks → IsCallTrace false (f.tells × l.tells) words env
      (world_seen spot.journal old.files old.lockfiles 0 old.host) (world_seen spot.journal new.files new.lockfiles failed new.host)
  pub said : talks → SaysCallOver j (files_seen spot.journal old.files old.lockfiles 0) (files_seen spot.journal new.files new.lockfiles failed)
      talks words env (looks_of old.host.term) (looks_of new.host.term) (said_in old) (said_in new)
  pub clean : new.host.term.error ≡ false → RestoresEdits env words → f.tells → l.tells
      → KeepsAll (contents_seen spot.journal old.files.held old.lockfiles.held) (contents_seen spot.journal new.files.held new.lockfiles.held)
  pub back : RestoresEdits env words → f.tells → l.tells
      → BringsBack (files_seen spot.journal old.files old.lockfiles 0) (files_seen spot.journal new.files new.lockfiles failed)
  pub stood : new.host.term.error ≡ false → EditsStand (WereBetween f l spot.journal) (f.tells × l.tells) talks words env (contents_seen spot.journal old.files.held old.lockfiles.held) old.host.calls
  pub few : new.host.term.error ≡ false → OnlyEndFailed f spot old.files.held new.files.held failed
  pub spoilt : RestoresEdits env words → KeepsAllBut (λ paths. AreJust (HoldsByKind (IsRefusedOrUnkept f u) (IsRefused l)) paths 0 failed) (f.tells × l.tells)
      (contents_seen spot.journal old.files.held old.lockfiles.held) (contents_seen spot.journal new.files.held new.lockfiles.held)
  pub number : IsAccounted old.files.failed new.files.failed old.lockfiles.failed new.lockfiles.failed old.unkept new.unkept failed
  pub gone : RestoresEdits env words → f.tells → f.whole → l.tells → failed ≡ 0 → old.files.held spot.journal ≡ None → new.files.held spot.journal ≡ None
  pub ended : f.tells → f.whole → KeepsOtherFiles (without spot.journal old.files.held) (without spot.journal new.files.held)
      → old.files.held spot.journal ≡ None → (new.files.held spot.journal ≡ None) ⊎ IsWhyItStays f spot old.files.held new.files.held
  pub safe : f.tells → f.whole → old.files.held spot.journal ≡ None → StaysSafe spot old.files.held old.files.trace new.files.trace old.files.held new.files.held
  pub others : l.tells → KeepsOtherFiles old.lockfiles.held new.lockfiles.held
  pub locks : new.locks ≡ old.locks
  pub guards : new.guards ≡ old.guards

-- what is told of a copy that is as it was: that it stays; that it may, where a look at it failed; nothing where none is
-- there
pub data IsCopyTold {F : Type 0} (f : Filing F) (copy : Name) (old new : FilesView) (was now : Term) (err now_err : Stream) : Type 0 where
  there : Warns (stay_text copy copy_keeps) was now err now_err → GrowsBy 0 old.failed new.failed → (f.tells → IsSome (old.held copy)) → Unchanged f.tells f.whole old new → IsCopyTold f copy old new was now err now_err
  unsure : Warns (stay_text copy copy_may_keep) was now err now_err → GrowsBy 1 old.failed new.failed → IsUnseen f copy → Unchanged f.tells f.whole old new → IsCopyTold f copy old new was now err now_err
  absent : now ≡ was → now_err ≡ err → GrowsBy 0 old.failed new.failed → (f.tells → old.held copy ≡ None) → Unchanged f.tells f.whole old new → IsCopyTold f copy old new was now err now_err

-- the same where a write of a lockfile was refused; else the copy isn't looked at, and nothing is said
abbrev pub IsCopyToldIf : {F : Type 0} → Filing F → Bool → Name → FilesView → FilesView → Term → Term → Stream → Stream → Type 0
IsCopyToldIf f true copy old new was now err now_err = IsCopyTold f copy old new was now err now_err
IsCopyToldIf f false copy old new was now err now_err = (new ≡ old) × (now ≡ was) × (now_err ≡ err)

-- a copy is gone; or its removal was refused, which is warned of
pub data IsCopyDropped {F : Type 0} (f : Filing F) (copy : Name) (old new : FilesView) (was now : Term) (err now_err : Stream) : Type 0 where
  gone : now ≡ was → now_err ≡ err → GrowsBy 0 old.failed new.failed → (f.tells → new.held copy ≡ None) → IsCopyDropped f copy old new was now err now_err
  refused : Warns (stay_text copy copy_left) was now err now_err → GrowsBy 1 old.failed new.failed → IsRefused f copy → IsCopyDropped f copy old new was now err now_err

-- so it is, unless a write of a lockfile was refused: then it is as it was, and told
abbrev pub IsCopyEnded : {F : Type 0} → Filing F → Bool → Name → FilesView → FilesView → Term → Term → Stream → Stream → Type 0
IsCopyEnded f true copy old new was now err now_err = IsCopyTold f copy old new was now err now_err
IsCopyEnded f false copy old new was now err now_err = IsCopyDropped f copy old new was now err now_err

-- no file was at the journal's path, and the lockfile's copy came to its end; or a journal stays, or a look at it failed,
-- which is a warning, and the copy is as it was
pub data IsJournalClosed {F : Type 0} (f : Filing F) (places : PlacesAt) (unwritten : Bool) (old new : FilesView) (was now : Term) (err now_err : Stream) : Type 0 where
  ended : (mid : FilesView) → GrowsBy 0 old.failed mid.failed → (f.tells → old.held places.journal ≡ None) → Unchanged f.tells f.whole old mid
      → IsCopyEnded f unwritten places.copy mid new was now err now_err → IsJournalClosed f places unwritten old new was now err now_err
  stays : (mid : FilesView) (term : Term) (said : Stream) → Warns (stay_text places.journal journal_stays) was term err said → GrowsBy 0 old.failed mid.failed → (f.tells → IsSome (old.held places.journal)) → Unchanged f.tells f.whole old mid
      → IsCopyToldIf f unwritten places.copy mid new term now said now_err → IsJournalClosed f places unwritten old new was now err now_err
  unseen : (mid : FilesView) (term : Term) (said : Stream) → Warns (stay_text places.journal journal_may_stay) was term err said → GrowsBy 1 old.failed mid.failed → IsUnseen f places.journal → Unchanged f.tells f.whole old mid
      → IsCopyToldIf f unwritten places.copy mid new term now said now_err → IsJournalClosed f places unwritten old new was now err now_err

-- after it no other file than the lockfile's copy is changed, and what stays was reported
pub record Closes {F : Type 0} (f : Filing F) (places : PlacesAt) (unwritten : Bool) (old new : Scene) : Type 0 where
  pub others : f.tells → KeepsOthers places.copy old.files.held new.files.held
  pub made : f.whole → MakesOrNot (removes places.copy) old.files.trace new.files.trace old.files.held new.files.held
  pub lockfiles : new.lockfiles ≡ old.lockfiles
  pub quiet : IsQuiet old new
  pub told : IsJournalClosed f places unwritten old.files new.files old.host.term new.host.term old.streams.err new.streams.err

-- ---- the ways

-- the call was performed with a journal, whether that refused something was said, and what stays of it was reported; where
-- no journal stays, the lockfile's copy is kept just where a write of a lockfile was refused
pub record RunsOverJournal {F L U J : Type 0} (f : Filing F) (l : Filing L) (u : Noting U) (j : Filing J) (talks : Type 0) (words : List Name) (env : Env) (places : PlacesAt) (old new : Scene) : Type 0 where
  pub failed : ℕ
  pub last : Scene
  pub err : Stream
  pub journals : Journals f l u j talks words env (journal_spot places) failed old last
  pub unkept : SaysUnkept (not (nat_eq old.unkept last.unkept)) last.host.term.coloring places.journal last.streams.err err
  pub unwritten : Bool
  pub refused : TellsRefusals l old.lockfiles last.lockfiles unwritten
  pub closes : Closes f places unwritten (scene_with last.files last.host.term err last) new

-- how a call with a journal goes once its guard was asked for: the lockfile is copied, and then it is
-- performed; or the lockfile can't be copied, which is reported, or memory was refused, and nothing else is changed or
-- called
pub data CopiesAndRuns {F L U J : Type 0} (f : Filing F) (l : Filing L) (u : Noting U) (j : Filing J) (talks : Type 0) (words : List Name) (env : Env) (places : PlacesAt) (old new : Scene) : Type 0 where
  copied : (at : Scene) → KeepsCopy f l places (Ok true) old at → RunsOverJournal f l u j talks words env places at new
      → CopiesAndRuns f l u j talks words env places old new
  uncopied : KeepsCopy f l places (Ok false) old new → CopiesAndRuns f l u j talks words env places old new
  starved : (at : Scene) (fault : CallFault) → KeepsCopy f l places (Err fault) old at → Refuses fault at new
      → CopiesAndRuns f l u j talks words env places old new

-- how a call with a journal goes: a guard of the workspace's folder is asked for, and whatever came of
-- the call, it is left with the exit status (that it is left last of all is tested alone); nothing hangs
-- on whether it came, but that it is told where it didn't. Or memory was refused for its start
pub data IsJournaledCall {F L U J : Type 0} (f : Filing F) (l : Filing L) (u : Noting U) (j : Filing J) (talks watched : Type 0) (words : List Name) (env : Env) (places : PlacesAt) (old new : Scene) : Type 0 where
  performed : (came : Bool) (status : ℕ) (guards last : GuardsView) (err : Stream) (ran : Scene) → (watched → guards ≡ after_start places.folder came old.guards)
      → SaysWatched old.host.term.coloring came old.streams.err err
      → CopiesAndRuns f l u j talks words env places (record (scene_with old.files old.host.term err old) { guards = guards }) ran
      → IsStatus env.deny_warnings ran.host status → (watched → last ≡ after_leave status guards) → new ≡ record ran { guards = last }
      → IsJournaledCall f l u j talks watched words env places old new
  unwatched : (guards : GuardsView) → (watched → guards ≡ old.guards) → Refuses Memory (record old { guards = guards }) new
      → IsJournaledCall f l u j talks watched words env places old new

-- how a call is performed under its own lock, by what it does to manifests
pub data Continues {F L U J : Type 0} (f : Filing F) (l : Filing L) (u : Noting U) (j : Filing J) (talks records watched : Type 0) (words : List Name) (env : Env) (does : Edits) (places : PlacesAt) (old new : Scene) : Type 0 where
  -- nothing is to be edited: the lock is let go first, and there is no journal
  unedited : (locks : LocksView) → does ≡ edits.None → (records → locks ≡ after_release old.locks) → PerformsUnjournaled f talks words env (record old { locks = locks }) new
      → Continues f l u j talks records watched words env does places old new
  -- edits stay: there is no journal
  permanent : does ≡ edits.Permanent → PerformsUnjournaled f talks words env old new → Continues f l u j talks records watched words env does places old new
  -- edits come back: there is a journal
  journaled : does ≡ edits.Temporary → IsJournaledCall f l u j talks watched words env places old new → Continues f l u j talks records watched words env does places old new
  -- what was left is restored: that is all
  restored : does ≡ edits.Restore → new ≡ old → Continues f l u j talks records watched words env does places old new

-- how a call goes under its own lock: what an interrupted call left is brought back before anything
-- else is changed, and before anything is called
pub data IsLockedCourse {F L U J : Type 0} (f : Filing F) (l : Filing L) (u : Noting U) (j : Filing J) (talks records watched : Type 0) (words : List Name) (env : Env) (does : Edits) (places : PlacesAt) (old new : Scene) : Type 0 where
  -- that can't be brought back: the call ends
  ended : TakesBack f l env places old new (Ok false) → new.host.term.error ≡ true → IsLockedCourse f l u j talks records watched words env does places old new
  -- memory was refused meanwhile: the call ends
  cut_short : (at : Scene) (fault : CallFault) → TakesBack f l env places old at (Err fault) → Refuses fault at new
      → IsLockedCourse f l u j talks records watched words env does places old new
  -- it is back: the call is performed
  went_on : (at : Scene) → TakesBack f l env places old at (Ok true) → Continues f l u j talks records watched words env does places at new
      → IsLockedCourse f l u j talks records watched words env does places old new

-- how a call goes
pub data IsCallCourse {F L U J : Type 0} (f : Filing F) (l : Filing L) (u : Noting U) (j : Filing J) (talks records watched : Type 0) (real : Name → Name) (words : List Name) (env : Env) (old new : Scene) : Type 0 where
  -- memory was refused before it began: nothing was changed or called, and at most one look failed
  starved : Untouched f.tells f.whole old new → OneMayFail old.files.failed new.files.failed → new.locks ≡ old.locks → IsToldWhy Memory old new
      → IsCallCourse f l u j talks records watched real words env old new
  -- it asks for a text or cargo's list: it is performed, whatever an interrupted call left
  printed : AsksToPrint env words true → PerformsUnjournaled f talks words env old new → IsCallCourse f l u j talks records watched real words env old new
  -- it isn't known whether an interrupted call left anything: a call that would change manifests ends
  -- with an error, and nothing was changed or called
  blind : (does : Edits) (cannot : CannotSee f records real words env does old new) → is_change does ≡ true → new.host.term ≡ record old.host.term { error = true }
      → SaysUnseen old.host.term.coloring cannot.looked old.streams.err new.streams.err → IsCallCourse f l u j talks records watched real words env old new
  -- any other is performed without a journal, after a warning
  warned : (does : Edits) (at : Scene) (cannot : CannotSee f records real words env does old at) → is_change does ≡ false → at.host.term ≡ record old.host.term { warn = true }
      → SaysUnsure old.host.term.coloring cannot.looked old.streams.err at.streams.err → PerformsUnjournaled f talks words env at new → IsCallCourse f l u j talks records watched real words env old new
  -- another call has the lock, there is none, or memory was refused: nothing was changed or called
  turned_away : (does : Edits) (places : PlacesAt) (fault : CallFault) → DecidesHowToGoOn f.tells f.whole records real words env does places old new (Err fault) → IsToldWhy fault old new
      → IsCallCourse f l u j talks records watched real words env old new
  -- it is to restore, and nothing is left, or another call has the lock, which is an error unless a guard calls: nothing
  -- was changed or called
  unrestored : (does : Edits) (places : PlacesAt) (standing : Standing) (decides : DecidesHowToGoOn f.tells f.whole records real words env does places old new (Ok (Plain standing))) → is_restore does ≡ true
      → SaysUnrestored env.by_guard decides.left old.host.term new.host.term old.streams.err new.streams.err → IsCallCourse f l u j talks records watched real words env old new
  -- nothing is to be guarded, or nothing can be: the call is performed without a journal, after it was said whose
  -- edits may stand
  without_journal : (does : Edits) (places : PlacesAt) (standing : Standing) (at : Scene) (term : Term) (err : Stream) → DecidesHowToGoOn f.tells f.whole records real words env does places old at (Ok (Plain standing)) → is_restore does ≡ false
      → at.host.term ≡ old.host.term → at.streams ≡ old.streams → SaysStanding standing old.host.term term old.streams.err err → PerformsUnjournaled f talks words env (scene_with at.files term err at) new
      → IsCallCourse f l u j talks records watched real words env old new
  -- the lock is this call's
  under_its_lock : (does : Edits) (places : PlacesAt) (at : Scene) → DecidesHowToGoOn f.tells f.whole records real words env does places old at (Ok Guarded) → at.host.term ≡ old.host.term
      → at.streams ≡ old.streams → IsLockedCourse f l u j talks records watched words env does places at new → IsCallCourse f l u j talks records watched real words env old new
