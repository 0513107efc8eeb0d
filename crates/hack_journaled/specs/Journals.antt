-- What a call over files with a journal sees.
use Rattle.std.specs.Prelude.{◌≡◌, ◌⊎◌, [], ◌∷◌, ◌+◌, ◌≤◌, ℕ, List, None, ◌-◌, ◌^◌, min}
use Rattle.hack_base.specs.Counters.{GrowsBy}
use Rattle.hack_base.specs.Names.{Name}
use Rattle.hack_files.specs.Files.{Contents, Makes, by_kind}
use Rattle.hack_journal.specs.Journal.{Edit}
use Rattle.hack_journal.specs.LockfilesApart.{apart, is_lockfile}
use Rattle.hack_journal.specs.Recovery.{HasEntry}
use Rattle.hack_journal.specs.Rows.{AreEach, RemovesOwn, Spot, file_at}
use Rattle.hack_journal.specs.SafeFiles.{trace_besides, without}
use Rattle.hack_files.specs.View.{FilesView}
use Rattle.hack_files.specs.declared.fs.Files.{Ghosts as Filing}
use Rattle.hack_run.specs.Shown.{Looks, SaysCall}
use Rattle.hack_run.specs.Worlds.{HostView, World}
use Rattle.hack_session.specs.StepEffects.{Scene}
use Rattle.hack_words.specs.declared.cli.env.Env.{Env}

-- what the paths hold: lockfiles what `lockfiles` holds, all others what `files` holds, and those
-- that are set aside for the journal nothing
abbrev pub contents_seen : List ℕ → Contents → Contents → Contents
contents_seen journal files lockfiles = apart (without journal files) lockfiles

-- these as files, of which so many calls failed; the order of changes across the two isn't known
abbrev pub files_seen : List ℕ → FilesView → FilesView → ℕ → FilesView
files_seen journal files lockfiles failed = record {
  held = contents_seen journal files.held lockfiles.held;
  trace = by_kind is_lockfile lockfiles.trace (trace_besides journal files.trace);
  failed = failed;
}

-- the same with a host
abbrev pub world_seen : List ℕ → FilesView → FilesView → ℕ → HostView → World
world_seen journal files lockfiles failed host = record { files = files_seen journal files lockfiles failed; host = host }

-- What `run` says of a call was said, over files that were so before it and are so at its end: they hold the same, and
-- where they show their changes, just those that were made in the call.
pub record SaysCallOver {F : Type 0} (f : Filing F) (first last : FilesView) (tells : Type 0) (words : List Name) (env : Env) (looks now : Looks) (old new : Scene) : Type 0 where
  pub before : F
  pub after : F
  pub held : f.bytes_at before ≡ first.held
  pub shown : f.trace before ≡ first.trace
  pub left : f.tells → f.bytes_at after ≡ last.held
  pub unchanged : f.whole → Makes [] (f.trace after) last.trace (f.bytes_at after) last.held
  pub said : SaysCall f before after tells words env looks now old new

-- a number of failures is no greater than by how much three counts grew together, and no less than what those of the
-- lockfiles and of what couldn't be kept grew by
pub record IsAccounted (files_old files_new lockfiles_old lockfiles_new unkept_old unkept_new number : ℕ) : Type 0 where
  pub of_files : ℕ
  pub of_lockfiles : ℕ
  pub of_unkept : ℕ
  pub files : GrowsBy of_files files_old files_new
  pub lockfiles : GrowsBy of_lockfiles lockfiles_old lockfiles_new
  pub unkept : GrowsBy of_unkept unkept_old unkept_new
  pub most : number ≤ of_files + of_lockfiles + of_unkept
  pub least : min (of_lockfiles + of_unkept) (2 ^ 64 - 1) ≤ number

-- the journal's files, in order, hold entries of which one is of this path
pub record IsInJournal (spot : Spot) (held : Contents) (path : List ℕ) : Type 0 where
  pub entries : List Edit
  pub each : AreEach spot held 0 entries
  pub one : HasEntry entries path

-- between these states files came to what they hold at the end, by removals of the journal's own files alone: whatever
-- else a call changes was changed before
pub record IsAtEnd {F : Type 0} (f : Filing F) (journal : List ℕ) (last : Contents) (before after : F) : Type 0 where
  pub ended : f.bytes_at after ≡ last
  pub only : f.whole → RemovesOwn journal (f.trace before) (f.trace after) (f.bytes_at before) (f.bytes_at after)

-- at its end such files left this path unseen: the journal's own, or that of an entry of the journal, where none was
-- there at `first`
pub record IsUnseenAtEnd {F : Type 0} (f : Filing F) (spot : Spot) (first last : Contents) (path : List ℕ) : Type 0 where
  pub before : F
  pub after : F
  pub unseen : f.unseen before after (path ∷ [])
  pub kept : (path ≡ spot.journal) ⊎ (f.tells → f.whole → first spot.journal ≡ None → IsInJournal spot (f.bytes_at before) path)
  pub at_end : IsAtEnd f spot.journal last before after

-- at its end they refused to remove a file of the journal
pub record IsStuckAtEnd {F : Type 0} (f : Filing F) (spot : Spot) (last : Contents) : Type 0 where
  pub before : F
  pub after : F
  pub place : ℕ
  pub refused : f.refuses before after (file_at spot.journal place ∷ [])
  pub at_end : IsAtEnd f spot.journal last before after

-- why a journal stays where each path but lockfiles holds what it held: one that the end looks at was left unseen, or a
-- file of the journal couldn't be removed
abbrev pub IsWhyItStays : {F : Type 0} → Filing F → Spot → Contents → Contents → Type 0
IsWhyItStays f spot first last = ((path : List ℕ) × IsUnseenAtEnd f spot first last path) ⊎ IsStuckAtEnd f spot last

-- no call failed, or just one that left the journal there
abbrev pub OnlyEndFailed : {F : Type 0} → Filing F → Spot → Contents → Contents → ℕ → Type 0
OnlyEndFailed f spot first last failed = (failed ≡ 0) ⊎ ((failed ≡ 1) × IsWhyItStays f spot first last)

-- Between two states of files and of lockfiles a call saw this: in code over any of both no other states are to be had
-- than those that they were in.
abbrev pub BetweenBoth : {F L : Type 0} → Filing F → Filing L → List ℕ → F → F → L → L → Contents → Type 0
BetweenBoth {F} {L} f l journal old new lockfiles_old lockfiles_new held =
    (at : F) × (by : L) × f.stays old at × f.stays at new × l.stays lockfiles_old by × l.stays by lockfiles_new
    × (held ≡ contents_seen journal (f.bytes_at at) (l.bytes_at by))
