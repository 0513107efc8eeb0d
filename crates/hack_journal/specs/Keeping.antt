-- Why an edit is refused. No cause can be made up: a look that failed left its path unseen, and a write
-- that failed was refused.
use Rattle.std.specs.Prelude.{◌≡◌, ◌≢◌, ◌⊎◌, ◌≤◌, ◌+◌, ◌++◌, [], ℕ, zero, suc, List, Option, Some, None, Result, Ok, Err, IsSome, Contains, true, false, codes, length}
use Rattle.std.specs.List.{repeat}
use Rattle.hack_base.specs.PathTexts.{is_rooted, normal_of, parent_of, under_of, without_front}
use Rattle.hack_files.specs.declared.fs.FileFault.{FileFault}
use Rattle.hack_files.specs.declared.fs.FileFault.TheVariants.{Memory, Device}
use Rattle.hack_files.specs.declared.fs.Files.{Ghosts as Filing}
use Rattle.hack_files.specs.Files.{Makes}
use Rattle.hack_files.specs.FailedCalls.{LookFailed, NoneFailed, WriteFailed}
use Rattle.hack_journal.specs.Journal.{Edit}
use Rattle.hack_journal.specs.Rows.{Noted, file_at, is_of_journal, leads_to}
use Rattle.hack_journal.specs.SafeFiles.{first_entry_of, trace_besides, without}
use Rattle.hack_journal.specs.Strangers.{is_edit_of_manifest}
use Rattle.hack_journal.specs.declared.unkept.Unkept.{Ghosts as Noting}

-- memory was refused, or there is this cause
abbrev pub IsOfCause : Type 0 → FileFault → Type 0
IsOfCause P Memory = Unit {0}
IsOfCause P Device = P

-- no call failed; or memory was refused, or there is this cause
abbrev pub FailsOf : {F T : Type 0} → Filing F → Type 0 → F → F → Result T FileFault → Type 0
FailsOf f P old new (Ok _) = NoneFailed f old new
FailsOf f P old new (Err fault) = IsOfCause P fault

-- what a path held at first: what its first entry says, or, without one, what it holds now
abbrev pub held_first : Option Edit → Option (List ℕ) → Option (List ℕ)
held_first None now = now
held_first (Some e) now = e.held

-- a write of these bytes is no edit of a manifest that was there at first
abbrev pub IsOther : {F : Type 0} → Filing F → Noted → List ℕ → List ℕ → F → Type 0
IsOther f noted path bytes old =
    f.tells → is_edit_of_manifest (record { path = path; held = held_first (first_entry_of noted.entries path) (f.bytes_at old path); wrote = Some bytes }) ≡ false

-- the folder so many steps above this one
abbrev pub folder_above : ℕ → List ℕ → List ℕ
folder_above zero folder = folder
folder_above (suc k) folder = parent_of (folder_above k folder)

-- the way that climbs so many steps from a folder, and goes on by what of the path is behind the
-- folder there: all of it where the path isn't inside
abbrev pub climbing_way : ℕ → List ℕ → List ℕ → List ℕ
climbing_way k folder path = repeat k (codes "../") ++ without_front (codes "/") (under_of path (folder_above k (normal_of folder)))

-- the way climbs so from the folder, by no more steps than this is long
abbrev pub ClimbsTo : List ℕ → List ℕ → List ℕ → Type 0
ClimbsTo folder path way = (k : ℕ) × (k ≤ length folder) × (way ≡ climbing_way k folder path)

-- no relative path leads from the folder to this one: none at all from an absolute folder, and from a
-- relative one none that climbs until the path is inside
abbrev pub IsWayless : List ℕ → List ℕ → Type 0
IsWayless folder path = (way : List ℕ) → is_rooted way ≡ false → (is_rooted folder ≡ true) ⊎ ClimbsTo folder path way → leads_to folder way ≢ path

-- the file behind the one that comes next isn't seen, or is there already
abbrev pub CannotLookAhead : {F : Type 0} → Filing F → Noted → F → F → Type 0
CannotLookAhead f noted old new =
    LookFailed f (file_at noted.journal (length noted.entries + 1)) old new
    ⊎ (f.tells → IsSome (f.bytes_at old (file_at noted.journal (length noted.entries + 1))))

-- why the row gets no file that keeps an edit of this path
abbrev pub CannotAppend : {F : Type 0} → Filing F → List ℕ → Noted → List ℕ → F → F → Type 0
CannotAppend f folder noted path old new =
    IsWayless folder path ⊎ (CannotLookAhead f noted old new ⊎ WriteFailed f (file_at noted.journal (length noted.entries)) old new)

-- why what a path holds can't be kept
abbrev pub CannotKeep : {F : Type 0} → Filing F → List ℕ → Noted → List ℕ → List ℕ → F → F → Type 0
CannotKeep f folder noted path bytes old new =
    (LookFailed f path old new ⊎ IsOther f noted path bytes old) ⊎ CannotAppend f folder noted path old new

-- why a call is refused before the files below are asked: the path is the journal's own, or what it holds can't be kept
abbrev pub IsOwnRefusal : {F : Type 0} → Filing F → List ℕ → Noted → List ℕ → List ℕ → F → F → Type 0
IsOwnRefusal f folder noted path bytes old new =
    (is_of_journal noted.journal path ≡ true) ⊎ CannotKeep f folder noted path bytes old new

-- why a path can't be given these bytes: it is refused so, or by the files below
abbrev pub CannotChange : {F : Type 0} → Filing F → List ℕ → Noted → List ℕ → List ℕ → F → F → Type 0
CannotChange f folder noted path bytes old new =
    IsOwnRefusal f folder noted path bytes old new ⊎ WriteFailed f path old new

-- a write fails only so
abbrev pub FailsToChange : {F T : Type 0} → Filing F → List ℕ → Noted → List ℕ → List ℕ → F → F → Result T FileFault → Type 0
FailsToChange f folder noted path bytes old new result = FailsOf f (CannotChange f folder noted path bytes old new) old new result

-- a call failed, for memory or for this cause
abbrev pub FailsFor : {T : Type 0} → Type 0 → Result T FileFault → Type 0
FailsFor P (Ok _) = ⊥
FailsFor P (Err fault) = IsOfCause P fault

-- these files refused no write or removal, or some, but none of this path
abbrev pub RefusesOthers : {F : Type 0} → Filing F → List ℕ → F → F → Type 0
RefusesOthers f path old new = (ps : List (List ℕ)) × f.refuses old new ps × ¬ Contains ps path

-- where changes are made whole or not at all: nothing but the journal was changed
abbrev pub ChangesNoFile : {F : Type 0} → Filing F → List ℕ → F → F → Type 0
ChangesNoFile f journal old new =
    f.whole → Makes [] (trace_besides journal (f.trace old)) (trace_besides journal (f.trace new)) (without journal (f.bytes_at old)) (without journal (f.bytes_at new))

-- nobody was told that something couldn't be kept; or it failed for that, and its own path was told, which
-- the files below didn't refuse; but for the journal, they changed nothing
abbrev pub TellsItsOwn : {F U T : Type 0} → Filing F → Noting U → List ℕ → Noted → List ℕ → List ℕ → F → F → U → U → Result T FileFault → Type 0
TellsItsOwn f u folder noted path bytes old new was now result =
    (now ≡ was) ⊎ (FailsFor (IsOwnRefusal f folder noted path bytes old new) result × u.misses was now path × RefusesOthers f path old new × ChangesNoFile f noted.journal old new)
