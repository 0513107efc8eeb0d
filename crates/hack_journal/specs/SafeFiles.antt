-- What a journal keeps while files are edited.
use Rattle.std.specs.Prelude.{◌≡◌, ◌⊎◌, ◌++◌, [], ◌∷◌, ℕ, suc, List, Option, Some, None, false, length, not, take, cond}
use Rattle.std.specs.List.{filter}
use Rattle.std.specs.Str.{bytes_eq, IsUtf8}
use Rattle.hack_files.specs.Files.{Change, Contents, Makes, Trace, after, by_kind, in_order}
use Rattle.hack_journal.specs.Journal.{Edit}
use Rattle.hack_journal.specs.Rows.{Spot, file_at, is_of_journal, AreEach, IsFresh, IsRowOf, IsTextOf}
use Rattle.hack_journal.specs.Strangers.{first_stranger}

-- the change by which a path is given these bytes, or removed
abbrev pub gives : List ℕ → Option (List ℕ) → Change
gives path bytes = record { path = path; bytes = bytes }

-- ---- what entries say

-- the entry is the path's, and these bytes are what it held or what was written
abbrev pub EntryHasBytes : Edit → List ℕ → Option (List ℕ) → Type 0
EntryHasBytes e path bytes = (e.path ≡ path) × ((bytes ≡ e.held) ⊎ (bytes ≡ e.wrote))

-- an entry of the path has these bytes, as held or as written
abbrev pub SomeEntryHasBytes : List Edit → List ℕ → Option (List ℕ) → Type 0
SomeEntryHasBytes [] path bytes = ⊥
SomeEntryHasBytes (e ∷ es) path bytes = EntryHasBytes e path bytes ⊎ SomeEntryHasBytes es path bytes

-- the first entry of a path
abbrev pub first_entry_of : List Edit → List ℕ → Option Edit
first_entry_of [] path = None
first_entry_of (e ∷ es) path = cond (bytes_eq e.path path) (Some e) (first_entry_of es path)

-- the path has no entry, and holds these bytes
abbrev pub HoldsUnkept : List Edit → Contents → List ℕ → List ℕ → Type 0
HoldsUnkept es now path bytes = (first_entry_of es path ≡ None) × (now path ≡ Some bytes)

-- each entry's path holds what it held at first
abbrev pub AreBack : List Edit → Contents → Type 0
AreBack [] now = Unit {0}
AreBack (e ∷ es) now = (now e.path ≡ e.held) × AreBack es now

-- ---- safe files

-- each entry keeps what its path held at first; the path is text, and not set aside for the journal
abbrev pub KeepFirst : List ℕ → Contents → List Edit → Type 0
KeepFirst journal first [] = Unit {0}
KeepFirst journal first (e ∷ es) =
    (first e.path ≡ e.held) × (is_of_journal journal e.path ≡ false) × IsUtf8 e.path × KeepFirst journal first es

-- each path that isn't set aside for the journal holds what it held at first, or bytes that calls with
-- these entries left there, by `Left`
abbrev pub HoldFirstOr : (List Edit → List ℕ → Option (List ℕ) → Type 0) → List ℕ → Contents → List Edit → Contents → Type 0
HoldFirstOr Left journal first es now =
    (q : List ℕ) → is_of_journal journal q ≡ false → (now q ≡ first q) ⊎ Left es q (now q)

-- the journal has these entries, each of which a call makes; each path holds what it held at first, or
-- an entry keeps that, and what is there was left by a call
pub record IsKeptBy (Left : List Edit → List ℕ → Option (List ℕ) → Type 0) (spot : Spot) (first : Contents) (entries : List Edit) (now : Contents) : Type 0 where
  pub row : IsRowOf spot now entries
  pub fresh : IsFresh spot.journal row.count first now
  pub known : first_stranger entries ≡ None
  pub keeps : KeepFirst spot.journal first entries
  pub holds : HoldFirstOr Left spot.journal first entries now

-- the journal has entries by which it is so
pub record IsKept (Left : List Edit → List ℕ → Option (List ℕ) → Type 0) (spot : Spot) (first now : Contents) : Type 0 where
  pub entries : List Edit
  pub by : IsKeptBy Left spot first entries now

-- each path holds what it held at first, or the journal keeps that, and has what is there
abbrev pub IsSafe : Spot → Contents → Contents → Type 0
IsSafe = IsKept SomeEntryHasBytes

-- no file is at the path where the row goes on, or one whose write failed and yet was made: it holds
-- these entries, and no file follows it
abbrev pub EndsWith : Spot → Contents → ℕ → List Edit → Type 0
EndsWith spot now k more =
    ((now (file_at spot.journal k) ≡ None) × (more ≡ [])) ⊎ (IsTextOf spot.folder (now (file_at spot.journal k)) more × (now (file_at spot.journal (suc k)) ≡ None))

-- the same of the entries in memory: each has a file of the row, and perhaps there is one file more
pub record IsJournaled (spot : Spot) (first : Contents) (entries : List Edit) (now : Contents) : Type 0 where
  pub more : List Edit
  pub each : AreEach spot now 0 entries
  pub ends : EndsWith spot now (length entries) more
  pub fresh : IsFresh spot.journal (suc (length entries)) first now
  pub known : first_stranger (entries ++ more) ≡ None
  pub keeps : KeepFirst spot.journal first (entries ++ more)
  pub holds : HoldFirstOr SomeEntryHasBytes spot.journal first entries now

-- changes were made, and P holds after every front of them; where files are kept apart by their kind, after those of some
-- order that each kind has
pub record AfterEachFront (P : Contents → Type 0) (old_trace new_trace : Trace) (old new : Contents) : Type 0 where
  pub added : List Change
  pub makes : Makes added old_trace new_trace old new
  pub fronts : (k : ℕ) → P (after (take k added) old)

-- changes were made, and after every front of them the files are safe
abbrev pub StaysSafe : Spot → Contents → Trace → Trace → Contents → Contents → Type 0
StaysSafe spot first = AfterEachFront (IsSafe spot first)

-- whatever the paths held at first: where the files are journaled, the changes keep them safe, and
-- the files are journaled after them
abbrev pub Stays : Spot → List Edit → List Edit → Trace → Trace → Contents → Contents → Type 0
Stays spot es fs old_trace new_trace old new =
    (first : Contents) → IsJournaled spot first es old → StaysSafe spot first old_trace new_trace old new × IsJournaled spot first fs new

-- ---- the files without the journal

-- the changes except those of paths that are set aside for the journal
abbrev pub changes_besides : List ℕ → List Change → List Change
changes_besides journal = filter (λ c. not (is_of_journal journal c.path))

-- the same of all that the files have seen
abbrev pub trace_besides : List ℕ → Trace → Trace
trace_besides journal (in_order cs) = in_order (changes_besides journal cs)
trace_besides journal (by_kind is these others) = by_kind is (trace_besides journal these) (trace_besides journal others)

-- what the paths hold, as if nothing were at those that are set aside for the journal
abbrev pub without : List ℕ → Contents → Contents
without journal m q = cond (is_of_journal journal q) None (m q)
