-- What only private functions of the crate promise each other.
use Rattle.std.specs.Prelude.{◌≡◌, ◌≢◌, ◌⊎◌, ◌<◌, ◌++◌, [], ◌∷◌, ℕ, false, true, List, Option, Some, None, IsSome, length, string_bytes}
use Rattle.hack_base.specs.Counters.{GrowsBy}
use Rattle.hack_files.specs.Files.{Change, Contents, Makes, Trace}
use Rattle.hack_files.specs.declared.fs.Files.{Ghosts as Filing}
use Rattle.hack_files.specs.declared.fs.FsFault.TheVariants as fs
use Rattle.hack_base.specs.PathTexts.{is_rooted}
use Rattle.hack_journal.specs.Journal.{Edit}
use Rattle.hack_journal.specs.Keeping.{climbing_way}
use Rattle.hack_journal.specs.Rows.{Noted, Spot, AreFirst, IsBeside, IsFresh, IsTextOf, file_at, is_of_journal, leads_to}
use Rattle.hack_journal.specs.SafeFiles.{AfterEachFront, KeepFirst, IsSafe, StaysSafe, gives, changes_besides, IsJournaled, first_entry_of}
use Rattle.hack_journal.specs.Strangers.{first_stranger, is_edit_of_manifest}
use Rattle.hack_journal.specs.declared.recover.RecoverFault.{RecoverFault}
use Rattle.hack_journal.specs.declared.recover.RecoverFault.TheVariants.{Memory, NotJournal, Changed, Files}
use Rattle.hack_journal.specs.Recovery.{AreChanged, CountsRecoverFault, HasEntry, IsCut, IsJournalRefusal, IsOwn, NamesPath}

-- the text does not begin with a space
abbrev pub BeginsWithoutSpace : List ℕ → Type 0
BeginsWithoutSpace [] = Unit {0}
BeginsWithoutSpace (b ∷ bs) = b ≢ 32

-- ---- texts of entries

-- the entry is the path's, and P holds of what the path held or of what was written
abbrev pub EntryHas : (Option (List ℕ) → Type 0) → Edit → List ℕ → Type 0
EntryHas P e path = (e.path ≡ path) × (P e.held ⊎ P e.wrote)

-- so it is with one of these entries
abbrev pub SomeEntryHas : (Option (List ℕ) → Type 0) → List Edit → List ℕ → Type 0
SomeEntryHas P [] path = ⊥
SomeEntryHas P (e ∷ es) path = EntryHas P e path ⊎ SomeEntryHas P es path

-- a write that was cut left these bytes, where both are texts
abbrev pub IsCutOf : Option (List ℕ) → Option (List ℕ) → List ℕ → Type 0
IsCutOf None old now = ⊥
IsCutOf (Some new) None now = ⊥
IsCutOf (Some new) (Some old) now = IsCut new old now

-- so did one of these new bytes, over bytes that an entry of the path has
unfoldable pub IsOver : List Edit → List ℕ → List ℕ → Option (List ℕ) → Type 0
IsOver es path now new = SomeEntryHas (λ old. IsCutOf new old now) es path

-- ---- errors

-- the path is that of one of the row's first k files
abbrev pub IsFileOfRow : List ℕ → ℕ → List ℕ → Type 0
IsFileOfRow journal k path = (i : ℕ) × (i < k) × (path ≡ file_at journal i)

-- or of one of these entries
abbrev pub IsFileOrEntry : List ℕ → ℕ → List Edit → List ℕ → Type 0
IsFileOrEntry journal k es path = IsFileOfRow journal k path ⊎ HasEntry es path

-- this path couldn't be read, or memory was refused
abbrev pub IsReadFault : List ℕ → RecoverFault → Type 0
IsReadFault path Memory = Unit {0}
IsReadFault path (NotJournal j) = ⊥
IsReadFault path (Changed p j) = ⊥
IsReadFault path (Files (fs.Read p)) = string_bytes p ≡ path
IsReadFault path (Files (fs.Write p)) = ⊥
IsReadFault path (Files (fs.NotText p)) = ⊥
IsReadFault path (Files fs.Memory) = ⊥

-- this path couldn't be written or removed, or memory was refused
abbrev pub IsWriteFault : List ℕ → RecoverFault → Type 0
IsWriteFault path Memory = Unit {0}
IsWriteFault path (NotJournal j) = ⊥
IsWriteFault path (Changed p j) = ⊥
IsWriteFault path (Files (fs.Read p)) = ⊥
IsWriteFault path (Files (fs.Write p)) = string_bytes p ≡ path
IsWriteFault path (Files (fs.NotText p)) = ⊥
IsWriteFault path (Files fs.Memory) = ⊥

-- memory was refused
abbrev pub IsMemoryRefused : RecoverFault → Type 0
IsMemoryRefused Memory = Unit {0}
IsMemoryRefused (NotJournal j) = ⊥
IsMemoryRefused (Changed p j) = ⊥
IsMemoryRefused (Files f) = ⊥

-- the error of a failed call of files, or of refused memory: no refusal of the journal
pub record IsFilesFault (fault : RecoverFault) : Type 0 where
  pub failures : (old new : ℕ) → GrowsBy 1 old new → CountsRecoverFault old new fault
  pub kind : ¬ IsJournalRefusal fault

-- the error says that this path holds no journal; or memory was refused
abbrev pub NamesNoJournal : List ℕ → RecoverFault → Type 0
NamesNoJournal journal Memory = Unit {0}
NamesNoJournal journal (NotJournal j) = string_bytes j ≡ journal
NamesNoJournal journal (Changed p j) = ⊥
NamesNoJournal journal (Files f) = ⊥

-- a file holds something, but no text of entries
abbrev pub HoldsNoText : Spot → ℕ → Contents → Type 0
HoldsNoText spot k old =
    IsSome (old (file_at spot.journal k)) × ((es : List Edit) → ¬ IsTextOf spot.folder (old (file_at spot.journal k)) es)

-- why the k-th file can't be read
abbrev pub IsWhyTorn : Spot → ℕ → Type 0 → Contents → RecoverFault → Type 0
IsWhyTorn spot k tells old Memory = Unit {0}
IsWhyTorn spot k tells old (NotJournal j) = (string_bytes j ≡ spot.journal) × (tells → HoldsNoText spot k old)
IsWhyTorn spot k tells old (Changed p j) = ⊥
IsWhyTorn spot k tells old (Files f) = NamesPath (λ p. p ≡ file_at spot.journal k) f

-- why checking what the paths of these entries hold fails
abbrev pub IsWhyNotTold : List ℕ → Type 0 → List Edit → List Edit → Contents → RecoverFault → Type 0
IsWhyNotTold journal tells all es old Memory = Unit {0}
IsWhyNotTold journal tells all es old (NotJournal j) = ⊥
IsWhyNotTold journal tells all es old (Changed p j) =
    (string_bytes j ≡ journal) × HasEntry es (string_bytes p) × (tells → ¬ IsOwn all (string_bytes p) (old (string_bytes p)))
IsWhyNotTold journal tells all es old (Files f) = NamesPath (HasEntry es) f

-- ---- reading

-- a file was read as these entries: it holds a text of them, and of no others
pub record IsRead (folder : List ℕ) (held : Option (List ℕ)) (es : List Edit) : Type 0 where
  pub text : IsTextOf folder held es
  pub only : (fs : List Edit) → IsTextOf folder held fs → es ≡ fs

-- the entries of a file were added to others
pub record IsReadMore (folder : List ℕ) (held : Option (List ℕ)) (before now : List Edit) : Type 0 where
  pub es : List Edit
  pub read : IsRead folder held es
  pub added : now ≡ before ++ es

-- ---- putting back

-- what entries keep is put back, the first one first
abbrev pub backs : List Edit → List Change
backs [] = []
backs (e ∷ es) = gives e.path e.held ∷ backs es

-- the path of the entry was added to others where it held something else
abbrev pub AddsIfOther : Edit → Contents → List (List ℕ) → List (List ℕ) → Type 0
AddsIfOther e old before now =
    ((old e.path ≡ e.held) × (now ≡ before)) ⊎ ((old e.path ≢ e.held) × (now ≡ before ++ e.path ∷ []))

-- the paths that these entries changed were added to others
pub record AddsChanged (old new : Contents) (es : List Edit) (before now : List (List ℕ)) : Type 0 where
  pub paths : List (List ℕ)
  pub are : AreChanged old new es paths
  pub added : now ≡ before ++ paths

-- each path that isn't set aside for the journal holds what it held at first
abbrev pub IsAllBack : List ℕ → Contents → Contents → Type 0
IsAllBack journal first now = (q : List ℕ) → is_of_journal journal q ≡ false → now q ≡ first q

-- each path holds what it held, or again what it held at first and isn't set aside for the journal
abbrev pub Nears : List ℕ → Contents → Contents → Contents → Type 0
Nears journal first old now =
    (q : List ℕ) → (now q ≡ old q) ⊎ ((is_of_journal journal q ≡ false) × (now q ≡ first q))

-- changes were made, and after every front of them each path holds one of these
abbrev pub PutsBack : List ℕ → Contents → Trace → Trace → Contents → Contents → Type 0
PutsBack journal first old_trace new_trace old new = AfterEachFront (Nears journal first old) old_trace new_trace old new

-- changes were made, and after every front of them each path holds one of these, or the files are safe
abbrev pub PutsBackOrSafe : Spot → Contents → Trace → Trace → Contents → Contents → Type 0
PutsBackOrSafe spot first old_trace new_trace old new =
    AfterEachFront (λ now. Nears spot.journal first old now ⊎ IsSafe spot first now) old_trace new_trace old new

-- each path but those of the row's first k files holds what it held, or again what it held at first
abbrev pub NearsBeside : List ℕ → ℕ → Contents → Contents → Contents → Type 0
NearsBeside journal k first old now =
    (q : List ℕ) → IsBeside journal k q → (now q ≡ old q) ⊎ (now q ≡ first q)

-- all is put back but the row, which has `count` files
pub record IsBackBut (spot : Spot) (first : Contents) (count : ℕ) (now : Contents) : Type 0 where
  pub entries : List Edit
  pub files : AreFirst spot now count entries
  pub ends : now (file_at spot.journal count) ≡ None
  pub fresh : IsFresh spot.journal count first now
  pub known : first_stranger entries ≡ None
  pub keeps : KeepFirst spot.journal first entries
  pub same : IsAllBack spot.journal first now

-- ---- files with a journal

-- these bytes are what the path held at first: what its first entry says, or, without one, what the
-- path holds now
abbrev pub IsHeld : Option Edit → Option (List ℕ) → Option (List ℕ) → Type 0
IsHeld None now held = now ≡ held
IsHeld (Some e) now held = e.held ≡ held

-- an entry that may be noted: it is one that a call makes, its path is not set aside for the journal,
-- and it keeps what that held at first
pub record IsNotable (journal : List ℕ) (entries : List Edit) (now : Contents) (e : Edit) : Type 0 where
  pub apart : is_of_journal journal e.path ≡ false
  pub known : is_edit_of_manifest e ≡ true
  pub held : IsHeld (first_entry_of entries e.path) (now e.path) e.held

-- nothing was refused, or the write of the row's next file alone
abbrev pub RefusesNextAtMost : {F : Type 0} → Filing F → Noted → F → F → Type 0
RefusesNextAtMost f noted old new = f.refuses old new [] ⊎ f.refuses old new (file_at noted.journal (length noted.entries) ∷ [])

-- changes of the journal alone were made
pub record Hidden (journal : List ℕ) (old_trace new_trace : Trace) (old new : Contents) : Type 0 where
  pub added : List Change
  pub makes : Makes added old_trace new_trace old new
  pub journals : changes_besides journal added ≡ []

-- whatever the paths held at first: where the files are journaled and all is back, the row was made
-- shorter, up to these entries
abbrev pub ShortensRow : Spot → List Edit → List Edit → Trace → Trace → Contents → Contents → Type 0
ShortensRow spot es fs old_trace new_trace old new =
    (first : Contents) → IsJournaled spot first es old → IsAllBack spot.journal first old
    → StaysSafe spot first old_trace new_trace old new × IsJournaled spot first fs new

-- ---- ways

-- no way that climbs fewer steps than these from a folder leads to the path
abbrev pub NoneClimbs : List ℕ → List ℕ → ℕ → Type 0
NoneClimbs folder path n = (k : ℕ) → k < n → is_rooted (climbing_way k folder path) ≡ false → leads_to folder (climbing_way k folder path) ≢ path
