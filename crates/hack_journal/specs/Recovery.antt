-- What an interrupted call had edited is put back.
use Rattle.std.specs.Prelude.{◌≡◌, ◌≢◌, ◌⊎◌, ◌<◌, ◌≤◌, ◌++◌, [], ◌∷◌, ℕ, List, Option, Some, None, IsSome, false, Result, Ok, Err, codes, length, take, drop, string_bytes}
use Rattle.std.specs.Str.{IsUtf8}
use Rattle.hack_files.specs.Faults.{file_text}
use Rattle.hack_files.specs.Files.{Contents, KeepsAll, after_change}
use Rattle.hack_base.specs.Counters.{GrowsBy}
use Rattle.hack_files.specs.declared.fs.FsFault.{FsFault}
use Rattle.hack_files.specs.declared.fs.FsFault.TheVariants as fs
use Rattle.hack_journal.specs.Journal.{Edit}
use Rattle.hack_journal.specs.Rows.{Spot, IsBeside, IsRowOf, file_at, is_of_journal}
use Rattle.hack_journal.specs.SafeFiles.{SomeEntryHasBytes, AreBack, first_entry_of, gives}
use Rattle.hack_journal.specs.declared.recover.RecoverFault.{RecoverFault}
use Rattle.hack_journal.specs.declared.recover.RecoverFault.TheVariants.{Memory, NotJournal, Changed, Files}

-- an entry is of this path
abbrev pub HasEntry : List Edit → List ℕ → Type 0
HasEntry [] path = ⊥
HasEntry (e ∷ es) path = (e.path ≡ path) ⊎ HasEntry es path

-- the first entry of a path, if there is one, has this as what the path held
abbrev pub AgreesOnHeld : Option Edit → Option (List ℕ) → Type 0
AgreesOnHeld None held = Unit {0}
AgreesOnHeld (Some e) held = e.held ≡ held

-- an entry as a call writes it: a text path, not set aside for the journal; the path's first entry
-- agrees
abbrev pub IsOfCall : List ℕ → List Edit → Edit → Type 0
IsOfCall journal all e = (is_of_journal journal e.path ≡ false) × IsUtf8 e.path × AgreesOnHeld (first_entry_of all e.path) e.held

-- each of these entries is as a call writes it
abbrev pub AreOfCall : List ℕ → List Edit → List Edit → Type 0
AreOfCall journal all [] = Unit {0}
AreOfCall journal all (e ∷ es) = IsOfCall journal all e × AreOfCall journal all es

-- a write of new bytes over old ones was cut, and left these: the first k of the new ones, before the
-- old ones from there on
abbrev pub IsCut : List ℕ → List ℕ → List ℕ → Type 0
IsCut new old now = (k : ℕ) × (k ≤ length new) × (now ≡ take k new ++ drop k old)

-- a write was cut, of a text that an entry of the path has over another such text, and left these
abbrev pub IsCutText : List Edit → List ℕ → Option (List ℕ) → Type 0
IsCutText es path bytes =
    (new old now : List ℕ) × SomeEntryHasBytes es path (Some new) × SomeEntryHasBytes es path (Some old) × (bytes ≡ Some now) × IsCut new old now

-- a call itself left these bytes at the path: an entry of the path has them, or a write was cut
unfoldable pub IsOwn : List Edit → List ℕ → Option (List ℕ) → Type 0
IsOwn es path bytes = SomeEntryHasBytes es path bytes ⊎ IsCutText es path bytes

-- the path of each entry holds what a call left there
abbrev pub AreTold : List Edit → List Edit → Contents → Type 0
AreTold all es now = (path : List ℕ) → HasEntry es path → IsOwn all path (now path)

-- those paths of these entries that hold something else than before, in order: each stands where its
-- first entry does, and counts from there on as one that holds the same
abbrev pub AreChanged : Contents → Contents → List Edit → List (List ℕ) → Type 0
AreChanged old new [] paths = paths ≡ []
AreChanged old new (e ∷ es) paths =
    ((new e.path ≡ old e.path) × AreChanged old new es paths)
    ⊎ ((new e.path ≢ old e.path) × ((others : List (List ℕ)) × (paths ≡ e.path ∷ others) × AreChanged (after_change (gives e.path (new e.path)) old) new es others))

-- what these entries keep was put back: no path had been changed by others, each holds what it held
-- at first, `paths` are those that held something else, no path but theirs was changed, and the
-- files of the row are gone
pub record Restored (spot : Spot) (edits : List Edit) (paths : List (List ℕ)) (old new : Contents) : Type 0 where
  pub row : IsRowOf spot old edits
  pub told : AreTold edits edits old
  pub back : AreBack edits new
  pub others : (path : List ℕ) → IsBeside spot.journal row.count path → ¬ HasEntry edits path → new path ≡ old path
  pub gone : (i : ℕ) → i < row.count → new (file_at spot.journal i) ≡ None
  pub changed : AreChanged old new edits paths

-- no journal was there, and nothing was changed; or what its entries keep was put back
abbrev pub IsRestored : Spot → List (List ℕ) → Contents → Contents → Type 0
IsRestored spot paths old new =
    ((old spot.journal ≡ None) × (paths ≡ []) × KeepsAll old new) ⊎ ((edits : List Edit) × Restored spot edits paths old new)

-- each path of which there is no entry holds what it held
abbrev pub KeepsNoEntry : List Edit → Contents → Contents → Type 0
KeepsNoEntry es old new = (path : List ℕ) → ¬ HasEntry es path → new path ≡ old path

-- nothing was changed; or the path of each entry held the call's own bytes, and no other path was
-- changed but those of the row
abbrev pub SparesOthers : Spot → Contents → Contents → Type 0
SparesOthers spot old new = KeepsAll old new ⊎ ((edits : List Edit) × (row : IsRowOf spot old edits)
    × AreTold edits edits old × ((path : List ℕ) → IsBeside spot.journal row.count path
    → ¬ HasEntry edits path → new path ≡ old path))

-- nothing was changed; or each path beside the row holds what it held, or what its first entry keeps
abbrev pub ComesNearer : Spot → Contents → Contents → Type 0
ComesNearer spot old new = KeepsAll old new ⊎ ((edits : List Edit) × (row : IsRowOf spot old edits)
    × ((path : List ℕ) → IsBeside spot.journal row.count path
    → (new path ≡ old path) ⊎ ((e : Edit) × (first_entry_of edits path ≡ Some e) × (new path ≡ e.held))))

-- a file is at the journal's path, and its row holds no entries as a call writes them
abbrev pub IsNoJournal : Spot → Contents → Type 0
IsNoJournal spot old =
    (text : List ℕ) × (old spot.journal ≡ Some text) × ((edits : List Edit) → AreOfCall spot.journal edits edits → ¬ IsRowOf spot old edits)

-- the journal has an entry of the path, which doesn't hold what a call left there
abbrev pub HasChanged : Spot → List ℕ → Contents → Type 0
HasChanged spot path old =
    (edits : List Edit) × IsRowOf spot old edits × HasEntry edits path × (¬ IsOwn edits path (old path))

-- the error names a path of which P holds
abbrev pub NamesPath : (List ℕ → Type 0) → FsFault → Type 0
NamesPath P (fs.Read p) = P (string_bytes p)
NamesPath P (fs.Write p) = P (string_bytes p)
NamesPath P (fs.NotText p) = ⊥
NamesPath P fs.Memory = ⊥

-- the path of a file of the row, or of the one after its last
abbrev pub IsReached : Spot → Type 0 → Contents → List ℕ → Type 0
IsReached spot tells old path =
    (k : ℕ) × (path ≡ file_at spot.journal k) × (tells → (i : ℕ) → i < k → IsSome (old (file_at spot.journal i)))

-- why the journal can't be read
abbrev pub IsWhyUnread : Spot → Type 0 → Contents → RecoverFault → Type 0
IsWhyUnread spot tells old Memory = Unit {0}
IsWhyUnread spot tells old (NotJournal j) = (string_bytes j ≡ spot.journal) × (tells → IsNoJournal spot old)
IsWhyUnread spot tells old (Changed p j) = ⊥
IsWhyUnread spot tells old (Files f) = NamesPath (IsReached spot tells old) f

-- such a path, or one of which the journal has an entry
abbrev pub IsJournalOrItsEntry : Spot → Type 0 → Contents → List ℕ → Type 0
IsJournalOrItsEntry spot tells old path =
    IsReached spot tells old path ⊎ (tells → (edits : List Edit) × IsRowOf spot old edits × HasEntry edits path)

-- why nothing is put back, or not everything
abbrev pub IsWhy : Spot → Type 0 → Contents → RecoverFault → Type 0
IsWhy spot tells old Memory = Unit {0}
IsWhy spot tells old (NotJournal j) = (string_bytes j ≡ spot.journal) × (tells → IsNoJournal spot old)
IsWhy spot tells old (Changed p j) = (string_bytes j ≡ spot.journal) × (tells → HasChanged spot (string_bytes p) old)
IsWhy spot tells old (Files f) = NamesPath (IsJournalOrItsEntry spot tells old) f

-- the journal is refused: the error is neither that of a file nor `Memory`
abbrev pub IsJournalRefusal : RecoverFault → Type 0
IsJournalRefusal Memory = ⊥
IsJournalRefusal (NotJournal j) = Unit {0}
IsJournalRefusal (Changed p j) = Unit {0}
IsJournalRefusal (Files f) = ⊥

-- the text of the error
abbrev pub unrecovered_text : RecoverFault → List ℕ
unrecovered_text Memory = codes "out of memory"
unrecovered_text (NotJournal j) = codes "`" ++ (string_bytes j ++ codes "` is not a whole journal of edited files; put back by hand what it tells, and remove it")
unrecovered_text (Changed p j) =
    codes "`" ++ (string_bytes p ++ (codes "` was changed after an interrupted call had edited it; put back by hand what `"
    ++ (string_bytes j ++ (codes "` tells, and remove `" ++ (string_bytes j ++ codes "`")))))
unrecovered_text (Files f) = file_text f

-- the error of a file counts one failure, a refusal none; refused memory none, or one of the files'
abbrev pub CountsRecoverFault : ℕ → ℕ → RecoverFault → Type 0
CountsRecoverFault old new Memory = GrowsBy 0 old new ⊎ GrowsBy 1 old new
CountsRecoverFault old new (NotJournal j) = GrowsBy 0 old new
CountsRecoverFault old new (Changed p j) = GrowsBy 0 old new
CountsRecoverFault old new (Files f) = GrowsBy 1 old new

-- a failure that ends the call is counted, and there is no other
abbrev pub IsFailureCounted : {T : Type 0} → ℕ → ℕ → Result T RecoverFault → Type 0
IsFailureCounted old new (Ok _) = GrowsBy 0 old new
IsFailureCounted old new (Err e) = CountsRecoverFault old new e
