-- Which calls of files failed, by the result of what asked for them.
use Rattle.std.specs.Prelude.{◌≡◌, ◌⊎◌, ◌≤◌, ℕ, List, Result, Ok, Err, length, string_bytes}
use Rattle.hack_files.specs.Files.{IsUnseenUnlessAbsent, refused_path}
use Rattle.hack_files.specs.FailedCalls.{LookFailed, NoneFailed, WriteFailed}
use Rattle.hack_files.specs.declared.fs.Files.{Ghosts as Filing}
use Rattle.hack_files.specs.declared.fs.FsFault.TheVariants as fs
use Rattle.hack_journal.specs.Rows.{Noted, file_at}
use Rattle.hack_journal.specs.Recovery.{HasEntry}
use Rattle.hack_journal.specs.declared.recover.RecoverFault.{RecoverFault}
use Rattle.hack_journal.specs.declared.recover.RecoverFault.TheVariants.{Memory, NotJournal, Changed, Files}

-- ---- looks

-- a read at this path, of files that are made of others
abbrev pub ReadsOrUnseen : {F T E : Type 0} → Filing F → List ℕ → F → F → Result T E → Type 0
ReadsOrUnseen f path old new result = IsUnseenUnlessAbsent (f.unseen old new) f.tells (f.bytes_at old path) path result

-- a look at this path, of files that are made of others
abbrev pub LooksOrUnseen : {F T E : Type 0} → Filing F → List ℕ → F → F → Result T E → Type 0
LooksOrUnseen f path old new result = f.unseen old new (refused_path result path)

-- looks fail only where a path is unseen of which P holds
abbrev pub FailsUnseen : {F T E : Type 0} → Filing F → (List ℕ → Type 0) → F → F → Result T E → Type 0
FailsUnseen f P old new (Ok _) = NoneFailed f old new
FailsUnseen f P old new (Err _) = (path : List ℕ) × P path × LookFailed f path old new

-- a look at this path fails only where it is unseen
abbrev pub FailsUnseenAt : {F T E : Type 0} → Filing F → List ℕ → F → F → Result T E → Type 0
FailsUnseenAt f path old new (Ok _) = NoneFailed f old new
FailsUnseenAt f path old new (Err _) = LookFailed f path old new

-- a write or removal at this path fails only where it is refused
abbrev pub FailsRefusedAt : {F T E : Type 0} → Filing F → List ℕ → F → F → Result T E → Type 0
FailsRefusedAt f path old new (Ok _) = NoneFailed f old new
FailsRefusedAt f path old new (Err _) = WriteFailed f path old new

-- ---- the end of a journal

-- one of the k + 1 first files of a row couldn't be removed
abbrev pub RemovalFailed : {F : Type 0} → Filing F → List ℕ → ℕ → F → F → Type 0
RemovalFailed f journal k old new = (i : ℕ) × (i ≤ k) × WriteFailed f (file_at journal i) old new

-- the removal of a row fails only so
abbrev pub FailsRemoval : {F T E : Type 0} → Filing F → Noted → F → F → Result T E → Type 0
FailsRemoval f noted old new (Ok _) = NoneFailed f old new
FailsRemoval f noted old new (Err _) = RemovalFailed f noted.journal (length noted.entries) old new

-- the journal, or the path of an entry
abbrev pub IsKeptOrJournal : Noted → List ℕ → Type 0
IsKeptOrJournal noted path = (path ≡ noted.journal) ⊎ HasEntry noted.entries path

-- why a journal may stay: it isn't seen, or a path of which it keeps something isn't, or one of its
-- own files can't be removed
abbrev pub CannotEnd : {F : Type 0} → Filing F → Noted → F → F → Type 0
CannotEnd f noted old new =
    ((path : List ℕ) × IsKeptOrJournal noted path × LookFailed f path old new) ⊎ RemovalFailed f noted.journal (length noted.entries) old new

-- a journal is ended, or stays since a kept path holds something else, without a failed call; an error
-- says why it can't
abbrev pub FailsToEnd : {F T E : Type 0} → Filing F → Noted → F → F → Result T E → Type 0
FailsToEnd f noted old new (Ok _) = NoneFailed f old new
FailsToEnd f noted old new (Err _) = CannotEnd f noted old new

-- ---- recovery

-- one call failed, at a path of which P holds
abbrev pub OneFailed : {F : Type 0} → Filing F → (List ℕ → Type 0) → F → F → Type 0
OneFailed f P old new = (path : List ℕ) × P path × (LookFailed f path old new ⊎ WriteFailed f path old new)

-- the error of a file is that of the one call that failed, at the path that it names, of which P holds;
-- a refusal of the journal is none's, and refused memory may be the files', at such a path
abbrev pub IsOfFailedCall : {F : Type 0} → Filing F → (List ℕ → Type 0) → F → F → RecoverFault → Type 0
IsOfFailedCall f P old new Memory = NoneFailed f old new ⊎ OneFailed f P old new
IsOfFailedCall f P old new (NotJournal j) = NoneFailed f old new
IsOfFailedCall f P old new (Changed p j) = NoneFailed f old new
IsOfFailedCall f P old new (Files (fs.Read p)) = P (string_bytes p) × LookFailed f (string_bytes p) old new
IsOfFailedCall f P old new (Files (fs.Write p)) = P (string_bytes p) × WriteFailed f (string_bytes p) old new
IsOfFailedCall f P old new (Files (fs.NotText p)) = ⊥
IsOfFailedCall f P old new (Files fs.Memory) = ⊥

-- no call failed, or the error is that of the one that did
abbrev pub FailsOnlySo : {F T : Type 0} → Filing F → (List ℕ → Type 0) → F → F → Result T RecoverFault → Type 0
FailsOnlySo f P old new (Ok _) = NoneFailed f old new
FailsOnlySo f P old new (Err fault) = IsOfFailedCall f P old new fault
