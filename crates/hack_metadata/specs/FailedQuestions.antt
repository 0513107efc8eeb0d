-- Which calls of files failed in a question to cargo, and what became of the lockfile.
use Rattle.std.specs.Prelude.{◌≡◌, ◌⊎◌, [], ◌∷◌, ℕ, List, Some, Result, Ok, Err, string_bytes}
use Rattle.hack_base.specs.Names.{Name}
use Rattle.hack_files.specs.Files.{Change, Makes, puts}
use Rattle.hack_files.specs.FailedCalls.{LookFailed, NoneFailed, ReadFailed, WriteFailed}
use Rattle.hack_files.specs.declared.fs.Files.{Ghosts as Filing}
use Rattle.hack_files.specs.declared.fs.FsFault.TheVariants as fs
use Rattle.hack_process.specs.Calls.{Call}
use Rattle.hack_metadata.specs.QuestionCalls.{EndsSo, IsLockfile, LeadsToStage, Stage, StopsQuestion, WroteWhereKnown, first, locked}
use Rattle.hack_metadata.specs.Requests.{Question}
use Rattle.hack_metadata.specs.declared.metadata.Metadata.{Metadata}
use Rattle.hack_metadata.specs.declared.ask.fault.AskFault.{AskFault}
use Rattle.hack_metadata.specs.declared.ask.fault.AskFault.TheVariants as fault

module _ {F : Type 0} (f : Filing F) where
  -- the error is that of a look at this path, and nothing else failed; refused memory may be the
  -- files', and any other error is of no file
  abbrev pub IsOfLook : Name → F → F → AskFault → Type 0
  IsOfLook path old new fault.Memory = NoneFailed f old new ⊎ LookFailed f path old new
  IsOfLook path old new (fault.Files (fs.Read p)) = (string_bytes p ≡ path) × LookFailed f path old new
  IsOfLook path old new (fault.Files _) = ⊥
  IsOfLook path old new _ = NoneFailed f old new

  -- the error is that of a look at this path, or of a read or write of it, and nothing else failed
  abbrev pub IsOfCallAt : Name → F → F → AskFault → Type 0
  IsOfCallAt path old new fault.Memory = NoneFailed f old new ⊎ LookFailed f path old new ⊎ WriteFailed f path old new
  IsOfCallAt path old new (fault.Files (fs.Read p)) = (string_bytes p ≡ path) × ReadFailed f path old new
  IsOfCallAt path old new (fault.Files (fs.Write p)) = (string_bytes p ≡ path) × WriteFailed f path old new
  IsOfCallAt path old new (fault.Files _) = ⊥
  IsOfCallAt path old new _ = NoneFailed f old new

  -- without an error no call failed, and with one at most the one that it is of
  abbrev pub FailsOnlyAt : {X : Type 0} → Name → F → F → Result X AskFault → Type 0
  FailsOnlyAt path old new (Ok x) = NoneFailed f old new
  FailsOnlyAt path old new (Err e) = IsOfCallAt path old new e

  -- `still`, and nothing was written; or a write of this path was refused; or no call failed, and it
  -- was written with what it held
  abbrev pub IsPutBack : Name → Type 0 → F → F → Type 0
  IsPutBack path still old new =
      (still × (f.whole → Makes [] (f.trace old) (f.trace new) (f.bytes_at old) (f.bytes_at new)))
      ⊎ WriteFailed f path old new
      ⊎ (NoneFailed f old new × ((bytes : List ℕ) × (f.tells → f.bytes_at old path ≡ Some bytes)
      × (f.whole → Makes (puts path bytes ∷ []) (f.trace old) (f.trace new) (f.bytes_at old) (f.bytes_at new))))

  -- after cargo's first answer the lockfile is only looked at
  abbrev pub FailsFirstLook : Name → F → F → AskFault → Type 0
  FailsFirstLook text old new fault.Memory = NoneFailed f old new ⊎ ((path : Name) × IsLockfile text path × LookFailed f path old new)
  FailsFirstLook text old new (fault.Files e) = (path : Name) × IsLockfile text path × IsOfLook path old new (fault.Files e)
  FailsFirstLook text old new _ = NoneFailed f old new

  -- which call failed, by the stage where an error ended the question. After cargo's first answer the
  -- lockfile is looked at; where it is there it is read, and once stable's cargo may have been called it is
  -- put back, also where memory is refused. `mid` are the calls up to that stage, `last` are all of them
  abbrev pub FailsAtStage : F → F → Stage → List Call → List Call → AskFault → Type 0
  FailsAtStage old new (first minor text) mid last e = FailsFirstLook text old new e
  FailsAtStage old new (locked minor text) mid last e = (path : Name) × IsLockfile text path × IsOfCallAt path old new e × IsPutBack path (last ≡ mid) old new
  FailsAtStage old new _ mid last e = NoneFailed f old new

  -- just the writes that led to a stage were made
  abbrev pub WroteTo : F → F → Stage → List Change → Type 0
  WroteTo old new = WroteWhereKnown f.whole f.tells (f.trace old) (f.trace new) (f.bytes_at old) (f.bytes_at new)

  -- the metadata are those of the answer that is used, and no call failed; or calls and writes led to a
  -- stage where an error ended the question, and at most the call failed that it is of. No other write
  -- was made
  abbrev pub EndsQuestion : F → F → Question → List Call → List Call → Result Metadata AskFault → Type 0
  EndsQuestion before now q old new (Ok m) = EndsSo f.tells q (f.bytes_at before) old new (WroteTo before now) (Ok m) × NoneFailed f before now
  EndsQuestion before now q old new (Err e) = (stage : Stage) × (mid : List Call) × (made : List Change)
      × LeadsToStage f.tells q (f.bytes_at before) old stage mid made × StopsQuestion q stage mid new e × WroteTo before now stage made × FailsAtStage before now stage mid new e
