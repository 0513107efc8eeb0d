-- Which call of files failed. A read of a path that holds nothing leaves none unseen, and only a write
-- or a removal that is refused adds to those, so no failure can be made up.
use Rattle.std.specs.Prelude.{◌≡◌, ◌⊎◌, None, Result, Ok, Err, string_bytes}
use Rattle.hack_base.specs.Names.{Name}
use Rattle.hack_files.specs.FailedCalls.{LookFailed, NoneFailed, WriteFailed}
use Rattle.hack_files.specs.Files.{Contents}
use Rattle.hack_files.specs.declared.fs.Files.{Ghosts as Filing}
use Rattle.hack_files.specs.declared.fs.FsFault.{FsFault}
use Rattle.hack_files.specs.declared.fs.FsFault.TheVariants as fs
use Rattle.hack_load.specs.Contexts.{ContextRecord}
use Rattle.hack_prepare.specs.PreparedView.{IsEditedIn, IsLookedAtIn, IsReadRootIn}
use Rattle.hack_prepare.specs.declared.fault.PrepareFault.{PrepareFault}
use Rattle.hack_prepare.specs.declared.fault.PrepareFault.TheVariants.{Memory, PrivateRoot, Files, Toml, InlineTarget, WorkspaceForm, PathText, ReadBack}

-- one call failed: a look at one of the paths that are looked at, or a write of one that is written
abbrev pub OneFailed : {F : Type 0} → Filing F → (Name → Type 0) → (Name → Type 0) → F → F → Type 0
OneFailed f looks writes old new = (path : Name) × ((looks path × LookFailed f path old new) ⊎ (writes path × WriteFailed f path old new))

-- one of these paths, which are read without a look before, and the files tell that nothing is there
abbrev pub IsAbsent : Type 0 → Contents → (Name → Type 0) → Name → Type 0
IsAbsent tells held reads path = reads path × tells × (held path ≡ None)

-- the error of a file is that of the one call that failed, at the path that it names; or that path
-- may be absent, and is
abbrev pub IsOfFileCall : {F : Type 0} → Filing F → (Name → Type 0) → F → F → FsFault → Type 0
IsOfFileCall f absent old new (fs.Read p) = LookFailed f (string_bytes p) old new ⊎ (absent (string_bytes p) × NoneFailed f old new)
IsOfFileCall f absent old new (fs.Write p) = WriteFailed f (string_bytes p) old new
IsOfFileCall f absent old new (fs.NotText p) = NoneFailed f old new
IsOfFileCall f absent old new fs.Memory = ⊥

-- refused memory may be the files', in a call at such a path; each other error is no call's
abbrev pub IsOfFailedCall : {F : Type 0} → Filing F → (Name → Type 0) → (Name → Type 0) → (Name → Type 0) → F → F → PrepareFault → Type 0
IsOfFailedCall f absent looks writes old new Memory = NoneFailed f old new ⊎ OneFailed f looks writes old new
IsOfFailedCall f absent looks writes old new (Files fault) = IsOfFileCall f absent old new fault
IsOfFailedCall f absent looks writes old new PrivateRoot = NoneFailed f old new
IsOfFailedCall f absent looks writes old new (Toml p) = NoneFailed f old new
IsOfFailedCall f absent looks writes old new (InlineTarget p) = NoneFailed f old new
IsOfFailedCall f absent looks writes old new (WorkspaceForm p) = NoneFailed f old new
IsOfFailedCall f absent looks writes old new (PathText p) = NoneFailed f old new
IsOfFailedCall f absent looks writes old new (ReadBack p) = NoneFailed f old new

-- no call failed, or the error is that of the one that did
abbrev pub FailsOnlySo : {F T : Type 0} → Filing F → (Name → Type 0) → (Name → Type 0) → (Name → Type 0) → F → F → Result T PrepareFault → Type 0
FailsOnlySo f absent looks writes old new (Ok _) = NoneFailed f old new
FailsOnlySo f absent looks writes old new (Err e) = IsOfFailedCall f absent looks writes old new e

-- ---- for a context

-- the same for the paths of a context's edits, of which only the workspace's own manifest may be absent
abbrev pub IsOfFailedCallIn : {F : Type 0} → Filing F → ContextRecord → F → F → PrepareFault → Type 0
IsOfFailedCallIn f cx old new = IsOfFailedCall f (IsAbsent f.tells (f.bytes_at old) (IsReadRootIn cx)) (IsLookedAtIn cx) (IsEditedIn cx) old new

-- no call failed, or the error is that of the one that did, at such a path
abbrev pub FailsOnlySoIn : {F T : Type 0} → Filing F → ContextRecord → F → F → Result T PrepareFault → Type 0
FailsOnlySoIn f cx old new = FailsOnlySo f (IsAbsent f.tells (f.bytes_at old) (IsReadRootIn cx)) (IsLookedAtIn cx) (IsEditedIn cx) old new
