-- What only private functions of the crate promise each other.
use Rattle.std.specs.Prelude.{◌≡◌, ◌⊎◌, ◌&&◌, ◌||◌, ◌∷◌, Bool, true, false, List, Some, All, string_bytes, map, [], if◌then◌else◌}
use Rattle.std.specs.List.{filter, list_any}
use Rattle.std.specs.Str.{bytes_eq}
use Rattle.hack_base.specs.Names.{Name}
use Rattle.hack_files.specs.Files.{Contents, Change}
use Rattle.hack_files.specs.Restore.{AreSafe, is_kept, paths, registered_files}
use Rattle.hack_files.specs.declared.restore.Manager.{Manager}
use Rattle.hack_edits.specs.DevDeps.{IsWithoutDev}
use Rattle.hack_prepare.specs.Prepared.{MemberManifest, Wanted, IsRootEdit, is_alone, is_alone_at}
use Rattle.hack_manifest.specs.LineRuns.{has_some}
use Rattle.hack_prepare.specs.EditSteps.{KeepsHeld, KeepsOnly, kept_paths}
use Rattle.hack_files.specs.declared.fs.FsFault.{FsFault}
use Rattle.hack_files.specs.declared.fs.FsFault.TheVariants as fs
use Rattle.hack_edits.specs.declared.fault.EditFault.{EditFault}
use Rattle.hack_edits.specs.declared.fault.EditFault.TheVariants as edit
use Rattle.hack_prepare.specs.declared.fault.PrepareFault.{PrepareFault}
use Rattle.hack_prepare.specs.declared.fault.PrepareFault.TheVariants.{Memory, PrivateRoot, Files, Toml, InlineTarget, WorkspaceForm, PathText, ReadBack}
use Rattle.hack_prepare.specs.Faults.{IsRootTextFault}
use Rattle.hack_prepare.specs.declared.wanted.Member.{Member as TheMember}
use Rattle.hack_prepare.specs.PreparedView.{member_manifest_view}
use Rattle.hack_prepare.specs.Writes.{AreRootWrites, IsOne}

-- What a step does to the manager and to what files hold: it newly keeps none but these paths; and
-- where files are to be restored, it keeps what it overwrites, and what is safe stays so, for each
-- start that meets a premise.
pub record IsStep (tells : Type 0) (P : Contents → Type 0) (K : Name → Type 0) (old new : Manager) (mid held : Contents) : Type 0 where
  pub needs : new.needs_restore ≡ old.needs_restore
  pub unkept : old.needs_restore ≡ false → registered_files new ≡ registered_files old
  pub kept : KeepsOnly K old new
  pub safe : tells → old.needs_restore ≡ true → (start : Contents) → P start → AreSafe (registered_files old) start mid → AreSafe (registered_files new) start held
  pub keeps : tells → old.needs_restore ≡ true → (start : Contents) → P start → ((q : Name) → is_kept (registered_files old) q ≡ false → mid q ≡ start q) → KeepsHeld (registered_files old) (registered_files new) start held

-- where files are to be restored, these paths are kept behind those that were, in their order and
-- each once
abbrev pub KeepsNext : List Name → Manager → Manager → Type 0
KeepsNext more old new = old.needs_restore ≡ true → paths (registered_files new) ≡ kept_paths (paths (registered_files old)) more

-- the manifests of these members that are edited by themselves
abbrev pub alone_paths : Wanted → List MemberManifest → List Name
alone_paths w ms = map (λ m. m.path) (filter (is_alone w) ms)

-- this path, if it is asked for
abbrev pub one_if : Bool → Name → List Name
one_if asked path = if asked then path ∷ [] else []

-- nothing is asked of the start
abbrev pub AnyStart : Contents → Type 0
AnyStart start = Unit {0}

-- a path that isn't kept held this
abbrev pub HeldUnkept : Manager → Name → Name → Contents → Type 0
HeldUnkept old path held start = is_kept (registered_files old) path ≡ false → start path ≡ Some held

-- the member's manifest holds what was read there
abbrev pub HoldsText : MemberManifest → Contents → Type 0
HoldsText m held = held m.path ≡ Some m.text

-- a member's manifest holds its text without development dependencies
abbrev pub IsTurned : Contents → MemberManifest → Type 0
IsTurned new m = (turned : Name) × (new m.path ≡ Some turned) × IsWithoutDev m.text turned

-- a member's manifest holds what it held, or its text without development dependencies, or this has failed
abbrev pub IsTurnedOrNot : Type 0 → Contents → Contents → MemberManifest → Type 0
IsTurnedOrNot failed old new m = (new m.path ≡ old m.path) ⊎ (IsTurned new m ⊎ failed)

-- the same for each of these members that is edited by itself, unless this has failed for its path
abbrev pub ArePartlyTurned : Wanted → List MemberManifest → (Name → Type 0) → Contents → Contents → Type 0
ArePartlyTurned w ms failed old new = All (λ m. is_alone w m ≡ true → IsTurnedOrNot (failed m.path) old new m) ms

-- every path at which no member's manifest is edited by itself holds what it held
abbrev pub KeepsApart : Wanted → List MemberManifest → Contents → Contents → Type 0
KeepsApart w ms old new = (q : Name) → list_any (is_alone_at w q) ms ≡ false → new q ≡ old q

-- the manifests of these members are edited by themselves where they are to be
abbrev pub AreTurned : Wanted → List MemberManifest → Contents → Type 0
AreTurned w ms new = All (λ m. is_alone w m ≡ true → IsTurned new m) ms

-- the root's manifest holds an edit of this text
abbrev pub HoldsRootEdit : Wanted → Bool → List Name → Contents → Name → Type 0
HoldsRootEdit w drops_dev private new text = (turned : Name) × (new w.root ≡ Some turned) × IsRootEdit w.folder drops_dev private text turned

-- the same, if one is asked for
abbrev pub MakesRoot : Wanted → Bool → List Name → Name → Contents → Type 0
MakesRoot w drops_dev private text new = (drops_dev || has_some private) ≡ true → HoldsRootEdit w drops_dev private new text

-- the root's manifest holds what it held, or an edit of such a text, or this has failed
abbrev pub MakesRootOrNot : Wanted → Bool → List Name → (Name → Type 0) → Type 0 → Contents → Contents → Type 0
MakesRootOrNot w drops_dev private reads failed old new =
    (new w.root ≡ old w.root) ⊎ (((text : Name) × reads text × HoldsRootEdit w drops_dev private new text) ⊎ failed)

-- every path but the root's manifest holds what it held, and that too, if no edit is asked for
abbrev pub KeepsBut : Wanted → Bool → Contents → Contents → Type 0
KeepsBut w edited old new = (q : Name) → (edited && bytes_eq q w.root) ≡ false → new q ≡ old q

-- an error of the manifest at this path; or memory ran out
abbrev pub IsEditFault : Name → EditFault → PrepareFault → Type 0
IsEditFault path fault Memory = Unit {0}
IsEditFault path fault PrivateRoot = ⊥
IsEditFault path fault (Files e) = ⊥
IsEditFault path fault (Toml p) = (string_bytes p ≡ path) × (fault ≡ edit.Toml)
IsEditFault path fault (InlineTarget p) = (string_bytes p ≡ path) × (fault ≡ edit.InlineTarget)
IsEditFault path fault (WorkspaceForm p) = (string_bytes p ≡ path) × (fault ≡ edit.WorkspaceForm)
IsEditFault path fault (PathText p) = (string_bytes p ≡ path) × (fault ≡ edit.PathText)
IsEditFault path fault (ReadBack p) = (string_bytes p ≡ path) × (fault ≡ edit.ReadBack)

-- an error of a file
abbrev pub IsOfFile : FsFault → PrepareFault → Type 0
IsOfFile fs.Memory e = e ≡ Memory
IsOfFile (fs.Read path) e = e ≡ Files (fs.Read path)
IsOfFile (fs.Write path) e = e ≡ Files (fs.Write path)
IsOfFile (fs.NotText path) e = e ≡ Files (fs.NotText path)

-- no error
abbrev pub NoFault : PrepareFault → Type 0
NoFault e = ⊥

-- members can't be removed from the text that is held
abbrev pub IsHeldFault : Wanted → List Name → Type 0 → Contents → PrepareFault → Type 0
IsHeldFault w private tells held e = (has_some private ≡ true) × (text : Name) × (tells → held w.root ≡ Some text) × IsRootTextFault w false private text e

-- no path
abbrev pub Nowhere : Name → Type 0
Nowhere p = ⊥

-- this path
abbrev pub Only : Name → Name → Type 0
Only path p = p ≡ path

-- this path, if it is asked for
abbrev pub OnlyIf : Bool → Name → Name → Type 0
OnlyIf asked path p = (asked ≡ true) × (p ≡ path)

-- some member's manifest that is edited by itself is at this path
abbrev pub IsAlonePath : Wanted → List MemberManifest → Name → Type 0
IsAlonePath w ms p = list_any (is_alone_at w p) ms ≡ true

-- members in their order
abbrev pub members_view : List TheMember → List MemberManifest
members_view ms = map member_manifest_view ms

-- none, or just one, and it is such a one
abbrev pub IsAtMostOne : (Change → Type 0) → List Change → Type 0
IsAtMostOne P made = (made ≡ []) ⊎ IsOne P made

-- the same, or none
abbrev pub MayWriteRoot : Type 0 → Wanted → List MemberManifest → Contents → List Change → Type 0
MayWriteRoot tells w ms held made = (made ≡ []) ⊎ AreRootWrites tells w ms held made
