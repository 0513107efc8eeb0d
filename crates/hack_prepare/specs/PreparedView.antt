-- The edits that a call asks for in manifests, from what is loaded for it.
use Rattle.std.specs.Prelude.{◌≡◌, ◌⊎◌, ◌||◌, ℕ, Bool, true, List, Option, codes, option_and_then, option_map, string_bytes}
use Rattle.std.specs.List.{filter_map}
use Rattle.hack_base.specs.PathTexts.{join_of}
use Rattle.hack_load.specs.Contexts.{ContextRecord, is_private_at, manifest_at, package_at}
use Rattle.hack_base.specs.Names.{Name}
use Rattle.hack_files.specs.Files.{Change, Contents}
use Rattle.hack_base.specs.Notes.{Note}
use Rattle.hack_prepare.specs.Faults.{IsEditsFault}
use Rattle.hack_prepare.specs.Paths.{IsEdited, IsLookedAt, IsReadRoot, IsTouched}
use Rattle.hack_prepare.specs.Prepared.{HasPrivateRoot, HoldTexts, IsPartlyPrepared, IsPrepared, KeepsUnedited, MemberManifest, Wanted, edits}
use Rattle.hack_prepare.specs.EditNotes.{notes}
use Rattle.hack_prepare.specs.Writes.{AreWrites, BeginWrites}
use Rattle.hack_prepare.specs.declared.fault.PrepareFault.{PrepareFault}
use Rattle.hack_prepare.specs.declared.fault.PrepareFault.TheVariants.{Memory}
use Rattle.hack_prepare.specs.declared.wanted.Member.{Member as TheMember}
use Rattle.hack_prepare.specs.declared.wanted.Wanted.{Wanted as TheWanted}

-- a member as clauses see it
abbrev pub member_manifest_view : TheMember → MemberManifest
member_manifest_view m = record { path = m.path.now; text = m.text.now; is_private = m.is_private }

-- the edits that are asked for, as clauses see them
abbrev pub wanted_view : TheWanted → Wanted
wanted_view w = record { drops_dev = w.drops_dev; no_private = w.no_private; verbose = w.verbose; folder = w.folder.now; root = w.root.now; lockfile = w.lockfile.now }

-- a member of what is loaded
abbrev pub member_manifest_at : ContextRecord → ℕ → Option MemberManifest
member_manifest_at cx id = option_and_then (λ p. option_map (λ m. record { path = p.manifest_path; text = string_bytes m.text; is_private = is_private_at cx id }) (manifest_at cx id)) (package_at cx id)

-- the members of what is loaded, in their order
abbrev pub member_manifests_in : ContextRecord → List MemberManifest
member_manifests_in cx = filter_map (member_manifest_at cx) cx.metadata.workspace_members

-- the edits that are asked for in their manifests
abbrev pub wanted_in : ContextRecord → Wanted
wanted_in cx = record {
  drops_dev = cx.args.no_dev_deps || cx.args.remove_dev_deps;
  no_private = cx.args.no_private;
  verbose = cx.args.verbose;
  folder = cx.metadata.workspace_root;
  root = join_of cx.metadata.workspace_root (codes "Cargo.toml");
  lockfile = join_of cx.metadata.workspace_root (codes "Cargo.lock");
}

-- ---- what is said of manifests, for a context: its members, and the edits that are asked for

-- each member's manifest holds what was loaded of it
abbrev pub HoldTextsIn : ContextRecord → Contents → Type 0
HoldTextsIn cx held = HoldTexts held (member_manifests_in cx)

-- manifests are edited at all
abbrev pub edits_in : ContextRecord → Bool
edits_in cx = edits (wanted_in cx)

-- a private member is in the folder of the workspace, and private members are to be removed
abbrev pub HasPrivateRootIn : ContextRecord → Type 0
HasPrivateRootIn cx = HasPrivateRoot (wanted_in cx) (member_manifests_in cx)

-- each manifest that is edited holds its edit, and every other path what it held
abbrev pub IsPreparedIn : ContextRecord → Contents → Contents → Type 0
IsPreparedIn cx = IsPrepared (wanted_in cx) (member_manifests_in cx)

-- each manifest that is edited holds what it held, or its edit, or this has failed for its path
abbrev pub IsPartlyPreparedIn : ContextRecord → (Name → Type 0) → Contents → Contents → Type 0
IsPartlyPreparedIn cx = IsPartlyPrepared (wanted_in cx) (member_manifests_in cx)

-- every path that isn't edited holds what it held
abbrev pub KeepsUneditedIn : ContextRecord → Contents → Contents → Type 0
KeepsUneditedIn cx = KeepsUnedited (wanted_in cx) (member_manifests_in cx)

-- just one write for each manifest that is edited
abbrev pub AreWritesIn : ContextRecord → Type 0 → Contents → List Change → Type 0
AreWritesIn cx tells = AreWrites tells (wanted_in cx) (member_manifests_in cx)

-- the first of these
abbrev pub BeginWritesIn : ContextRecord → Type 0 → Contents → List Change → Type 0
BeginWritesIn cx tells = BeginWrites tells (wanted_in cx) (member_manifests_in cx)

-- a path that is edited, or the lockfile, where manifests are edited at all
abbrev pub IsTouchedIn : ContextRecord → Name → Type 0
IsTouchedIn cx p = (edits_in cx ≡ true) × IsTouched (wanted_in cx) (member_manifests_in cx) p

-- the manifest in the folder of the workspace, which is edited, and which no member has read
abbrev pub IsReadRootIn : ContextRecord → Name → Type 0
IsReadRootIn cx = IsReadRoot (wanted_in cx) (member_manifests_in cx)

-- a path that is looked at, where manifests are edited at all
abbrev pub IsLookedAtIn : ContextRecord → Name → Type 0
IsLookedAtIn cx p = (edits_in cx ≡ true) × IsLookedAt (wanted_in cx) (member_manifests_in cx) p

-- a path that is edited
abbrev pub IsEditedIn : ContextRecord → Name → Type 0
IsEditedIn cx = IsEdited (wanted_in cx) (member_manifests_in cx)

-- the notices on the edits
abbrev pub notes_in : ContextRecord → List Note
notes_in cx = notes (wanted_in cx) (member_manifests_in cx)

-- why manifests aren't edited: memory ran out, or edits are asked for, and there is a cause
abbrev pub IsPrepareFault : ContextRecord → Type 0 → Contents → PrepareFault → Type 0
IsPrepareFault cx tells held e = (e ≡ Memory) ⊎ ((edits_in cx ≡ true) × IsEditsFault (wanted_in cx) (member_manifests_in cx) tells held e)
