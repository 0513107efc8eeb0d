-- Why manifests aren't edited.
use Rattle.std.specs.Prelude.{◌≡◌, ◌⊎◌, Bool, true, false, MatchBool, None, List, Contains, string_bytes}
use Rattle.toml.specs.Parse.{parse_document}
use Rattle.hack_base.specs.Names.{Name}
use Rattle.hack_files.specs.declared.fs.FsFault.{FsFault}
use Rattle.hack_files.specs.declared.fs.FsFault.TheVariants as fs
use Rattle.hack_files.specs.Files.{Contents}
use Rattle.hack_edits.specs.DevDeps.{HasInlineTarget, IsMisread, IsWithoutDev}
use Rattle.hack_private_crates.specs.Members.{in_order}
use Rattle.hack_private_crates.specs.PrivateCrates.{HasBadForm, HasFitForm, HasWork, some_path_control}
use Rattle.hack_prepare.specs.Paths.{IsEdited, IsLookedAt, IsReadRoot, IsTextless}
use Rattle.hack_prepare.specs.Prepared.{HasPrivateRoot, MemberManifest, Wanted, drops_at_root, edits_root, gone_manifests, is_alone}
use Rattle.hack_prepare.specs.EditSteps.{IsRootText}
use Rattle.hack_prepare.specs.declared.fault.PrepareFault.{PrepareFault}
use Rattle.hack_prepare.specs.declared.fault.PrepareFault.TheVariants.{Memory, PrivateRoot, Files, Toml, InlineTarget, WorkspaceForm, PathText, ReadBack}

-- why development dependencies can't be removed from this manifest's text; or memory ran out
abbrev pub IsDevFault : Name → Name → PrepareFault → Type 0
IsDevFault path text Memory = Unit {0}
IsDevFault path text PrivateRoot = ⊥
IsDevFault path text (Files e) = ⊥
IsDevFault path text (Toml p) = (string_bytes p ≡ path) × (parse_document text ≡ None)
IsDevFault path text (InlineTarget p) = (string_bytes p ≡ path) × HasInlineTarget text
IsDevFault path text (WorkspaceForm p) = ⊥
IsDevFault path text (PathText p) = ⊥
IsDevFault path text (ReadBack p) = (string_bytes p ≡ path) × IsMisread text

-- why these private members can't be removed from this manifest's text; or memory ran out
abbrev pub IsPrivateFault : Name → Name → List Name → Name → PrepareFault → Type 0
IsPrivateFault path folder ps text Memory = Unit {0}
IsPrivateFault path folder ps text PrivateRoot = ⊥
IsPrivateFault path folder ps text (Files e) = ⊥
IsPrivateFault path folder ps text (Toml p) = (string_bytes p ≡ path) × (parse_document text ≡ None)
IsPrivateFault path folder ps text (InlineTarget p) = ⊥
IsPrivateFault path folder ps text (WorkspaceForm p) = (string_bytes p ≡ path) × HasBadForm folder ps text
IsPrivateFault path folder ps text (PathText p) = (string_bytes p ≡ path) × HasWork folder ps text × (some_path_control ps ≡ true)
IsPrivateFault path folder ps text (ReadBack p) = (string_bytes p ≡ path) × HasFitForm folder ps text × (some_path_control ps ≡ false)

-- ---- why nothing more is edited

-- one of `reads` can't be read, one of `writes` can't be written, or one of `textless` has no text
abbrev pub IsPathFault : (Name → Type 0) → (Name → Type 0) → (Name → Type 0) → FsFault → Type 0
IsPathFault reads writes textless (fs.Read p) = reads (string_bytes p)
IsPathFault reads writes textless (fs.Write p) = writes (string_bytes p)
IsPathFault reads writes textless (fs.NotText p) = textless (string_bytes p)
IsPathFault reads writes textless fs.Memory = ⊥

-- where a path can't be written, this holds of it
abbrev pub AtFileWrite : (Name → Type 0) → FsFault → Type 0
AtFileWrite P (fs.Read p) = Unit {0}
AtFileWrite P (fs.Write p) = P (string_bytes p)
AtFileWrite P (fs.NotText p) = Unit {0}
AtFileWrite P fs.Memory = Unit {0}

abbrev pub AtWrite : (Name → Type 0) → PrepareFault → Type 0
AtWrite P Memory = Unit {0}
AtWrite P PrivateRoot = Unit {0}
AtWrite P (Files f) = AtFileWrite P f
AtWrite P (Toml p) = Unit {0}
AtWrite P (InlineTarget p) = Unit {0}
AtWrite P (WorkspaceForm p) = Unit {0}
AtWrite P (PathText p) = Unit {0}
AtWrite P (ReadBack p) = Unit {0}

-- memory ran out, or it is an error of a file at such paths, or an error of this kind
abbrev pub IsPathFaultOr : (Name → Type 0) → (Name → Type 0) → (Name → Type 0) → (PrepareFault → Type 0) → PrepareFault → Type 0
IsPathFaultOr reads writes textless P e = (e ≡ Memory) ⊎ (((f : FsFault) × (e ≡ Files f) × IsPathFault reads writes textless f) ⊎ P e)

-- a member's manifest that is to be edited by itself can't be
pub record IsMemberEditFault (w : Wanted) (ms : List MemberManifest) (e : PrepareFault) : Type 0 where
  pub member : MemberManifest
  pub among : Contains ms member
  pub alone : is_alone w member ≡ true
  pub fault : IsDevFault member.path member.text e

-- why the manifests of members aren't edited: a private member at the root, or an error of one
abbrev pub IsMembersFault : Wanted → List MemberManifest → PrepareFault → Type 0
IsMembersFault w ms e = ((e ≡ PrivateRoot) × HasPrivateRoot w ms) ⊎ IsMemberEditFault w ms e

-- why a workspace's text isn't edited: removing development dependencies fails, or then members
abbrev pub IsRootTextFault : Wanted → Bool → List Name → Name → PrepareFault → Type 0
IsRootTextFault w drops_dev private text e =
    ((drops_dev ≡ true) × IsDevFault w.root text e)
    ⊎ ((between : Name) × MatchBool drops_dev (IsWithoutDev text between) (between ≡ text) × IsPrivateFault w.root w.folder (in_order private) between e)

-- the same for the text that a member has read, or that is held
pub record IsRootFault (w : Wanted) (ms : List MemberManifest) (tells : Type 0) (held : Contents) (e : PrepareFault) : Type 0 where
  pub text : Name
  pub asked : edits_root w ms ≡ true
  pub read : tells → IsRootText w ms held text
  pub fault : IsRootTextFault w (drops_at_root w ms) (gone_manifests w ms) text e

-- why an edit isn't made
abbrev pub IsUnmade : Wanted → List MemberManifest → Type 0 → Contents → PrepareFault → Type 0
IsUnmade w ms tells held e = IsMembersFault w ms e ⊎ IsRootFault w ms tells held e

-- why edits aren't made, or memory ran out
abbrev pub IsEditsFault : Wanted → List MemberManifest → Type 0 → Contents → PrepareFault → Type 0
IsEditsFault w ms tells held = IsPathFaultOr (IsLookedAt w ms) (IsEdited w ms) (IsTextless tells held (IsReadRoot w ms)) (IsUnmade w ms tells held)
