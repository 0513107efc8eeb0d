-- Which writes edit the manifests of a workspace.
use Rattle.std.specs.Prelude.{◌≡◌, ◌⊎◌, ◌++◌, ◌∷◌, [], ℕ, Bool, MatchBool, MatchOption, List, Some, take}
use Rattle.std.specs.List.{AllZip, filter, find}
use Rattle.hack_base.specs.Names.{Name}
use Rattle.hack_files.specs.Files.{Change, Contents, Makes, Trace, puts}
use Rattle.hack_edits.specs.DevDeps.{IsWithoutDev}
use Rattle.hack_prepare.specs.Prepared.{IsRootEdit, MemberManifest, Wanted, drops_at_root, edits_root, gone_manifests, is_alone, is_root}

-- such changes were made, and no others
abbrev pub MakesSome : (List Change → Type 0) → Trace → Trace → Contents → Contents → Type 0
MakesSome P old_trace new_trace old new = (made : List Change) × P made × Makes made old_trace new_trace old new

-- just one change, and it is such a one
abbrev pub IsOne : (Change → Type 0) → List Change → Type 0
IsOne P made = (c : Change) × P c × (made ≡ c ∷ [])

-- just one such change if it is asked for, and none if not
abbrev pub IsOneIf : Bool → (Change → Type 0) → List Change → Type 0
IsOneIf asked P made = MatchBool asked (IsOne P made) (made ≡ [])

-- the write of a member's text without development dependencies
pub record IsDevWrite (m : MemberManifest) (c : Change) : Type 0 where
  pub turned : Name
  pub edit : IsWithoutDev m.text turned
  pub is : c ≡ puts m.path turned

-- one for each of these members whose manifest is edited by itself, in order
abbrev pub AreDevWrites : Wanted → List MemberManifest → List Change → Type 0
AreDevWrites w ms made = AllZip IsDevWrite (filter (is_alone w) ms) made

-- the same of the first of these members
abbrev pub BeginDevWrites : Wanted → List MemberManifest → List Change → Type 0
BeginDevWrites w ms made = (k : ℕ) × AreDevWrites w (take k ms) made

-- the write of an edit of such a text to the manifest in the folder of the workspace
pub record IsRootWrite (w : Wanted) (drops_dev : Bool) (private : List Name) (reads : Name → Type 0) (c : Change) : Type 0 where
  pub text : Name
  pub turned : Name
  pub read : reads text
  pub edit : IsRootEdit w.folder drops_dev private text turned
  pub is : c ≡ puts w.root turned

-- what a member has read there; or else what it holds, where the files show that
abbrev pub ReadsRoot : Type 0 → Wanted → List MemberManifest → Contents → Name → Type 0
ReadsRoot tells w ms held text = MatchOption (find (is_root w) ms) (tells → held w.root ≡ Some text) (λ m. text ≡ m.text)

-- the write of its edit
abbrev pub WritesRoot : Type 0 → Wanted → List MemberManifest → Contents → Change → Type 0
WritesRoot tells w ms held = IsRootWrite w (drops_at_root w ms) (gone_manifests w ms) (ReadsRoot tells w ms held)

-- its one write where it is edited, and none where not
abbrev pub AreRootWrites : Type 0 → Wanted → List MemberManifest → Contents → List Change → Type 0
AreRootWrites tells w ms held = IsOneIf (edits_root w ms) (WritesRoot tells w ms held)

-- just one write for each manifest that is edited: those of members by themselves, in order, and then that in the folder of
-- the workspace
pub record AreWrites (tells : Type 0) (w : Wanted) (ms : List MemberManifest) (held : Contents) (made : List Change) : Type 0 where
  pub alone : List Change
  pub root : List Change
  pub members : AreDevWrites w ms alone
  pub ends : AreRootWrites tells w ms held root
  pub is : made ≡ alone ++ root

-- the first of these
abbrev pub BeginWrites : Type 0 → Wanted → List MemberManifest → Contents → List Change → Type 0
BeginWrites tells w ms held made = BeginDevWrites w ms made ⊎ AreWrites tells w ms held made
