-- Which paths looks are at, one after another.
use Rattle.std.proofs.Common.{◌≡◌, ◌∙◌, ◌++◌, ◌∷◌, [], ℕ, suc, Bool, List, Option, Some, None, ap, append_assoc, false, refl, subst, sym, string_bytes}
use Rattle.std.specs.Prelude.{codes}
use Rattle.std.specs.Option.{option_or}
use Rattle.hack_base.specs.Names.{Name}
use Rattle.hack_base.specs.PathTexts.{join_of, normal_of, parent_of}
use Rattle.hack_files.specs.Files.{Contents, KeepsAll}
use Rattle.hack_places.proofs.LookLemmas.{all_same, seen_first}
use Rattle.hack_places.specs.FileLooks.{IsOfLooked, IsOfPath}
use Rattle.hack_places.specs.Folders.{Saying, above, first_some, folder_said, folders, said_in, saying_in}
use Rattle.hack_places.specs.LookedPaths.{AreLeft, IsManifestLook, IsOwnFolderLook, IsRepositoryLook}
use Rattle.hack_places.specs.LookedPaths.IsOwnFolderLook.{file, head, itself, linked}
use Rattle.hack_places.specs.Repositories.{has_head, is_folder, link_in, repository_in}
use Rattle.hack_places.specs.declared.look.LookFault.{LookFault}
use Rattle.hack_places.specs.declared.look.LookFault.TheVariants.{Memory, Device}

-- the error of a look at a path is of those that this is one of
pub looked_at : (Looked : Name → Type 0) (path : Name) (fault : LookFault) → Looked path → IsOfPath path fault → IsOfLooked Looked fault
looked_at Looked path Memory one is = tt
looked_at Looked path (Device named) one is = subst Looked (sym is) one

pub looked_more : (P Q : Name → Type 0) (fault : LookFault) → ((path : Name) → P path → Q path) → IsOfLooked P fault → IsOfLooked Q fault
looked_more P Q Memory turn h = tt
looked_more P Q (Device named) turn h = turn (string_bytes named) h

-- ---- what is left of some folders

module _ {A : Type 0} (tells : Type 0) (found : Name → Option A) where
  none_more : (one rest more : Option A) → option_or one rest ≡ None → (rest ≡ None → more ≡ None) → option_or one more ≡ None
  none_more None rest more h turn = turn h
  none_more (Some v) rest more h turn = h

  none_pushed : (passed : List Name) (folder : Name) → first_some found passed ≡ None → found folder ≡ None → first_some found (passed ++ folder ∷ []) ≡ None
  none_pushed [] folder h e = ap (λ (o : Option A). option_or o None) e
  none_pushed (x ∷ xs) folder h e = none_more (found x) (first_some found xs) (first_some found (xs ++ folder ∷ [])) h (λ rest. none_pushed xs folder rest e)

  pub all_left : (some : List Name) → AreLeft tells found some some
  all_left some = record { passed = []; are = refl; none = λ t. refl }

  -- nothing was found in the next folder
  pub others_left : (some others : List Name) (folder : Name) → AreLeft tells found some (folder ∷ others) → (tells → found folder ≡ None) → AreLeft tells found some others
  others_left some others folder h e = record {
    passed = h.passed ++ folder ∷ [];
    are = h.are ∙ sym (append_assoc h.passed (folder ∷ []) others);
    none = λ t. none_pushed h.passed folder (h.none t) (e t);
  }

  -- nor in one before all of these
  pub left_behind : (some left : List Name) (folder : Name) → (tells → found folder ≡ None) → AreLeft tells found some left → AreLeft tells found (folder ∷ some) left
  left_behind some left folder e h = record {
    passed = folder ∷ h.passed;
    are = ap (λ (xs : List Name). folder ∷ xs) h.are;
    none = λ t. ap (λ (o : Option A). option_or o (first_some found h.passed)) (e t) ∙ h.none t;
  }

-- ---- the way up, from manifest to manifest

-- what is said in a folder, which was looked at after others
pub said_first : (held mid : Contents) (pkg_dir folder : Name) (said : Saying) → KeepsAll held mid → said ≡ saying_in mid pkg_dir folder → said_in held pkg_dir folder ≡ folder_said folder said
said_first held mid pkg_dir folder said same looked =
    ap (folder_said folder) (sym (subst (λ (m : Contents). said ≡ saying_in m pkg_dir folder) (all_same held mid same) looked))

-- what is so of files after looks is so of them at first
pub manifest_first : {A : Type 0} (T : Type 0) (found : Contents → Name → Option A) (first mid : Contents) (some : List Name) (path : Name) → (T → KeepsAll first mid) → IsManifestLook T (found mid) some path
    → IsManifestLook T (found first) some path
manifest_first T found first mid some path same (folder, (others, left), is) =
    (folder, (others, record { passed = left.passed; are = left.are; none = seen_first T (λ (m : Contents). first_some (found m) left.passed ≡ None) first mid same left.none }), is)

module _ (T : Type 0) (found : Name → Option Name) (start : Name) where
  pub way_start : (n m : ℕ) → folders start ≡ above n start → m ≡ n → AreLeft T found (folders start) (above m start)
  way_start n m all is = subst (λ (k : ℕ). AreLeft T found (folders start) (above k start)) (sym is)
      (subst (λ (left : List Name). AreLeft T found (folders start) left) all (all_left T found (folders start)))

  pub way_up : (folder up : Name) (n m : ℕ) → m ≡ suc n → up ≡ parent_of folder → (T → found folder ≡ None)
      → AreLeft T found (folders start) (above m folder) → AreLeft T found (folders start) (above n up)
  way_up folder up n m is parent none left =
      subst (λ (p : Name). AreLeft T found (folders start) (above n p)) (sym parent)
      (others_left T found (folders start) (above n (parent_of folder)) folder (subst (λ (k : ℕ). AreLeft T found (folders start) (above k folder)) is left) none)

  -- the next folder's manifest is looked at
  pub way_look : (folder : Name) (n m : ℕ) (fault : LookFault) → m ≡ suc n → AreLeft T found (folders start) (above m folder)
      → IsOfPath (join_of folder (codes "Cargo.toml")) fault → IsOfLooked (IsManifestLook T found (folders start)) fault
  way_look folder n m fault is left named =
      looked_at (IsManifestLook T found (folders start)) (join_of folder (codes "Cargo.toml")) fault
      (folder, (above n (parent_of folder), subst (λ (k : ℕ). AreLeft T found (folders start) (above k folder)) is left), refl) named

-- ---- a repository's own folder

-- what was seen before the file is followed
pub undecided : (T : Type 0) (first mid late : Contents) (git bytes : Name) (has is : Bool) → has ≡ false → is ≡ false → (T → has ≡ has_head first git) → (T → KeepsAll first mid) → (T → is ≡ is_folder mid git)
    → (T → KeepsAll mid late) → (T → late git ≡ Some bytes) → T → (has_head first git ≡ false) × (is_folder first git ≡ false) × (first git ≡ Some bytes)
undecided T first mid late git bytes has is off none heads same own later looked t = (
  sym (heads t) ∙ off,
  subst (λ (m : Contents). is_folder m git ≡ false) (all_same first mid (same t)) (sym (own t) ∙ none),
  sym (later t git ∙ same t git) ∙ looked t,
)

pub link_look : (T : Type 0) (held : Contents) (folder git bytes : Name) (fault : LookFault) → git ≡ join_of folder (codes ".git") → (T → (has_head held git ≡ false) × (is_folder held git ≡ false) × (held git ≡ Some bytes))
    → IsOfLooked (λ path. (link : Name) × (link_in bytes ≡ Some link) × (path ≡ join_of (normal_of (join_of folder link)) (codes "HEAD"))) fault
    → IsOfLooked (IsOwnFolderLook T held folder (join_of folder (codes ".git"))) fault
link_look T held folder git bytes fault at off h =
    looked_more (λ path. (link : Name) × (link_in bytes ≡ Some link) × (path ≡ join_of (normal_of (join_of folder link)) (codes "HEAD"))) _ fault
    (λ path one. subst (λ (g : Name). IsOwnFolderLook T held folder g path) at (linked bytes one.0 off one.1 one.2)) h

-- what is so of files after looks is so of them at first
pub own_first : (T : Type 0) (first mid : Contents) (folder git path : Name) → (T → KeepsAll first mid) → IsOwnFolderLook T mid folder git path → IsOwnFolderLook T first folder git path
own_first T first mid folder git path same (head is) = head is
own_first T first mid folder git path same (itself off is) = itself (seen_first T (λ (m : Contents). has_head m git ≡ false) first mid same off) is
own_first T first mid folder git path same (file off is) = file (seen_first T (λ (m : Contents). (has_head m git ≡ false) × (is_folder m git ≡ false)) first mid same off) is
own_first T first mid folder git path same (linked bytes link off link_is is) =
    linked bytes link (seen_first T (λ (m : Contents). (has_head m git ≡ false) × (is_folder m git ≡ false) × (m git ≡ Some bytes)) first mid same off) link_is is

pub repository_first : (T : Type 0) (first mid : Contents) (some : List Name) (path : Name) → (T → KeepsAll first mid) → IsRepositoryLook T mid some path → IsRepositoryLook T first some path
repository_first T first mid some path same (folder, (others, left), look) = (
  folder,
  (others, record { passed = left.passed; are = left.are; none = seen_first T (λ (m : Contents). first_some (repository_in m) left.passed ≡ None) first mid same left.none }),
  own_first T first mid folder (join_of folder (codes ".git")) path same look,
)

-- the first of some folders is looked at
pub first_look : (T : Type 0) (held : Contents) (steps n : ℕ) (folder path : Name) → steps ≡ suc n → IsOwnFolderLook T held folder (join_of folder (codes ".git")) path → IsRepositoryLook T held (above steps folder) path
first_look T held steps n folder path is look =
    subst (λ (k : ℕ). IsRepositoryLook T held (above k folder) path) (sym is) (folder, (above n (parent_of folder), all_left T (repository_in held) (above (suc n) folder)), look)

-- or one of those above it
pub further_look : (T : Type 0) (first mid : Contents) (steps n : ℕ) (folder up path : Name) → steps ≡ suc n → up ≡ parent_of folder → (T → None ≡ repository_in first folder) → (T → KeepsAll first mid)
    → IsRepositoryLook T mid (above n up) path → IsRepositoryLook T first (above steps folder) path
further_look T first mid steps n folder up path is parent none same h =
    go (repository_first T first mid (above n up) path same h)
  where
    go : IsRepositoryLook T first (above n up) path → IsRepositoryLook T first (above steps folder) path
    go (one, (others, left), look) = subst (λ (k : ℕ). IsRepositoryLook T first (above k folder) path) (sym is) (
      one,
      (others, left_behind T (repository_in first) (above n (parent_of folder)) (one ∷ others) folder (λ t. sym (none t)) (subst (λ (p : Name). AreLeft T (repository_in first) (above n p) (one ∷ others)) parent left)),
      look,
    )
