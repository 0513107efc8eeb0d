-- The row of files that a journal is.
use Rattle.std.specs.Prelude.{◌≡◌, ◌≢◌, ◌++◌, ◌==◌, ◌<◌, [], ◌∷◌, ℕ, zero, suc, Bool, false, IsTrue, All, List, Option, Some, None, codes, map, nat_eq, string_bytes, true, if◌then◌else◌}
use Rattle.std.specs.Fmt.{decimal}
use Rattle.std.specs.List.{starts_with}
use Rattle.std.specs.Str.{IsUtf8}
use Rattle.hack_base.specs.PathTexts.{is_rooted, join_of, normal_of}
use Rattle.hack_files.specs.Files.{Contents, Makes, Trace, removes}
use Rattle.hack_journal.specs.Journal.{Edit, HaveTextPaths, journal_text}
use Rattle.hack_journal.specs.declared.place.JournalPlace.{JournalPlace}

-- the folder that the paths in a journal's text are relative to, and the journal's path
pub record Spot : Type 0 where
  pub folder : List ℕ
  pub journal : List ℕ

-- a place as plain data
abbrev pub spot_of : JournalPlace → Spot
spot_of place = record { folder = string_bytes place.folder; journal = string_bytes place.journal }

-- what a call has noted: the journal's path, and the entries of its files, one each
pub record Noted : Type 0 where
  pub journal : List ℕ
  pub entries : List Edit

-- the path of the row's k-th file: the first has the journal's own, and a later one that path, a `~`
-- and its number
unfoldable pub file_at : List ℕ → ℕ → List ℕ
file_at journal k = if k == 0 then journal else journal ++ (codes "~" ++ decimal k)

-- the paths of the k files behind the first
abbrev pub later_files : List ℕ → ℕ → List (List ℕ)
later_files journal zero = []
later_files journal (suc k) = later_files journal k ++ file_at journal (suc k) ∷ []

-- a path is set aside for the journal: it begins with the journal's path
unfoldable pub is_of_journal : List ℕ → List ℕ → Bool
is_of_journal journal path = starts_with nat_eq path journal

-- a path is none of the row's first k files
abbrev pub IsBeside : List ℕ → ℕ → List ℕ → Type 0
IsBeside journal k path = (i : ℕ) → i < k → path ≢ file_at journal i

-- each path but those of the row's first k files holds what it held
abbrev pub KeepsBeside : List ℕ → ℕ → Contents → Contents → Type 0
KeepsBeside journal k old new = (path : List ℕ) → IsBeside journal k path → new path ≡ old path

-- nothing was changed but that paths which are set aside for the journal were removed
pub record RemovesOwn (journal : List ℕ) (old_trace new_trace : Trace) (old new : Contents) : Type 0 where
  pub paths : List (List ℕ)
  pub own : All (λ path. is_of_journal journal path ≡ true) paths
  pub makes : Makes (map removes paths) old_trace new_trace old new

-- ---- what a file of the row holds

-- where a path in the text leads, from the folder
abbrev pub leads_to : List ℕ → List ℕ → List ℕ
leads_to folder path = normal_of (join_of folder path)

-- an entry of a text, with the path that its own leads to
abbrev pub placed_one : List ℕ → Edit → Edit
placed_one folder e = record e { path = leads_to folder e.path }

-- the entries of a text with such paths
abbrev pub placed : List ℕ → List Edit → List Edit
placed folder = map (placed_one folder)

-- a file holds a text of entries that, from the folder, are these
pub record IsTextOf (folder : List ℕ) (held : Option (List ℕ)) (es : List Edit) : Type 0 where
  pub raw : List Edit
  pub paths : HaveTextPaths raw
  pub text : held ≡ Some (journal_text raw)
  pub are : placed folder raw ≡ es

-- a file holds the text of this entry alone, whose path there is relative to the folder
pub record IsNoteOf (folder : List ℕ) (held : Option (List ℕ)) (e : Edit) : Type 0 where
  pub path : List ℕ
  pub utf8 : IsUtf8 path
  pub relative : is_rooted path ≡ false
  pub leads : leads_to folder path ≡ e.path
  pub text : held ≡ Some (journal_text (record e { path = path } ∷ []))

-- ---- the row

-- the first k files hold these entries, in order
abbrev pub AreFirst : Spot → Contents → ℕ → List Edit → Type 0
AreFirst spot now zero es = es ≡ []
AreFirst spot now (suc k) es =
    (before : List Edit) × (last : List Edit) × AreFirst spot now k before × IsTextOf spot.folder (now (file_at spot.journal k)) last × (es ≡ before ++ last)

-- from the k-th file on, each file holds one of these entries, in order
abbrev pub AreEach : Spot → Contents → ℕ → List Edit → Type 0
AreEach spot now k [] = Unit {0}
AreEach spot now k (e ∷ es) = IsNoteOf spot.folder (now (file_at spot.journal k)) e × AreEach spot now (suc k) es

-- the row holds these entries: its first `count` files do, and no file follows them
pub record IsRowOf (spot : Spot) (now : Contents) (es : List Edit) : Type 0 where
  pub count : ℕ
  pub files : AreFirst spot now count es
  pub ends : now (file_at spot.journal count) ≡ None

-- where the row's first k files lie nothing was at first, and all other paths that are set aside for
-- the journal hold what they held at first
pub record IsFresh (journal : List ℕ) (k : ℕ) (first now : Contents) : Type 0 where
  pub absent : (i : ℕ) → i < k → first (file_at journal i) ≡ None
  pub others : (path : List ℕ) → IsTrue (is_of_journal journal path) → IsBeside journal k path → now path ≡ first path

-- the first k files hold these entries, and no others
pub record AreRead (spot : Spot) (now : Contents) (k : ℕ) (es : List Edit) : Type 0 where
  pub files : AreFirst spot now k es
  pub only : (fs : List Edit) → AreFirst spot now k fs → es ≡ fs

-- the row has `count` files, which hold these entries, and no others
pub record IsRowRead (spot : Spot) (now : Contents) (count : ℕ) (es : List Edit) : Type 0 where
  pub files : AreRead spot now count es
  pub ends : now (file_at spot.journal count) ≡ None
