use Rattle.std.proofs.Common.{◌≡◌, ◌∙◌, ap, string_bytes, subst, sym}
use Rattle.std.proofs.lemmas.Result.{err_from_is_err_and}
use Rattle.hack_base.specs.Names.{Name, optional_text}
use Rattle.hack_files.specs.Files.{Contents, KeepsAll}
use Rattle.hack_places.specs.CallPlaces.{ArePlacesOf, PlacesAt, is_left}
use Rattle.hack_places.specs.Folders.{folders}
use Rattle.hack_places.specs.JournalPlaces.{journal_of}
use Rattle.hack_places.specs.LookedPaths.{IsPlaceLook}
use Rattle.hack_places.specs.PlacesView.{places_view}
use Rattle.hack_places.proofs.LookLemmas.{seen_first, seen_more}
use Rattle.hack_places.proofs.LookedLemmas.{looked_more, repository_first}
use Rattle.hack_recovery.specs.CallCourses.{IsFolderLook, IsLookedAt}
use Rattle.hack_recovery.specs.CallCourses.IsLookedAt.{for_folders, for_places, for_repository}
use Rattle.hack_recovery.proofs.begin.find.Goals as goal

-- the places that were found after looks, by what files held at first
places_first : (T : Type 0) (first mid : Contents) (folder : Name) (places : PlacesAt) → (T → KeepsAll first mid) → ArePlacesOf T mid folder places → ArePlacesOf T first places.folder places
places_first T first mid folder places same are = subst (λ (f : Name). ArePlacesOf T first f places) (sym are.folder_is) (record {
  folder_is = are.folder_is;
  journal_is = seen_first T (λ (m : Contents). places.journal ≡ journal_of m folder) first mid same are.journal_is;
  older_folder_is = are.older_folder_is;
  older_is = are.older_is;
  lockfile_is = are.lockfile_is;
  copy_is = are.copy_is;
})

pub returns-clause-found : goal.returns-clause-found
returns-clause-found g c =
    let T = g.F.Files.tells in
    let first : Contents = g.F.Files.bytes_at c.args.files.now in
    let late : Contents = g.F.Files.bytes_at c.of.new.files in
    let places : PlacesAt = places_view c.in_ok-places.places in
    let left = c.in_ok-is_left.is_left in
    let are = c.in_ok-places.ensures.found in
    let named = c.in_ok-places.ensures.named in
    let same : T → KeepsAll first (g.F.Files.bytes_at c.folders_of.new.files) = c.in_ok-folders.ensures.same in
    let looked = rw c.text_in-named.ensures at c.in_ok-folders.ensures.found in
    record {
      pkg_dir = λ t. ap string_bytes named.1 ∙ (looked t).0;
      found = λ t. ap string_bytes named.0 ∙ (looked t).1;
      is_real = λ t. are.folder_is ∙ c.as_str-2.ensures.value ∙ (rw c.as_str.ensures.value at c.in_ok-folder.ensures) t ∙ sym (ap (λ text. g.K.Locks.real c.args.locks.now (string_bytes text)) named.0);
      are = places_first T first (g.F.Files.bytes_at c.folders_of.new.files) c.as_str-2.result.now places same are;
      seen = seen_first T (λ (m : Contents). left ≡ is_left m places) first late (λ t q. c.in_ok-places.ensures.same t q ∙ same t q) c.in_ok-is_left.ensures.found;
    }

pub returns-clause-seen : goal.returns-clause-seen
returns-clause-seen g c =
    seen_more g.F.Files c.args.files.now c.folders_of.new.files c.is_left.new.files c.in_ok-folders.ensures.seen
    (seen_more g.F.Files c.folders_of.new.files c.of.new.files c.is_left.new.files c.in_ok-places.ensures.seen c.in_ok-is_left.ensures.seen)

pub returns-in_err-folders-clause-looked : goal.returns-in_err-folders-clause-looked
returns-in_err-folders-clause-looked g c =
    let p = err_from_is_err_and c.from_residual.result c.from_residual.ensures.1 in
    let T = g.F.Files.tells in
    let first : Contents = g.F.Files.bytes_at c.args.files.now in
    let path = optional_text c.args.asked.now.manifest_path in
    let Look : Name → Type 0 = IsLookedAt T g.K.Locks.tells (g.K.Locks.real c.args.locks.now) first path c.args.env.now in
    rw (p.1, p.2) (looked_more (IsFolderLook T first path c.args.env.now) Look _ (λ looked look. for_folders look)
    (rw c.text_in-named.ensures at c.in_err-folders.ensures.looked))

pub returns-in_err-places-clause-looked : goal.returns-in_err-places-clause-looked
returns-in_err-places-clause-looked g c =
    let p = err_from_is_err_and c.from_residual-in_err-places.result c.from_residual-in_err-places.ensures.1 in
    let folder = c.as_str-2.result.now in
    let looked = rw c.text_in-named.ensures at c.in_ok-folders.ensures.found in
    rw (p.1, p.2) (looked_more _ _ _ (λ path look.
    for_repository (string_bytes c.in_ok-folders.folders.found) folder (λ t. (looked t).1)
    (λ t. c.as_str-2.ensures.value ∙ (rw c.as_str.ensures.value at c.in_ok-folder.ensures) t)
    (repository_first g.F.Files.tells (g.F.Files.bytes_at c.args.files.now) (g.F.Files.bytes_at c.folders_of.new.files) (folders folder) path
    c.in_ok-folders.ensures.same look)) c.in_err-places.ensures.looked)

pub returns-in_err-is_left-clause-looked : goal.returns-in_err-is_left-clause-looked
returns-in_err-is_left-clause-looked g c =
    let p = err_from_is_err_and c.from_residual-in_err-is_left.result c.from_residual-in_err-is_left.ensures.1 in
    let are = c.in_ok-places.ensures.found in
    let places : PlacesAt = places_view c.in_ok-places.places in
    let looked = rw c.text_in-named.ensures at c.in_ok-folders.ensures.found in
    rw (p.1, p.2) (looked_more (IsPlaceLook places) _ _ (λ path look.
    for_places (string_bytes c.in_ok-folders.folders.found) places (λ t. (looked t).1)
    (λ t. are.folder_is ∙ c.as_str-2.ensures.value ∙ (rw c.as_str.ensures.value at c.in_ok-folder.ensures) t)
    (places_first g.F.Files.tells (g.F.Files.bytes_at c.args.files.now) (g.F.Files.bytes_at c.folders_of.new.files) c.as_str-2.result.now places
    c.in_ok-folders.ensures.same are) look) c.in_err-is_left.ensures.looked)
