-- Files that are kept before they are written, and restored.
use Rattle.std.proofs.Common.{◌≡◌, ◌≢◌, ◌⊎◌, inl, inr, ℕ, ◌<◌, List, [], ◌∷◌, ◌++◌, Some, length, refl, sym, ◌∙◌, arith, subst, Bool, true, false, ⊎_elim, get_or}
use Rattle.std.specs.Prelude.{◌||◌, Contains}
use Rattle.std.specs.Str.{bytes_eq}
use Rattle.std.proofs.lemmas.Bool.{cases_Bool, cases_lt, true≢false, cond_both}
use Rattle.std.proofs.lemmas.List.{length_push, length-map, get_or-map, get_or_append_left, get_or_push}
use Rattle.std.proofs.lemmas.List.Elements.{All-push}
use Rattle.std.proofs.lemmas.List.Folds.{list_any_at, Any-from_list_any}
use Rattle.std.proofs.lemmas.Slice.Eq.{bytes_eq-Decides}
use Rattle.hack_files.specs.Files.{Contents, KeepsAll, KeepsOthers}
use Rattle.hack_files.specs.Restore.{Kept, paths, Back, AreDistinct, AreSafe, is_kept, kept_too}

-- a path that isn't kept differs from the path of each kept file
apart : (files : List Kept) (path : List ℕ) (i : ℕ) (d : Kept) → i < length files → is_kept files path ≡ false → (get_or files i d).path ≢ path
apart files path i d lt free e = true≢false (sym (list_any_at (λ (f : Kept). bytes_eq f.path path) files i d lt ((bytes_eq-Decides _ _).1 e)) ∙ free)

distinct_push : (files : List Kept) (file : Kept) → AreDistinct files → is_kept files file.path ≡ false → AreDistinct (files ++ file ∷ [])
distinct_push files file h free i j d lt within =
    let long = length_push files file in
    let low : get_or (files ++ file ∷ []) i d ≡ get_or files i d = get_or_append_left files (file ∷ []) d i (omega arith) in
    ⊎_elim
    (λ inside. rw (low, get_or_append_left files (file ∷ []) d j inside) (h i j d lt inside))
    (λ at_end. rw (low, get_or_push files file d j (omega arith)) (apart files file.path i d (omega arith) free))
    (cases_lt j (length files))

or_more : (a b c : Bool) → (a || b) ≡ false → (b ≡ false → c ≡ false) → (a || c) ≡ false
or_more true b c e f = e
or_more false b c e f = f e

-- a path that isn't kept with one more file isn't kept without it
kept_more : (files : List Kept) (file : Kept) (q : List ℕ) → is_kept (files ++ file ∷ []) q ≡ false → is_kept files q ≡ false
kept_more [] file q h = refl
kept_more (x ∷ xs) file q h = or_more (bytes_eq x.path q) (is_kept (xs ++ file ∷ []) q) (is_kept xs q) h (kept_more xs file q)

-- nothing is kept yet
pub safe_none : (start : Contents) → AreSafe [] start start
safe_none start = record { distinct = λ i j d lt within. absurd (omega arith); held = λ k d lt. absurd (omega arith); others = λ q free. refl }

-- a file is kept with what its path held at the start, unless its path is kept already
pub safe_kept : (files : List Kept) (file : Kept) (start now : Contents) → (is_kept files file.path ≡ false → start file.path ≡ Some file.bytes) → AreSafe files start now → AreSafe (kept_too files file) start now
safe_kept files file start now is h =
    cond_both (is_kept files file.path) files (files ++ file ∷ []) (λ l. AreSafe l start now) (λ _. h)
    (λ free. record {
      distinct = distinct_push files file h.distinct free;
      held = All-push (λ (f : Kept). start f.path ≡ Some f.bytes) files file h.held (is free);
      others = λ q free. h.others q (kept_more files file q free);
    })

-- a path that is kept is written
pub safe_written : (files : List Kept) (path : List ℕ) (start mid new : Contents) → is_kept files path ≡ true → KeepsOthers path mid new → AreSafe files start mid → AreSafe files start new
safe_written files path start mid new kept keeps h = record {
  distinct = h.distinct;
  held = h.held;
  others = λ q free. keeps q (λ e. true≢false (sym kept ∙ subst (λ p. is_kept files p ≡ false) e free)) ∙ h.others q free;
}

-- nothing is written
pub safe_same : (files : List Kept) (start mid new : Contents) → KeepsAll mid new → AreSafe files start mid → AreSafe files start new
safe_same files start mid new same h = record { distinct = h.distinct; held = h.held; others = λ q free. same q ∙ h.others q free }

-- after `kept_too` the file's path is kept
pub kept_now : (files : List Kept) (file : Kept) → is_kept (kept_too files file) file.path ≡ true
kept_now files file =
    cond_both (is_kept files file.path) files (files ++ file ∷ []) (λ l. is_kept l file.path ≡ true) (λ took. took)
    (λ free. list_any_at (λ (f : Kept). bytes_eq f.path file.path) (files ++ file ∷ []) (length files) file (let long = length_push files file in omega arith)
    ((bytes_eq-Decides _ _).1 (let P : Kept → Type 0 = λ f. f.path ≡ file.path in subst P (sym (get_or_push files file file (length files) (omega arith))) refl)))

-- a path that isn't kept is not among the paths of the kept files
kept_none : (files : List Kept) (q : List ℕ) → is_kept files q ≡ false → Contains (paths files) q → ⊥
kept_none files q free has =
    let d : Kept = record { path = q; bytes = [] } in
    let lt : has.0 < length files = omega (arith, has.1, length-map files (λ (f : Kept). f.path)) in
    true≢false (sym (list_any_at (λ (f : Kept). bytes_eq f.path q) files has.0 d lt
    ((bytes_eq-Decides _ _).1 (sym (get_or-map (λ (f : Kept). f.path) files has.0 d q lt) ∙ has.2))) ∙ free)

-- once the kept files are written back, each path but `spoilt` holds what it held at the start
pub safe_back : (files : List Kept) (spoilt : List (List ℕ)) (start mid new : Contents) → AreSafe files start mid → Back files spoilt mid new
    → (q : List ℕ) → ¬ Contains spoilt q → new q ≡ start q
safe_back files spoilt start mid new safe back q fine = elim (cases_Bool (is_kept files q)) [
  | inl took ↦
      let at = Any-from_list_any (λ (f : Kept). bytes_eq f.path q) files took in
      let file : Kept = at.1 in
      let same : file.path ≡ q = (bytes_eq-Decides file.path q).0 at.4 in
      let held : start file.path ≡ Some file.bytes = let P : Kept → Type 0 = λ f. start f.path ≡ Some f.bytes in subst P at.3 (safe.held at.0 file at.2) in
      let here : Contains spoilt file.path ⊎ (new file.path ≡ Some file.bytes) = let P : Kept → Type 0 = λ f. Contains spoilt f.path ⊎ (new f.path ≡ Some f.bytes) in subst P at.3 (back.held at.0 file at.2) in
      subst (λ p. new p ≡ start p) same (elim here [ inl bad ↦ absurd (fine (subst (λ p. Contains spoilt p) same bad)) | inr good ↦ good ∙ sym held ])
  | inr free ↦ back.others q (kept_none files q free) ∙ safe.others q free
]
