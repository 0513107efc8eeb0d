-- The order in which files are kept.
use Rattle.std.proofs.Common.{◌≡◌, ◌⊎◌, inl, inr, ℕ, ◌+◌, ◌≤◌, List, [], ◌∷◌, ◌++◌, Bool, true, false, cond, length, map, take, refl, sym, ◌∙◌, ap, subst, append-nil}
use Rattle.std.specs.Prelude.{◌||◌}
use Rattle.std.specs.List.{AllZip, filter, list_any}
use Rattle.std.specs.Str.{bytes_eq}
use Rattle.std.proofs.lemmas.List.{map-append, take_all}
use Rattle.std.proofs.lemmas.List.Elements.{filter-append}
use Rattle.hack_base.specs.Names.{Name}
use Rattle.hack_files.specs.Files.{Change, Contents, Trace}
use Rattle.hack_files.specs.Restore.{Kept, is_kept, kept_too, paths, registered_files}
use Rattle.hack_files.specs.declared.restore.Manager.{Manager}
use Rattle.hack_prepare.specs.EditSteps.{KeepsInOrder, change_paths, kept_paths}
use Rattle.hack_prepare.specs.Internal.{KeepsNext, alone_paths, one_if}
use Rattle.hack_prepare.specs.Prepared.{MemberManifest, Wanted, edits_root, is_alone}
use Rattle.hack_prepare.specs.Writes.{AreWrites, IsDevWrite, IsOneIf, IsRootWrite, MakesSome}
use Rattle.hack_prepare.proofs.StepLemmas.{kept_by}
use Rattle.hack_files.specs.TraceLaws.{makes_none}
use Rattle.hack_prepare.proofs.WriteLemmas.{none-written}

-- ---- paths, each of them once

-- some paths, and then others
kept-then : (kept ps qs : List Name) → kept_paths kept (ps ++ qs) ≡ kept_paths (kept_paths kept ps) qs
kept-then kept [] qs = refl
kept-then kept (p ∷ ps) qs = kept-then (cond (list_any (λ x. bytes_eq x p) kept) kept (kept ++ p ∷ [])) ps qs

-- a file is kept by its path
is-kept-path : (files : List Kept) (path : Name) → list_any (λ p. bytes_eq p path) (paths files) ≡ is_kept files path
is-kept-path [] path = refl
is-kept-path (file ∷ files) path = ap (λ b. bytes_eq file.path path || b) (is-kept-path files path)

-- one file more is one path more
too-path : (files : List Kept) (file : Kept) → paths (kept_too files file) ≡ kept_paths (paths files) (file.path ∷ [])
too-path files file =
    subst (λ b. paths (kept_too files file) ≡ cond b (paths files) (paths files ++ file.path ∷ [])) (sym (is-kept-path files file.path)) (by (is_kept files file.path))
  where
    by : (b : Bool) → paths (cond b files (files ++ file ∷ [])) ≡ cond b (paths files) (paths files ++ file.path ∷ [])
    by true = refl
    by false = map-append (λ (f : Kept). f.path) files (file ∷ [])

-- ---- what a manager keeps

-- one file is kept
pub next-one : (file : Kept) (old new : Manager) → registered_files new ≡ cond old.needs_restore (kept_too (registered_files old) file) (registered_files old) → KeepsNext (file.path ∷ []) old new
next-one file old new is e =
    ap paths (kept_by old.needs_restore (registered_files old) (kept_too (registered_files old) file) (registered_files new) is e) ∙ too-path (registered_files old) file

-- some files are kept, and then others
pub next-then : (ps qs : List Name) (a b c : Manager) → b.needs_restore ≡ a.needs_restore → KeepsNext ps a b → KeepsNext qs b c → KeepsNext (ps ++ qs) a c
next-then ps qs a b c needs f g e = g (needs ∙ e) ∙ ap (λ l. kept_paths l qs) (f e) ∙ sym (kept-then (paths (registered_files a)) ps qs)

-- none is, where none is asked for
pub next-unasked : (asked : Bool) (path : Name) (manager : Manager) → asked ≡ false → KeepsNext (one_if asked path) manager manager
next-unasked asked path manager is = subst (λ b. KeepsNext (one_if b path) manager manager) (sym is) (λ _. refl)

-- ---- the manifests of members

module _ (w : Wanted) (ms : List MemberManifest) (k : ℕ) (m : MemberManifest) (one : take (k + 1) ms ≡ take k ms ++ m ∷ []) (a b : Manager) where
  paths-by : (alone : Bool) → is_alone w m ≡ alone → alone_paths w (take (k + 1) ms) ≡ alone_paths w (take k ms) ++ one_if alone m.path
  paths-by alone is =
      ap (alone_paths w) one
      ∙ ap (map (λ (x : MemberManifest). x.path)) (filter-append (is_alone w) (take k ms) (m ∷ []))
      ∙ map-append (λ (x : MemberManifest). x.path) (filter (is_alone w) (take k ms)) (filter (is_alone w) (m ∷ []))
      ∙ ap (λ l. alone_paths w (take k ms) ++ l) (ends alone is)
    where
      ends : (alone : Bool) → is_alone w m ≡ alone → map (λ (x : MemberManifest). x.path) (filter (is_alone w) (m ∷ [])) ≡ one_if alone m.path
      ends true e = ap (λ b. map (λ (x : MemberManifest). x.path) (cond b (m ∷ []) [])) e
      ends false e = ap (λ b. map (λ (x : MemberManifest). x.path) (cond b (m ∷ []) [])) e

  -- a member's manifest isn't edited by itself
  pub next-left : is_alone w m ≡ false → KeepsNext (alone_paths w (take k ms)) a b → KeepsNext (alone_paths w (take (k + 1) ms)) a b
  next-left is = subst (λ l. KeepsNext l a b) (sym (paths-by false is ∙ append-nil (alone_paths w (take k ms))))

  -- one is
  pub next-alone : (c : Manager) → is_alone w m ≡ true → b.needs_restore ≡ a.needs_restore → KeepsNext (m.path ∷ []) b c → KeepsNext (alone_paths w (take k ms)) a b → KeepsNext (alone_paths w (take (k + 1) ms)) a c
  next-alone c is needs g f = subst (λ l. KeepsNext l a c) (sym (paths-by true is)) (next-then (alone_paths w (take k ms)) (m.path ∷ []) a b c needs f g)

-- all members'
pub next-all : (w : Wanted) (ms : List MemberManifest) (k : ℕ) (a b : Manager) → length ms ≤ k → KeepsNext (alone_paths w (take k ms)) a b → KeepsNext (alone_paths w ms) a b
next-all w ms k a b end = subst (λ l. KeepsNext (alone_paths w l) a b) (take_all k ms end)

-- ---- the paths of the writes

dev-paths : (ms : List MemberManifest) (made : List Change) → AllZip IsDevWrite ms made → change_paths made ≡ map (λ m. m.path) ms
dev-paths [] [] h = refl
dev-paths [] (c ∷ cs) h = absurd h
dev-paths (m ∷ ms) [] h = absurd h
dev-paths (m ∷ ms) (c ∷ cs) h = ap (λ (x : Change). x.path ∷ change_paths cs) h.0.is ∙ ap (λ l. m.path ∷ l) (dev-paths ms cs h.1)

root-paths : (asked : Bool) (w : Wanted) (drops : Bool) (private : List Name) (reads : Name → Type 0) (made : List Change) → IsOneIf asked (IsRootWrite w drops private reads) made → change_paths made ≡ one_if asked w.root
root-paths true w drops private reads made h = ap change_paths h.2 ∙ ap (λ (x : Change). x.path ∷ []) h.1.is
root-paths false w drops private reads made h = ap change_paths h

-- those of members by themselves, and then the root's
write-paths : (tells : Type 0) (w : Wanted) (ms : List MemberManifest) (held : Contents) (made : List Change) → AreWrites tells w ms held made → change_paths made ≡ alone_paths w ms ++ one_if (edits_root w ms) w.root
write-paths tells w ms held made h =
    ap change_paths h.is
    ∙ map-append (λ (c : Change). c.path) h.alone h.root
    ∙ ap (λ l. l ++ change_paths h.root) (dev-paths (filter (is_alone w) ms) h.alone h.members)
    ∙ ap (λ l. alone_paths w ms ++ l) (root-paths (edits_root w ms) w _ _ _ h.root h.ends)

-- ---- all together

in-order : (lockfile : Name) (made : List Change) (ps : List Name) (a b c : Manager) → change_paths made ≡ ps → b.needs_restore ≡ a.needs_restore → KeepsNext ps a b → (KeepsNext [] b c) ⊎ (KeepsNext (lockfile ∷ []) b c)
    → a.needs_restore ≡ true → KeepsInOrder lockfile made (paths (registered_files a)) (paths (registered_files c))
in-order lockfile made ps a b c are needs f (inl g) e = inl (g (needs ∙ e) ∙ f e ∙ ap (kept_paths (paths (registered_files a))) (sym are))
in-order lockfile made ps a b c are needs f (inr g) e =
    inr (next-then ps (lockfile ∷ []) a b c needs f g e ∙ ap (λ l. kept_paths (paths (registered_files a)) (l ++ lockfile ∷ [])) (sym are))

-- the files of the writes that were made, and then the lockfile
pub made-in-order : (tells : Type 0) (w : Wanted) (ms : List MemberManifest) (held : Contents) (a b c d : Manager) (t u : Trace) (m n : Contents)
    → b.needs_restore ≡ a.needs_restore → c.needs_restore ≡ b.needs_restore
    → KeepsNext (alone_paths w ms) a b → KeepsNext (one_if (edits_root w ms) w.root) b c → (KeepsNext [] c d) ⊎ (KeepsNext (w.lockfile ∷ []) c d)
    → MakesSome (AreWrites tells w ms held) t u m n
    → MakesSome (λ made. AreWrites tells w ms held made × (a.needs_restore ≡ true → KeepsInOrder w.lockfile made (paths (registered_files a)) (paths (registered_files d)))) t u m n
made-in-order tells w ms held a b c d t u m n first second f g l h =
    let ps = alone_paths w ms in
    let qs = one_if (edits_root w ms) w.root in
    (h.0, (h.1, in-order w.lockfile h.0 (ps ++ qs) a c d (write-paths tells w ms held h.0 h.1) (second ∙ first) (next-then ps qs a b c first f g) l), h.2)

-- nothing is asked, so nothing is made and nothing is kept
pub none-in-order : (tells : Type 0) (w : Wanted) (ms : List MemberManifest) (held : Contents) (manager : Manager) (t : Trace) → w.drops_dev ≡ false → w.no_private ≡ false
    → MakesSome (λ made. AreWrites tells w ms held made × (manager.needs_restore ≡ true → KeepsInOrder w.lockfile made (paths (registered_files manager)) (paths (registered_files manager)))) t t held held
none-in-order tells w ms held manager t d n = ([], (none-written tells w ms held d n, λ _. inl refl), makes_none t held)
