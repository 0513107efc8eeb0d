-- What is changed of lockfiles, or of all other files, is changed of both.
use Rattle.std.specs.Prelude.{not}
use Rattle.std.proofs.Common.{◌≡◌, ◌≢◌, ◌∙◌, ap, inl, inr, sym, refl, subst, true, false, List, [], ◌∷◌, ℕ, cond, if◌then◌else◌}
use Rattle.std.proofs.Math.Path.{fun_ext}
use Rattle.std.proofs.lemmas.Bool.{cases_Bool}
use Rattle.hack_files.specs.Files.{Change, ComesNext, Contents, Makes, MakesOrNot, Trace, after_change, by_kind}
use Rattle.hack_files.specs.TraceLaws.{none_next}
use Rattle.hack_journal.specs.LockfilesApart.{apart, is_lockfile}
use Rattle.hack_files.proofs.FilesLemmas.{changed_other}

-- a lockfile and another file have two paths
kinds_differ : (p q : List ℕ) → true ≡ is_lockfile p → is_lockfile q ≡ false → q ≢ p
kinds_differ p q is out e = let y : true ≡ false = is ∙ sym (ap is_lockfile e) ∙ out in cc

changed_lockfile : (c : Change) (files m : Contents) → true ≡ is_lockfile c.path → apart files (after_change c m) ≡ after_change c (apart files m)
changed_lockfile c files m is = fun_ext λ q. elim (cases_Bool (is_lockfile q)) [
  | inl own ↦ rw own refl
  | inr out ↦ let kept : apart files m q ≡ files q = ap (λ b. if b then m q else files q) out in
      ap (λ b. if b then after_change c m q else files q) out ∙ sym kept ∙ sym (changed_other c (apart files m) q (kinds_differ c.path q is out))
]

changed_file : (c : Change) (m lockfiles : Contents) → false ≡ is_lockfile c.path → apart (after_change c m) lockfiles ≡ after_change c (apart m lockfiles)
changed_file c m lockfiles is = fun_ext λ q. elim (cases_Bool (is_lockfile q)) [
  | inl own ↦ let kept : apart m lockfiles q ≡ lockfiles q = ap (λ b. if b then lockfiles q else m q) own in
      ap (λ b. if b then lockfiles q else after_change c m q) own ∙ sym kept ∙ sym (changed_other c (apart m lockfiles) q (λ e. kinds_differ q c.path (sym own) (sym is) (sym e)))
  | inr out ↦ rw out refl
]

-- ---- of lockfiles

module _ (others t u : Trace) (files m n : Contents) where
  pub lockfiles_kept : Makes [] t u m n → Makes [] (by_kind is_lockfile t others) (by_kind is_lockfile u others) (apart files m) (apart files n)
  lockfiles_kept h = record { traced = (refl, h.traced, none_next others); holds = ap (apart files) h.holds }

  pub lockfile_made : (c : Change) → true ≡ is_lockfile c.path → Makes (c ∷ []) t u m n → Makes (c ∷ []) (by_kind is_lockfile t others) (by_kind is_lockfile u others) (apart files m) (apart files n)
  lockfile_made c is h = record {
    traced = (refl, subst (λ b. ComesNext (cond b (c ∷ []) []) t u) is h.traced, subst (λ b. ComesNext (cond (not b) (c ∷ []) []) others others) is (none_next others));
    holds = ap (apart files) h.holds ∙ changed_lockfile c files m is;
  }

  pub lockfile_or_not : (c : Change) → true ≡ is_lockfile c.path → MakesOrNot c t u m n → MakesOrNot c (by_kind is_lockfile t others) (by_kind is_lockfile u others) (apart files m) (apart files n)
  lockfile_or_not c is (inl none) = inl (lockfiles_kept none)
  lockfile_or_not c is (inr one) = inr (lockfile_made c is one)

-- ---- of others

module _ (locked t u : Trace) (lockfiles m n : Contents) where
  pub files_kept : Makes [] t u m n → Makes [] (by_kind is_lockfile locked t) (by_kind is_lockfile locked u) (apart m lockfiles) (apart n lockfiles)
  files_kept h = record { traced = (refl, none_next locked, h.traced); holds = ap (λ x. apart x lockfiles) h.holds }

  pub file_made : (c : Change) → false ≡ is_lockfile c.path → Makes (c ∷ []) t u m n → Makes (c ∷ []) (by_kind is_lockfile locked t) (by_kind is_lockfile locked u) (apart m lockfiles) (apart n lockfiles)
  file_made c is h = record {
    traced = (refl, subst (λ b. ComesNext (cond b (c ∷ []) []) locked locked) is (none_next locked), subst (λ b. ComesNext (cond (not b) (c ∷ []) []) t u) is h.traced);
    holds = ap (λ x. apart x lockfiles) h.holds ∙ changed_file c m lockfiles is;
  }

  pub file_or_not : (c : Change) → false ≡ is_lockfile c.path → MakesOrNot c t u m n → MakesOrNot c (by_kind is_lockfile locked t) (by_kind is_lockfile locked u) (apart m lockfiles) (apart n lockfiles)
  file_or_not c is (inl none) = inl (files_kept none)
  file_or_not c is (inr one) = inr (file_made c is one)
