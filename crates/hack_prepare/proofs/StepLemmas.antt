-- Steps of the edits: what is kept, and what is restored.
use Rattle.std.proofs.Common.{◌≡◌, ◌≢◌, ◌⊎◌, inl, inr, List, ◌∷◌, [], ◌++◌, Bool, true, false, cond, Some, refl, sym, ◌∙◌, ap, subst}
use Rattle.std.specs.Prelude.{◌||◌}
use Rattle.std.specs.Str.{bytes_eq}
use Rattle.std.proofs.lemmas.Bool.{cond_both, true≢false}
use Rattle.std.proofs.lemmas.List.Folds.{list_any-append}
use Rattle.std.proofs.lemmas.Slice.Eq.{bytes_eq-Decides}
use Rattle.hack_base.specs.Names.{Name}
use Rattle.hack_files.specs.Files.{Contents, KeepsAll, KeepsOthers}
use Rattle.hack_files.specs.Restore.{AreSafe, Kept, is_kept, kept_too, registered_files}
use Rattle.hack_files.specs.declared.restore.Manager.{Manager}
use Rattle.hack_files.proofs.SafeLemmas.{kept_now, safe_kept, safe_same, safe_written}
use Rattle.hack_prepare.specs.Internal.{Only, AnyStart, HeldUnkept, IsStep}
use Rattle.hack_prepare.specs.EditSteps.{AddsKeptFiles, KeepsHeld, none, one}

-- no more is kept, and each path that isn't holds what it held at the start
pub keeps_none : (old new : List Kept) (start now : Contents) → new ≡ old → ((q : Name) → is_kept old q ≡ false → now q ≡ start q) → KeepsHeld old new start now
keeps_none old new start now is free = subst (λ l. KeepsHeld old l start now) (sym is) (record { added = none; others = free })

-- nothing is done
pub step_none : (tells : Type 0) (P : Contents → Type 0) (K : Name → Type 0) (manager : Manager) (held : Contents) → IsStep tells P K manager manager held held
step_none tells P K manager held = record { needs = refl; unkept = λ _. refl; kept = λ q h. inl h; safe = λ t needs start p h. h; keeps = λ t needs start p free. record { added = none; others = free } }

-- a premise that asks for more, and more paths that may be kept
pub step_given : (tells : Type 0) (P Q : Contents → Type 0) (K L : Name → Type 0) (old new : Manager) (mid held : Contents)
    → ((start : Contents) → Q start → P start) → ((q : Name) → K q → L q) → IsStep tells P K old new mid held → IsStep tells Q L old new mid held
step_given tells P Q K L old new mid held f m h = record {
  needs = h.needs;
  unkept = h.unkept;
  kept = λ q took. elim (h.kept q took) [ inl x ↦ inl x | inr x ↦ inr (m q x) ];
  safe = λ t needs start q s. h.safe t needs start (f start q) s;
  keeps = λ t needs start q free. h.keeps t needs start (f start q) free;
}

adds_then : (start : Contents) (a b c : List Kept) → AddsKeptFiles start a b → AddsKeptFiles start b c → AddsKeptFiles start a c
adds_then start a b _ f none = f
adds_then start a b _ f (one file g free held) = one file (adds_then start a b _ f g) free held

-- one step after another
pub step_then : (tells : Type 0) (P : Contents → Type 0) (K : Name → Type 0) (a b c : Manager) (x y z : Contents)
    → IsStep tells P K a b x y → IsStep tells P K b c y z → IsStep tells P K a c x z
step_then tells P K a b c x y z f g = record {
  needs = g.needs ∙ f.needs;
  unkept = λ e. g.unkept (f.needs ∙ e) ∙ f.unkept e;
  kept = λ q took. elim (g.kept q took) [ inl before ↦ f.kept q before | inr now ↦ inr now ];
  safe = λ t e start p h. g.safe t (f.needs ∙ e) start p (f.safe t e start p h);
  keeps = λ t e start p free.
      let first = f.keeps t e start p free in
      let then = g.keeps t (f.needs ∙ e) start p first.others in
      record { added = adds_then start (registered_files a) (registered_files b) (registered_files c) first.added then.added; others = then.others };
}

-- what is read at a path is written there, if it is kept
pub step_read : (tells : Type 0) (path held : Name) (K : Name → Type 0) (old new : Manager) (first mid late : Contents)
    → (tells → KeepsAll first mid) → (tells → first path ≡ Some held) → IsStep tells (HeldUnkept old path held) K old new mid late → IsStep tells AnyStart K old new first late
step_read tells path held K old new first mid late same holds h = record {
  needs = h.needs;
  unkept = h.unkept;
  kept = h.kept;
  safe = λ t e start _ s. h.safe t e start (λ free. sym (s.others path free) ∙ holds t) (safe_same (registered_files old) start first mid (same t) s);
  keeps = λ t e start _ free. h.keeps t e start (λ no. sym (free path no) ∙ holds t) (λ q no. same t q ∙ free q no);
}

unkept_by : (needs : Bool) (kept too more : List Kept) → more ≡ cond needs too kept → needs ≡ false → more ≡ kept
unkept_by needs kept too more is e = is ∙ ap (λ b. cond b too kept) e

pub kept_by : (needs : Bool) (kept too more : List Kept) → more ≡ cond needs too kept → needs ≡ true → more ≡ too
kept_by needs kept too more is e = is ∙ ap (λ b. cond b too kept) e

or_last : (a b : Bool) → (a || (b || false)) ≡ true → (a ≡ true) ⊎ (b ≡ true)
or_last true b h = inl refl
or_last false true h = inr refl
or_last false false h = absurd (true≢false (sym h))

-- of a path that is kept with one more file, either it was kept before, or it is that file's
kept_or : (files : List Kept) (file : Kept) (q : Name) → is_kept (kept_too files file) q ≡ true → (is_kept files q ≡ true) ⊎ (q ≡ file.path)
kept_or files file q =
    cond_both (is_kept files file.path) files (files ++ file ∷ []) (λ l. is_kept l q ≡ true → (is_kept files q ≡ true) ⊎ (q ≡ file.path)) (λ _ took. inl took)
    (λ _ took. elim (or_last (is_kept files q) (bytes_eq file.path q) (sym (list_any-append (λ (f : Kept). bytes_eq f.path q) files (file ∷ [])) ∙ took)) [
      | inl before ↦ inl before
      | inr now ↦ inr (sym ((bytes_eq-Decides file.path q).0 now))
    ])

only_by : (needs : Bool) (files more : List Kept) (file : Kept) → more ≡ cond needs (kept_too files file) files → (q : Name) → is_kept more q ≡ true → (is_kept files q ≡ true) ⊎ (q ≡ file.path)
only_by true files more file is q took = kept_or files file q (subst (λ l. is_kept l q ≡ true) is took)
only_by false files more file is q took = inl (subst (λ l. is_kept l q ≡ true) is took)

or_first : (a b : Bool) → (a || b) ≡ false → a ≡ false
or_first true b h = h
or_first false b h = refl

-- what isn't kept with one file more isn't kept without it
free_before : (files : List Kept) (file : Kept) (q : Name) → is_kept (kept_too files file) q ≡ false → is_kept files q ≡ false
free_before files file q =
    cond_both (is_kept files file.path) files (files ++ file ∷ []) (λ l. is_kept l q ≡ false → is_kept files q ≡ false) (λ _ no. no)
    (λ _ no. or_first (is_kept files q) (is_kept (file ∷ []) q) (sym (list_any-append (λ (f : Kept). bytes_eq f.path q) files (file ∷ [])) ∙ no))

-- one file more is added, with what its path held
adds_too : (files : List Kept) (file : Kept) (start : Contents) → (is_kept files file.path ≡ false → start file.path ≡ Some file.bytes) → AddsKeptFiles start files (kept_too files file)
adds_too files file start held =
    cond_both (is_kept files file.path) files (files ++ file ∷ []) (AddsKeptFiles start files) (λ _. none) (λ free. one file none free (held free))

-- a path that is kept isn't one that isn't
kept_apart : (files : List Kept) (p q : Name) → is_kept files p ≡ true → is_kept files q ≡ false → q ≢ p
kept_apart files p q took free is = true≢false (sym took ∙ subst (λ x. is_kept files x ≡ false) is free)

-- what a path held is kept, and it is written
pub replaced : (tells : Type 0) (file : Kept) (held : Name) (old new : Manager) (mid late : Contents)
    → file.bytes ≡ held → registered_files new ≡ cond old.needs_restore (kept_too (registered_files old) file) (registered_files old) → new.needs_restore ≡ old.needs_restore
    → (tells → KeepsOthers file.path mid late) → IsStep tells (HeldUnkept old file.path held) (Only file.path) old new mid late
replaced tells file held old new mid late same is needs keeps =
    let too = kept_too (registered_files old) file in
    record {
      needs = needs;
      unkept = λ e. unkept_by old.needs_restore (registered_files old) too (registered_files new) is e;
      kept = only_by old.needs_restore (registered_files old) (registered_files new) file is;
      safe = λ t e start given h.
          subst (λ l. AreSafe l start late) (sym (kept_by old.needs_restore (registered_files old) too (registered_files new) is e))
          (safe_written too file.path start mid late (kept_now (registered_files old) file) (keeps t) (safe_kept (registered_files old) file start mid (λ free. given free ∙ ap Some (sym same)) h));
      keeps = λ t e start given free.
          subst (λ l. KeepsHeld (registered_files old) l start late) (sym (kept_by old.needs_restore (registered_files old) too (registered_files new) is e)) (record {
            added = adds_too (registered_files old) file start (λ no. given no ∙ ap Some (sym same));
            others = λ q no. keeps t q (kept_apart too file.path q (kept_now (registered_files old) file) no) ∙ free q (free_before (registered_files old) file q no);
          });
    }

-- what a path holds is kept
pub locked : (tells : Type 0) (file : Kept) (old new : Manager) (mid late : Contents)
    → registered_files new ≡ cond old.needs_restore (kept_too (registered_files old) file) (registered_files old) → new.needs_restore ≡ old.needs_restore
    → (tells → mid file.path ≡ Some file.bytes) → (tells → KeepsAll mid late) → IsStep tells AnyStart (Only file.path) old new mid late
locked tells file old new mid late is needs holds same =
    let too = kept_too (registered_files old) file in
    record {
      needs = needs;
      unkept = λ e. unkept_by old.needs_restore (registered_files old) too (registered_files new) is e;
      kept = only_by old.needs_restore (registered_files old) (registered_files new) file is;
      safe = λ t e start _ h.
          subst (λ l. AreSafe l start late) (sym (kept_by old.needs_restore (registered_files old) too (registered_files new) is e))
          (safe_same too start mid late (same t) (safe_kept (registered_files old) file start mid (λ free. sym (h.others file.path free) ∙ holds t) h));
      keeps = λ t e start _ free.
          subst (λ l. KeepsHeld (registered_files old) l start late) (sym (kept_by old.needs_restore (registered_files old) too (registered_files new) is e)) (record {
            added = adds_too (registered_files old) file start (λ no. sym (free file.path no) ∙ holds t);
            others = λ q no. same t q ∙ free q (free_before (registered_files old) file q no);
          });
    }

-- and then it is kept
pub locked_now : (file : Kept) (old new : Manager) → registered_files new ≡ cond old.needs_restore (kept_too (registered_files old) file) (registered_files old)
    → old.needs_restore ≡ true → is_kept (registered_files new) file.path ≡ true
locked_now file old new is e =
    subst (λ l. is_kept l file.path ≡ true) (sym (kept_by old.needs_restore (registered_files old) (kept_too (registered_files old) file) (registered_files new) is e)) (kept_now (registered_files old) file)
