-- The writes of edits, one after another.
use Rattle.std.proofs.Common.{◌≡◌, ◌⊎◌, inl, inr, ℕ, ◌+◌, ◌≤◌, List, [], ◌∷◌, ◌++◌, Bool, true, false, cond, Option, Some, None, Result, Ok, Err, OnOk, OnErr, take, length, arith, refl, sym, ◌∙◌, ap, subst, append-nil}
use Rattle.std.specs.Prelude.{◌&&◌, ◌||◌, not, MatchBool, MatchOption, option_map}
use Rattle.std.specs.List.{AllZip, filter, find}
use Rattle.std.proofs.lemmas.List.{take_all}
use Rattle.std.proofs.lemmas.List.Elements.{filter-append}
use Rattle.hack_base.specs.Names.{Name}
use Rattle.hack_files.specs.Files.{Change, Contents, Makes, MakesOrNot, Trace, puts}
use Rattle.hack_files.specs.TraceLaws.{makes_more, makes_none}
use Rattle.hack_edits.specs.DevDeps.{IsWithoutDev}
use Rattle.hack_private_crates.specs.Members.{in_order}
use Rattle.hack_private_crates.specs.PrivateCrates.{IsWithoutPrivate}
use Rattle.hack_prepare.specs.Prepared.{IsRootEdit, MemberManifest, Wanted, drops_at_root, edits_root, gone_manifests, is_alone, is_root}
use Rattle.hack_manifest.specs.LineRuns.{has_some}
use Rattle.hack_prepare.specs.Internal.{KeepsApart, IsAtMostOne, MayWriteRoot}
use Rattle.hack_prepare.specs.Writes.{AreDevWrites, AreRootWrites, AreWrites, BeginDevWrites, BeginWrites, IsDevWrite, IsOne, IsOneIf, IsRootWrite, MakesSome, ReadsRoot, WritesRoot}
use Rattle.hack_prepare.proofs.RootLemmas.{alone-free, drops-found, drops-missed, edits-is, root-found, root-missed, text_in}

pub made-ok : {T E : Type 0} (whole : Type 0) (A B : Type 0) (r : Result T E) → (A → B) → OnOk r (whole → A) → OnOk r (whole → B)
made-ok whole A B (Ok v) f h = λ y. f (h y)
made-ok whole A B (Err e) f h = tt

pub made-err : {T E : Type 0} (whole : Type 0) (A B : Type 0) (r : Result T E) → (A → B) → OnErr r (whole → A) → OnErr r (whole → B)
made-err whole A B (Ok v) f h = tt
made-err whole A B (Err e) f h = λ y. f (h y)

-- one for each, and then one for each
each-join : {A B : Type 0} (P : A → B → Type 0) (xs ys : List A) (fs gs : List B) → AllZip P xs fs → AllZip P ys gs → AllZip P (xs ++ ys) (fs ++ gs)
each-join P [] ys [] gs h k = k
each-join P [] ys (f ∷ fs) gs h k = absurd h
each-join P (x ∷ xs) ys [] gs h k = absurd h
each-join P (x ∷ xs) ys (f ∷ fs) gs h k = (h.0, each-join P xs ys fs gs h.1 k)

-- ---- one write

-- a text is written
pub one-made : (P : Change → Type 0) (c : Change) (t u : Trace) (m n : Contents) → P c → Makes (c ∷ []) t u m n → MakesSome (IsOne P) t u m n
one-made P c t u m n p h = (c ∷ [], (c, p, refl), h)

-- or not
pub one-or-not : (P : Change → Type 0) (c : Change) (t u : Trace) (m n : Contents) → P c → MakesOrNot c t u m n → MakesSome (IsAtMostOne P) t u m n
one-or-not P c t u m n p (inl h) = ([], inl refl, h)
one-or-not P c t u m n p (inr h) = (c ∷ [], inr (c, p, refl), h)

-- changes that are made, as others are
pub some-made : (P Q : List Change → Type 0) (t u : Trace) (m n : Contents) → ((made : List Change) → P made → Q made) → MakesSome P t u m n → MakesSome Q t u m n
some-made P Q t u m n f h = (h.0, f h.0 h.1, h.2)

-- something is made, and then nothing
pub made-still : (P : List Change → Type 0) (t u v : Trace) (m n w : Contents) → MakesSome P t u m n → Makes [] u v n w → MakesSome P t v m w
made-still P t u v m n w h f = (h.0, h.1, subst (λ l. Makes l t v m w) (append-nil h.0) (makes_more h.0 [] t u v m n w h.2 f))

-- where a call succeeded, or not
on-ok : {T E : Type 0} (A B : Type 0) (r : Result T E) → (A → B) → OnOk r A → OnOk r B
on-ok A B (Ok v) f h = f h
on-ok A B (Err e) f h = tt

on-err : {T E : Type 0} (A B : Type 0) (r : Result T E) → (A → B) → OnErr r A → OnErr r B
on-err A B (Ok v) f h = tt
on-err A B (Err e) f h = f h

-- ---- the members' writes

module _ {T E : Type 0} (whole : Type 0) (r : Result T E) (m : MemberManifest) (turned text : Name) (t u : Trace) (a b : Contents) (same : text ≡ turned) (edit : IsWithoutDev m.text turned) where
  is-dev : IsDevWrite m (puts m.path text)
  is-dev = record { turned = turned; edit = edit; is = ap (puts m.path) same }

  pub dev-made : OnOk r (whole → Makes (puts m.path text ∷ []) t u a b) → OnOk r (whole → MakesSome (IsOne (IsDevWrite m)) t u a b)
  dev-made h = on-ok (whole → Makes (puts m.path text ∷ []) t u a b) (whole → MakesSome (IsOne (IsDevWrite m)) t u a b) r (λ f y. one-made (IsDevWrite m) (puts m.path text) t u a b is-dev (f y)) h

  pub dev-or-not : OnErr r (whole → MakesOrNot (puts m.path text) t u a b) → OnErr r (whole → MakesSome (IsAtMostOne (IsDevWrite m)) t u a b)
  dev-or-not h = on-err (whole → MakesOrNot (puts m.path text) t u a b) (whole → MakesSome (IsAtMostOne (IsDevWrite m)) t u a b) r (λ f y. one-or-not (IsDevWrite m) (puts m.path text) t u a b is-dev (f y)) h

-- a member that is left as it is has none
pub dev-same : (w : Wanted) (ms : List MemberManifest) (m : MemberManifest) (made : List Change) → is_alone w m ≡ false → AreDevWrites w ms made → AreDevWrites w (ms ++ m ∷ []) made
dev-same w ms m made e h =
    subst (λ l. AllZip IsDevWrite l made)
    (sym (filter-append (is_alone w) ms (m ∷ []) ∙ ap (λ b. filter (is_alone w) ms ++ cond b (m ∷ []) []) e ∙ append-nil (filter (is_alone w) ms))) h

-- one that is edited by itself has one
pub dev-more : (w : Wanted) (ms : List MemberManifest) (m : MemberManifest) (made : List Change) (c : Change) → is_alone w m ≡ true → IsDevWrite m c → AreDevWrites w ms made → AreDevWrites w (ms ++ m ∷ []) (made ++ c ∷ [])
dev-more w ms m made c e is h =
    subst (λ l. AllZip IsDevWrite l (made ++ c ∷ []))
    (sym (filter-append (is_alone w) ms (m ∷ []) ∙ ap (λ b. filter (is_alone w) ms ++ cond b (m ∷ []) []) e))
    (each-join IsDevWrite (filter (is_alone w) ms) (m ∷ []) made (c ∷ []) h (is, tt))

module _ (w : Wanted) (ms : List MemberManifest) (k : ℕ) (m : MemberManifest) (one : take (k + 1) ms ≡ take k ms ++ m ∷ []) (t u v : Trace) (a b z : Contents) where
  pub left-made : is_alone w m ≡ false → MakesSome (AreDevWrites w (take k ms)) t u a b → MakesSome (AreDevWrites w (take (k + 1) ms)) t u a b
  left-made e h = (h.0, subst (λ l. AreDevWrites w l h.0) (sym one) (dev-same w (take k ms) m h.0 e h.1), h.2)

  more-by : (d : List Change) → MakesSome (AreDevWrites w (take k ms)) t u a b → is_alone w m ≡ true → IsOne (IsDevWrite m) d → Makes d u v b z → MakesSome (AreDevWrites w (take (k + 1) ms)) t v a z
  more-by d h e one-of makes =
      let c = one-of.0 in (
        h.0 ++ c ∷ [],
        subst (λ l. AreDevWrites w l (h.0 ++ c ∷ [])) (sym one) (dev-more w (take k ms) m h.0 c e one-of.1 h.1),
        makes_more h.0 (c ∷ []) t u v a b z h.2 (subst (λ l. Makes l u v b z) one-of.2 makes),
      )

  pub alone-made : is_alone w m ≡ true → MakesSome (IsOne (IsDevWrite m)) u v b z → MakesSome (AreDevWrites w (take k ms)) t u a b → MakesSome (AreDevWrites w (take (k + 1) ms)) t v a z
  alone-made e now h = more-by now.0 h e now.1 now.2

  -- a member's edit failed, and was made or not
  pub alone-begun : is_alone w m ≡ true → MakesSome (IsAtMostOne (IsDevWrite m)) u v b z → MakesSome (AreDevWrites w (take k ms)) t u a b → MakesSome (BeginDevWrites w ms) t v a z
  alone-begun e now h = elim now.1 [
    | inl none ↦ (h.0, (k, h.1), subst (λ l. Makes l t v a z) (append-nil h.0) (makes_more h.0 [] t u v a b z h.2 (subst (λ l. Makes l u v b z) none now.2)))
    | inr some ↦ let r = more-by now.0 h e some now.2 in (r.0, (k + 1, r.1), r.2)
  ]

-- no member's yet
pub dev_none : (whole : Type 0) (w : Wanted) (t : Trace) (m : Contents) → whole → MakesSome (AreDevWrites w []) t t m m
dev_none whole w t m y = ([], tt, makes_none t m)

-- nothing is begun
pub begun_none : (whole tells : Type 0) (w : Wanted) (ms : List MemberManifest) (held : Contents) (t : Trace) (m : Contents) → whole → MakesSome (BeginWrites tells w ms held) t t m m
begun_none whole tells w ms held t m y = ([], inl (0, tt), makes_none t m)

-- all members'
pub dev_all : (whole : Type 0) (w : Wanted) (ms : List MemberManifest) (k : ℕ) (t u : Trace) (m n : Contents) → length ms ≤ k → (whole → MakesSome (AreDevWrites w (take k ms)) t u m n) → whole → MakesSome (AreDevWrites w ms) t u m n
dev_all whole w ms k t u m n end h y = let r = h y in (r.0, subst (λ l. AreDevWrites w l r.0) (take_all k ms end) r.1, r.2)

-- the members so far
pub so-far-begun : (w : Wanted) (ms : List MemberManifest) (k : ℕ) (t u : Trace) (m n : Contents) → MakesSome (AreDevWrites w (take k ms)) t u m n → MakesSome (BeginDevWrites w ms) t u m n
so-far-begun w ms k t u m n h = (h.0, (k, h.1), h.2)

-- ---- the root's write

root-wider : (w : Wanted) (drops other : Bool) (private : List Name) (R S : Name → Type 0) → drops ≡ other → ((x : Name) → R x → S x) → (c : Change) → IsRootWrite w drops private R c → IsRootWrite w other private S c
root-wider w drops other private R S is to c h =
    record { text = h.text; turned = h.turned; read = to h.text h.read; edit = subst (λ b. IsRootEdit w.folder b private h.text h.turned) is h.edit; is = h.is }

one-wider : (P Q : Change → Type 0) → ((c : Change) → P c → Q c) → (made : List Change) → IsOne P made → IsOne Q made
one-wider P Q f made h = (h.0, f h.0 h.1, h.2)

if-wider : (a b : Bool) (P Q : Change → Type 0) → a ≡ b → ((c : Change) → P c → Q c) → (made : List Change) → IsOneIf a P made → IsOneIf b Q made
if-wider a true P Q is f made h = one-wider P Q f made (subst (λ x. IsOneIf x P made) is h)
if-wider a false P Q is f made h = subst (λ x. IsOneIf x P made) is h

maybe-wider : (a b : Bool) (P Q : Change → Type 0) → a ≡ b → ((c : Change) → P c → Q c) → (made : List Change) → (made ≡ []) ⊎ IsOneIf a P made → (made ≡ []) ⊎ IsOneIf b Q made
maybe-wider a b P Q is f made (inl h) = inl h
maybe-wider a b P Q is f made (inr h) = inr (if-wider a b P Q is f made h)

-- one that is asked for
pub if-asked : (a : Bool) (P : Change → Type 0) → a ≡ true → (made : List Change) → IsOne P made → IsOneIf a P made
if-asked a P is made h = subst (λ x. IsOneIf x P made) (sym is) h

-- none that isn't
pub if-unasked : (a : Bool) (P : Change → Type 0) → a ≡ false → IsOneIf a P []
if-unasked a P is = subst (λ x. IsOneIf x P []) (sym is) refl

-- a held text's edit is written
pub held-made : (a : Bool) (P : Change → Type 0) (c : Change) (t u : Trace) (m n : Contents) → a ≡ true → P c → Makes (c ∷ []) t u m n → MakesSome (IsOneIf a P) t u m n
held-made a P c t u m n on p h = (c ∷ [], if-asked a P on (c ∷ []) (c, p, refl), h)

-- or not
pub held-or-not : (a : Bool) (P : Change → Type 0) (c : Change) (t u : Trace) (m n : Contents) → a ≡ true → P c → MakesOrNot c t u m n → MakesSome (λ made. (made ≡ []) ⊎ IsOneIf a P made) t u m n
held-or-not a P c t u m n on p (inl h) = ([], inl refl, h)
held-or-not a P c t u m n on p (inr h) = (c ∷ [], inr (if-asked a P on (c ∷ []) (c, p, refl)), h)

-- the one that is found by a member's text, and the one that is read, are the root's
module _ (tells : Type 0) (w : Wanted) (ms : List MemberManifest) (private : List Name) (held : Contents) (wanted : w.no_private ≡ true) (same : private ≡ gone_manifests w ms) where
  reads-found : (text : Name) → Some text ≡ option_map text_in (find (is_root w) ms) → (x : Name) → x ≡ text → ReadsRoot tells w ms held x
  reads-found text found x is = by (find (is_root w) ms) found
    where
      by : (o : Option MemberManifest) → Some text ≡ option_map text_in o → MatchOption o (tells → held w.root ≡ Some x) (λ m. x ≡ m.text)
      by None e = absurd (cc)
      by (Some m) e = cc

  reads-missed : None ≡ option_map text_in (find (is_root w) ms) → (x : Name) → (tells → held w.root ≡ Some x) → ReadsRoot tells w ms held x
  reads-missed missed x is = by (find (is_root w) ms) missed
    where
      by : (o : Option MemberManifest) → None ≡ option_map text_in o → MatchOption o (tells → held w.root ≡ Some x) (λ m. x ≡ m.text)
      by None e = is
      by (Some m) e = absurd (cc)

  to-root : (drops : Bool) (R : Name → Type 0) → drops_at_root w ms ≡ drops → ((x : Name) → R x → ReadsRoot tells w ms held x) → (c : Change) → IsRootWrite w drops private R c → WritesRoot tells w ms held c
  to-root drops R is to c h =
      subst (λ l. IsRootWrite w (drops_at_root w ms) l (ReadsRoot tells w ms held) c) same
      (root-wider w drops (drops_at_root w ms) private R (ReadsRoot tells w ms held) (sym is) to c h)

  module _ (text : Name) (t u : Trace) (m n : Contents) (found : Some text ≡ option_map text_in (find (is_root w) ms)) where
    found-drops : drops_at_root w ms ≡ w.drops_dev
    found-drops = drops-found w ms (root-found w ms text found)

    found-asked : (w.drops_dev || has_some private) ≡ edits_root w ms
    found-asked = sym (edits-is w ms w.drops_dev private wanted found-drops same)

    pub found-made : MakesSome (IsOneIf (w.drops_dev || has_some private) (IsRootWrite w w.drops_dev private (λ x. x ≡ text))) t u m n → MakesSome (AreRootWrites tells w ms held) t u m n
    found-made h = (h.0, if-wider _ _ _ _ found-asked (to-root w.drops_dev (λ x. x ≡ text) found-drops (reads-found text found)) h.0 h.1, h.2)

    pub found-begun : MakesSome (λ made. (made ≡ []) ⊎ IsOneIf (w.drops_dev || has_some private) (IsRootWrite w w.drops_dev private (λ x. x ≡ text)) made) t u m n → MakesSome (MayWriteRoot tells w ms held) t u m n
    found-begun h = (h.0, maybe-wider _ _ _ _ found-asked (to-root w.drops_dev (λ x. x ≡ text) found-drops (reads-found text found)) h.0 h.1, h.2)

    pub found-traced : {T E : Type 0} (whole : Type 0) (r : Result T E) → OnOk r (whole → MakesSome (IsOneIf (w.drops_dev || has_some private) (IsRootWrite w w.drops_dev private (λ x. x ≡ text))) t u m n) → OnOk r (whole → MakesSome (AreRootWrites tells w ms held) t u m n)
    found-traced whole r h = made-ok whole _ _ r found-made h

    pub found-refused : {T E : Type 0} (whole : Type 0) (r : Result T E) → OnErr r (whole → MakesSome (λ made. (made ≡ []) ⊎ IsOneIf (w.drops_dev || has_some private) (IsRootWrite w w.drops_dev private (λ x. x ≡ text)) made) t u m n)
        → OnErr r (whole → MakesSome (MayWriteRoot tells w ms held) t u m n)
    found-refused whole r h = made-err whole _ _ r found-begun h

  module _ (t u : Trace) (m n : Contents) (missed : None ≡ option_map text_in (find (is_root w) ms)) where
    missed-drops : drops_at_root w ms ≡ false
    missed-drops = drops-missed w ms (root-missed w ms missed)

    missed-asked : has_some private ≡ edits_root w ms
    missed-asked = sym (edits-is w ms false private wanted missed-drops same)

    pub missed-made : MakesSome (IsOneIf (has_some private) (IsRootWrite w false private (λ x. tells → held w.root ≡ Some x))) t u m n → MakesSome (AreRootWrites tells w ms held) t u m n
    missed-made h = (h.0, if-wider _ _ _ _ missed-asked (to-root false (λ x. tells → held w.root ≡ Some x) missed-drops (reads-missed missed)) h.0 h.1, h.2)

    pub missed-begun : MakesSome (λ made. (made ≡ []) ⊎ IsOneIf (has_some private) (IsRootWrite w false private (λ x. tells → held w.root ≡ Some x)) made) t u m n → MakesSome (MayWriteRoot tells w ms held) t u m n
    missed-begun h = (h.0, maybe-wider _ _ _ _ missed-asked (to-root false (λ x. tells → held w.root ≡ Some x) missed-drops (reads-missed missed)) h.0 h.1, h.2)

    pub missed-traced : {T E : Type 0} (whole : Type 0) (r : Result T E) → OnOk r (whole → MakesSome (IsOneIf (has_some private) (IsRootWrite w false private (λ x. tells → held w.root ≡ Some x))) t u m n) → OnOk r (whole → MakesSome (AreRootWrites tells w ms held) t u m n)
    missed-traced whole r h = made-ok whole _ _ r missed-made h

    pub missed-refused : {T E : Type 0} (whole : Type 0) (r : Result T E) → OnErr r (whole → MakesSome (λ made. (made ≡ []) ⊎ IsOneIf (has_some private) (IsRootWrite w false private (λ x. tells → held w.root ≡ Some x)) made) t u m n)
        → OnErr r (whole → MakesSome (MayWriteRoot tells w ms held) t u m n)
    missed-refused whole r h = made-err whole _ _ r missed-begun h

-- the edit of a held text
module _ {T E : Type 0} (whole : Type 0) (r : Result T E) (w : Wanted) (drops : Bool) (private : List Name) (held between turned text : Name) (t u : Trace) (a b : Contents) (asked : (drops || has_some private) ≡ true) (same : text ≡ turned)
    (dev : MatchBool drops (IsWithoutDev held between) (between ≡ held)) (members : MatchBool (has_some private) (IsWithoutPrivate w.folder (in_order private) between turned) (turned ≡ between)) where
  is-held : IsRootWrite w drops private (λ x. x ≡ held) (puts w.root text)
  is-held = record { text = held; turned = turned; read = refl; edit = record { between = between; dev = dev; members = members }; is = ap (puts w.root) same }

  pub root-made : OnOk r (whole → Makes (puts w.root text ∷ []) t u a b) → OnOk r (whole → MakesSome (IsOneIf (drops || has_some private) (IsRootWrite w drops private (λ x. x ≡ held))) t u a b)
  root-made h = on-ok (whole → Makes (puts w.root text ∷ []) t u a b) (whole → MakesSome (IsOneIf (drops || has_some private) (IsRootWrite w drops private (λ x. x ≡ held))) t u a b) r
      (λ f y. held-made (drops || has_some private) (IsRootWrite w drops private (λ x. x ≡ held)) (puts w.root text) t u a b asked is-held (f y)) h

  pub root-or-none : OnErr r (whole → MakesOrNot (puts w.root text) t u a b) → OnErr r (whole → MakesSome (λ made. (made ≡ []) ⊎ IsOneIf (drops || has_some private) (IsRootWrite w drops private (λ x. x ≡ held)) made) t u a b)
  root-or-none h = on-err (whole → MakesOrNot (puts w.root text) t u a b) (whole → MakesSome (λ made. (made ≡ []) ⊎ IsOneIf (drops || has_some private) (IsRootWrite w drops private (λ x. x ≡ held)) made) t u a b) r
      (λ f y. held-or-not (drops || has_some private) (IsRootWrite w drops private (λ x. x ≡ held)) (puts w.root text) t u a b asked is-held (f y)) h

-- what was read is edited
module _ {T E : Type 0} (whole : Type 0) (r : Result T E) (tells : Type 0) (w : Wanted) (private : List Name) (text held : Name) (old mid : Contents) (t u v : Trace) (new : Contents) (same : held ≡ text) (read : tells → old w.root ≡ Some text) (none : whole → Makes [] t u old mid) where
  read-write : (c : Change) → IsRootWrite w false private (λ x. x ≡ held) c → IsRootWrite w false private (λ x. tells → old w.root ≡ Some x) c
  read-write = root-wider w false false private (λ x. x ≡ held) (λ x. tells → old w.root ≡ Some x) refl (λ x is s. read s ∙ ap Some (sym (is ∙ same)))

  read-made : whole → MakesSome (IsOneIf (has_some private) (IsRootWrite w false private (λ x. x ≡ held))) u v mid new → MakesSome (IsOneIf (has_some private) (IsRootWrite w false private (λ x. tells → old w.root ≡ Some x))) t v old new
  read-made y h = (h.0, if-wider _ _ _ _ refl read-write h.0 h.1, makes_more [] h.0 t u v old mid new (none y) h.2)

  read-begun : whole → MakesSome (λ made. (made ≡ []) ⊎ IsOneIf (has_some private) (IsRootWrite w false private (λ x. x ≡ held)) made) u v mid new
      → MakesSome (λ made. (made ≡ []) ⊎ IsOneIf (has_some private) (IsRootWrite w false private (λ x. tells → old w.root ≡ Some x)) made) t v old new
  read-begun y h = (h.0, maybe-wider _ _ _ _ refl read-write h.0 h.1, makes_more [] h.0 t u v old mid new (none y) h.2)

  pub virtual-made : OnOk r (whole → MakesSome (IsOneIf (has_some private) (IsRootWrite w false private (λ x. x ≡ held))) u v mid new)
      → OnOk r (whole → MakesSome (IsOneIf (has_some private) (IsRootWrite w false private (λ x. tells → old w.root ≡ Some x))) t v old new)
  virtual-made h = on-ok _ _ r (λ f y. read-made y (f y)) h

  pub virtual-begun : OnErr r (whole → MakesSome (λ made. (made ≡ []) ⊎ IsOneIf (has_some private) (IsRootWrite w false private (λ x. x ≡ held)) made) u v mid new)
      → OnErr r (whole → MakesSome (λ made. (made ≡ []) ⊎ IsOneIf (has_some private) (IsRootWrite w false private (λ x. tells → old w.root ≡ Some x)) made) t v old new)
  virtual-begun h = on-err _ _ r (λ f y. read-begun y (f y)) h

-- ---- all together

-- where the members' manifests were written before
module _ (tells : Type 0) (w : Wanted) (ms : List MemberManifest) (old mid new : Contents) (t u v : Trace) (apart : tells → KeepsApart w ms old mid) where
  reads-earlier : (x : Name) → ReadsRoot tells w ms mid x → ReadsRoot tells w ms old x
  reads-earlier x h = by (find (is_root w) ms) refl h
    where
      by : (o : Option MemberManifest) → o ≡ find (is_root w) ms → MatchOption o (tells → mid w.root ≡ Some x) (λ m. x ≡ m.text) → MatchOption o (tells → old w.root ≡ Some x) (λ m. x ≡ m.text)
      by None e k = λ s. sym (apart s w.root (alone-free w ms (root-missed w ms (ap (option_map text_in) e)))) ∙ k s
      by (Some m) e k = k

  root-earlier : (made : List Change) → AreRootWrites tells w ms mid made → AreRootWrites tells w ms old made
  root-earlier = if-wider (edits_root w ms) (edits_root w ms) (WritesRoot tells w ms mid) (WritesRoot tells w ms old) refl
      (root-wider w (drops_at_root w ms) (drops_at_root w ms) (gone_manifests w ms) (ReadsRoot tells w ms mid) (ReadsRoot tells w ms old) refl reads-earlier)

  both : (ds rs : List Change) → AreDevWrites w ms ds → AreRootWrites tells w ms mid rs → AreWrites tells w ms old (ds ++ rs)
  both ds rs d r = record { alone = ds; root = rs; members = d; ends = root-earlier rs r; is = refl }

  pub all-made : MakesSome (AreDevWrites w ms) t u old mid → MakesSome (AreRootWrites tells w ms mid) u v mid new → MakesSome (AreWrites tells w ms old) t v old new
  all-made d r = (d.0 ++ r.0, both d.0 r.0 d.1 r.1, makes_more d.0 r.0 t u v old mid new d.2 r.2)

  pub root-begun : MakesSome (AreDevWrites w ms) t u old mid → MakesSome (MayWriteRoot tells w ms mid) u v mid new → MakesSome (BeginWrites tells w ms old) t v old new
  root-begun d r = elim r.1 [
    | inl none ↦ (d.0 ++ r.0, inl (length ms, subst (λ l. AllZip IsDevWrite (filter (is_alone w) (take (length ms) ms)) l) (sym (ap (λ l. d.0 ++ l) none ∙ append-nil d.0)) (subst (λ l. AreDevWrites w l d.0) (sym (take_all (length ms) ms (omega arith))) d.1)), makes_more d.0 r.0 t u v old mid new d.2 r.2)
    | inr some ↦ (d.0 ++ r.0, inr (both d.0 r.0 d.1 some), makes_more d.0 r.0 t u v old mid new d.2 r.2)
  ]

-- where private members stay the root's manifest isn't written
pub unwanted : (tells : Type 0) (w : Wanted) (ms : List MemberManifest) (held : Contents) (t : Trace) (m : Contents) → w.no_private ≡ false → MakesSome (AreRootWrites tells w ms held) t t m m
unwanted tells w ms held t m n = ([], if-unasked (edits_root w ms) (WritesRoot tells w ms held) (ap (λ b. b && (drops_at_root w ms || has_some (gone_manifests w ms))) n), makes_none t m)

-- where nothing is asked nothing is written
none-alone : (w : Wanted) (ms : List MemberManifest) → w.drops_dev ≡ false → filter (is_alone w) ms ≡ []
none-alone w [] d = refl
none-alone w (m ∷ ms) d = ap (λ b. cond (b && not (w.no_private && (m.is_private || is_root w m))) (m ∷ filter (is_alone w) ms) (filter (is_alone w) ms)) d ∙ none-alone w ms d

pub none-written : (tells : Type 0) (w : Wanted) (ms : List MemberManifest) (held : Contents) → w.drops_dev ≡ false → w.no_private ≡ false → AreWrites tells w ms held []
none-written tells w ms held d n = record {
  alone = [];
  root = [];
  members = subst (λ l. AllZip IsDevWrite l []) (sym (none-alone w ms d)) tt;
  ends = if-unasked (edits_root w ms) (WritesRoot tells w ms held) (ap (λ b. b && (drops_at_root w ms || has_some (gone_manifests w ms))) n);
  is = refl;
}
