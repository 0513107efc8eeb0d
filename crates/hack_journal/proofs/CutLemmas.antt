-- What a write that was cut left.
use Rattle.std.proofs.Common.{◌≡◌, ◌≤◌, ◌+◌, inl, inr, ℕ, zero, suc, List, [], ◌∷◌, ◌++◌, Option, Some, None, refl, sym, ◌∙◌, ap, subst, take, drop, length, cond, true, false, arith}
use Rattle.std.specs.Prelude.{nat_eq, IsTrue, Bool}
use Rattle.std.specs.List.{common_prefix_len}
use Rattle.std.proofs.Math.Seq.{drop-nil}
use Rattle.std.proofs.lemmas.List.{drop_all, take-append-drop}
use Rattle.std.proofs.lemmas.List.Sums.{common_prefix_len-le}
use Rattle.std.proofs.lemmas.Bool.Decides.{Decides-eqb, eqb_tells}
use Rattle.std.proofs.lemmas.Bool.{false≢true}
use Rattle.std.proofs.lemmas.Slice.Eq.{slice_eq-Decides}
use Rattle.std.specs.Cmp.Lexicographic.{pointwise}
use Rattle.hack_journal.specs.Journal.{Edit}
use Rattle.hack_journal.specs.SafeFiles.{SomeEntryHasBytes}
use Rattle.hack_journal.specs.Recovery.{IsCut, IsCutText, IsOwn}
use Rattle.hack_journal.specs.Internal.{IsCutOf, IsOver, SomeEntryHas}

-- one more byte is shared
one_more : (x y : ℕ) (xs ys : List ℕ) → nat_eq x y ≡ true → common_prefix_len nat_eq (x ∷ xs) (y ∷ ys) ≡ suc (common_prefix_len nat_eq xs ys)
one_more x y xs ys t = ap (λ b. cond b (1 + common_prefix_len nat_eq xs ys) 0) t ∙ omega arith

-- what two texts share at their front is the same in both
shared : (xs ys : List ℕ) → take (common_prefix_len nat_eq xs ys) xs ≡ take (common_prefix_len nat_eq xs ys) ys
shared [] ys = refl
shared (x ∷ xs) [] = refl
shared (x ∷ xs) (y ∷ ys) = elim (eqb_tells x y) [
  | inl t ↦ subst (λ (k : ℕ). take k (x ∷ xs) ≡ take k (y ∷ ys)) (sym (one_more x y xs ys t.0))
      (ap (λ z. z ∷ take (common_prefix_len nat_eq xs ys) xs) t.1 ∙ ap (λ l. y ∷ l) (shared xs ys))
  | inr t ↦ rw t.0 refl
]

with_none : (xs : List ℕ) → common_prefix_len nat_eq xs [] ≡ 0
with_none [] = refl
with_none (x ∷ xs) = refl

-- nothing is shared behind the end of one
pub none_shared : (xs ys : List ℕ) (count all : ℕ) → length ys ≤ count → count + common_prefix_len nat_eq (drop count xs) (drop count ys) ≡ all → count ≡ all
none_shared xs ys count all ended is =
    let none : common_prefix_len nat_eq (drop count xs) (drop count ys) ≡ 0 = ap (common_prefix_len nat_eq (drop count xs)) (drop_all count ys ended) ∙ with_none (drop count xs) in
    omega (arith, none, is)

-- behind it the old bytes follow: the write was cut there, or before
cut_of : (new old now : List ℕ) → drop (common_prefix_len nat_eq new now) now ≡ drop (common_prefix_len nat_eq new now) old → IsCut new old now
cut_of new old now rest =
    let k = common_prefix_len nat_eq new now in
    (k, (common_prefix_len-le nat_eq new now).0, sym (take-append-drop k now) ∙ ap (λ l. l ++ drop k now) (sym (shared new now)) ∙ ap (λ l. take k new ++ l) rest)

tail : List ℕ → List ℕ
tail [] = []
tail (x ∷ xs) = xs

-- wherever a write was cut, the old bytes follow what is shared
of_cut : (new old now : List ℕ) (k : ℕ) → k ≤ length new → now ≡ take k new ++ drop k old → drop (common_prefix_len nat_eq new now) now ≡ drop (common_prefix_len nat_eq new now) old
unfolding tail
of_cut new old now zero le is = ap (drop (common_prefix_len nat_eq new now)) is
of_cut [] old now (suc k) le is = absurd (omega (arith, le))
of_cut (x ∷ xs) old [] (suc k) le is = cc
of_cut (x ∷ xs) [] (y ∷ ys) (suc k) le is = elim (eqb_tells x y) [
  | inl t ↦ subst (λ (n : ℕ). drop n (y ∷ ys) ≡ drop n []) (sym (one_more x y xs ys t.0))
      (of_cut xs [] ys k (omega (arith, le)) (ap tail is ∙ ap (λ l. take k xs ++ l) (sym (drop-nil k))) ∙ drop-nil (common_prefix_len nat_eq xs ys))
  | inr t ↦ let head : x ≡ y = cc in absurd (t.1 head)
]
of_cut (x ∷ xs) (z ∷ zs) (y ∷ ys) (suc k) le is = elim (eqb_tells x y) [
  | inl t ↦ subst (λ (n : ℕ). drop n (y ∷ ys) ≡ drop n (z ∷ zs)) (sym (one_more x y xs ys t.0)) (of_cut xs zs ys k (omega (arith, le)) (ap tail is))
  | inr t ↦ let head : x ≡ y = cc in absurd (t.1 head)
]

-- the test of it decides it
pub cut_by : (new old now xs ys : List ℕ) (count : ℕ) (b : Bool) → count ≡ common_prefix_len nat_eq new now → xs ≡ drop count now → ys ≡ drop count old → b ≡ pointwise nat_eq xs ys → (IsTrue b → IsCut new old now) × (IsCut new old now → IsTrue b)
cut_by new old now xs ys count b shares front rest test =
    let decides = slice_eq-Decides Decides-eqb xs ys b test in (
      λ t. cut_of new old now (rw (sym shares) (sym front ∙ decides.0 t ∙ rest)),
      λ cut. decides.1 (front ∙ rw shares (of_cut new old now cut.0 cut.1 cut.2) ∙ sym rest),
    )

-- P holds of bytes that an entry of the path has
some_has : (P : Option (List ℕ) → Type 0) (es : List Edit) (path : List ℕ) (bytes : Option (List ℕ)) → SomeEntryHasBytes es path bytes → P bytes → SomeEntryHas P es path
some_has P [] path bytes h p = absurd h
some_has P (e ∷ es) path bytes h p = elim h [
  | inl fit ↦ inl (fit.0, elim fit.1 [ inl is ↦ inl (subst P is p) | inr is ↦ inr (subst P is p) ])
  | inr more ↦ inr (some_has P es path bytes more p)
]

has_some : (P : Option (List ℕ) → Type 0) (es : List Edit) (path : List ℕ) → SomeEntryHas P es path → (bytes : Option (List ℕ)) × SomeEntryHasBytes es path bytes × P bytes
has_some P [] path h = absurd h
has_some P (e ∷ es) path h = elim h [
  | inl fit ↦ elim fit.1 [ inl p ↦ (e.held, inl (fit.0, inl refl), p) | inr p ↦ (e.wrote, inl (fit.0, inr refl), p) ]
  | inr more ↦ let x = has_some P es path more in (x.0, inr x.1, x.2)
]

cut_text : (es : List Edit) (path now : List ℕ) (new old : Option (List ℕ)) → SomeEntryHasBytes es path new → SomeEntryHasBytes es path old → IsCutOf new old now → IsCutText es path (Some now)
cut_text es path now None old a b cut = absurd cut
cut_text es path now (Some new) None a b cut = absurd cut
cut_text es path now (Some new) (Some old) a b cut = (new, old, now, a, b, refl, cut)

text_of_cut : (es : List Edit) (path now : List ℕ) → SomeEntryHas (IsOver es path now) es path → IsCutText es path (Some now)
unfolding IsOver
text_of_cut es path now h =
    let new = has_some (IsOver es path now) es path h in
    let old = has_some (λ old. IsCutOf new.0 old now) es path new.2 in
    cut_text es path now new.0 old.0 new.1 old.1 old.2

cut_of_text : (es : List Edit) (path now : List ℕ) → IsCutText es path (Some now) → SomeEntryHas (IsOver es path now) es path
unfolding IsOver
cut_of_text es path now h =
    let is : now ≡ h.2 = cc in
    some_has (IsOver es path now) es path (Some h.0) h.3
    (some_has (λ old. IsCutOf (Some h.0) old now) es path (Some h.1) h.4 (subst (IsCut h.0 h.1) (sym is) h.6))

-- bytes that no entry has are a call's own exactly where a write was cut
pub own_by : (es : List Edit) (path now : List ℕ) (bytes : Option (List ℕ)) (told b : Bool) → bytes ≡ Some now → (SomeEntryHasBytes es path bytes → IsTrue told) → told ≡ false → (IsTrue b → SomeEntryHas (IsOver es path now) es path) × (SomeEntryHas (IsOver es path now) es path → IsTrue b)
    → (IsTrue b → IsOwn es path bytes) × (IsOwn es path bytes → IsTrue b)
unfolding IsOwn
own_by es path now bytes told b is tells not test = (
  λ t. inr (subst (IsCutText es path) (sym is) (text_of_cut es path now (test.0 t))),
  λ own. elim own [ inl has ↦ absurd (false≢true (sym not ∙ tells has)) | inr cut ↦ test.1 (cut_of_text es path now (subst (IsCutText es path) is cut)) ],
)
