-- What the laws of files with a journal are proved by.
use Rattle.std.proofs.Common.{◌≡◌, ◌≢◌, ◌+◌, inl, inr, ℕ, suc, zero, List, [], ◌∷◌, ◌++◌, Option, None, true, false, length, refl, sym, ◌∙◌, subst, ap, append_assoc, append-nil, arith, take}
use Rattle.std.specs.Str.{bytes_eq}
use Rattle.std.proofs.lemmas.Bool.{cases_Bool}
use Rattle.std.proofs.lemmas.Bool.Decides.{eqb_tells}
use Rattle.std.proofs.lemmas.Slice.Eq.{bytes_eq-Decides}
use Rattle.hack_files.specs.Files.{Change, Contents, Makes, Trace, after, after_change}
use Rattle.hack_files.specs.TraceLaws.{makes_more}
use Rattle.hack_journal.specs.Journal.{Edit}
use Rattle.hack_journal.specs.Rows.{Spot, AreEach, AreFirst, IsBeside, IsFresh, IsNoteOf, IsTextOf, file_at}
use Rattle.hack_journal.specs.Strangers.{first_stranger}
use Rattle.hack_journal.specs.SafeFiles.{AfterEachFront, KeepFirst, SomeEntryHasBytes, HoldFirstOr, IsSafe, IsJournaled, Stays}

pub tells_left : (es fs : List Edit) (p : List ℕ) (x : Option (List ℕ)) → SomeEntryHasBytes es p x → SomeEntryHasBytes (es ++ fs) p x
tells_left [] fs p x h = absurd h
tells_left (e ∷ es) fs p x (inl h) = inl h
tells_left (e ∷ es) fs p x (inr h) = inr (tells_left es fs p x h)

pub holds_left : (j : List ℕ) (o : Contents) (es fs : List Edit) (m : Contents) → HoldFirstOr SomeEntryHasBytes j o es m → HoldFirstOr SomeEntryHasBytes j o (es ++ fs) m
holds_left j o es fs m h q ne = elim (h q ne) [ inl same ↦ inl same | inr told ↦ inr (tells_left es fs q (m q) told) ]

-- ---- the row

pub note_text : (folder : List ℕ) (held : Option (List ℕ)) (e : Edit) → IsNoteOf folder held e → IsTextOf folder held (e ∷ [])
note_text folder held e n = record {
  raw = record e { path = n.path } ∷ [];
  paths = (n.utf8, tt);
  text = n.text;
  are = ap (λ (p : List ℕ). record e { path = p } ∷ []) n.leads;
}

-- files that hold one entry each, behind the first k
each_first : (s : Spot) (m : Contents) (k : ℕ) (xs es : List Edit) → AreFirst s m k xs → AreEach s m k es → AreFirst s m (k + length es) (xs ++ es)
each_first s m k xs [] f h = let i : k ≡ k + 0 = omega arith in subst (λ (l : List Edit). AreFirst s m (k + 0) l) (sym (append-nil xs)) (subst (λ (n : ℕ). AreFirst s m n xs) i f)
each_first s m k xs (e ∷ es) f h =
    let all : AreFirst s m (suc k + length es) ((xs ++ e ∷ []) ++ es) = each_first s m (suc k) (xs ++ e ∷ []) es (xs, e ∷ [], f, note_text s.folder (m (file_at s.journal k)) e h.0, refl) h.1 in
    let i : suc k + length es ≡ k + length (e ∷ es) = omega arith in
    subst (λ (n : ℕ). AreFirst s m n (xs ++ e ∷ es)) i (subst (λ (l : List Edit). AreFirst s m (suc k + length es) l) (append_assoc xs (e ∷ []) es) all)

pub each_row : (s : Spot) (m : Contents) (es : List Edit) → AreEach s m 0 es → AreFirst s m (length es) es
each_row s m es h = let i : 0 + length es ≡ length es = omega arith in subst (λ (n : ℕ). AreFirst s m n es) i (each_first s m 0 [] es refl h)

pub beside_more : (j : List ℕ) (k : ℕ) (q : List ℕ) → IsBeside j k q → q ≢ file_at j k → IsBeside j (suc k) q
beside_more j k q h ne i lt = elim (eqb_tells i k) [
  | inl t ↦ λ same. ne (same ∙ ap (file_at j) t.1)
  | inr t ↦ h i (omega (arith, t.1))
]

-- where the last of these files isn't there, it is one of the others
pub fresh_less : (j : List ℕ) (k : ℕ) (o m : Contents) → IsFresh j (suc k) o m → m (file_at j k) ≡ None → IsFresh j k o m
fresh_less j k o m h none = record {
  absent = λ i lt. h.absent i (omega arith);
  others = λ q own beside. elim (cases_Bool (bytes_eq q (file_at j k))) [
    | inl t ↦ let is = (bytes_eq-Decides q (file_at j k)).0 t in ap m is ∙ none ∙ sym (h.absent k (omega arith)) ∙ sym (ap o is)
    | inr f ↦ h.others q own (beside_more j k q beside (λ e. let y : true ≡ false = sym ((bytes_eq-Decides q (file_at j k)).1 e) ∙ f in cc))
  ];
}

pub safe_of : (s : Spot) (o : Contents) (es : List Edit) (m : Contents) → IsJournaled s o es m → IsSafe s o m
safe_of s o es m k = elim k.ends [
  | inl none ↦ record {
    entries = es;
    by = record {
      row = record { count = length es; files = each_row s m es k.each; ends = none.0 };
      fresh = fresh_less s.journal (length es) o m k.fresh none.0;
      known = ap first_stranger (sym (ap (λ (l : List Edit). es ++ l) none.1 ∙ append-nil es)) ∙ k.known;
      keeps = subst (λ (l : List Edit). KeepFirst s.journal o l) (ap (λ (l : List Edit). es ++ l) none.1 ∙ append-nil es) k.keeps;
      holds = k.holds;
    };
  }
  | inr last ↦ record {
    entries = es ++ k.more;
    by = record {
      row = record { count = suc (length es); files = (es, k.more, each_row s m es k.each, last.0, refl); ends = last.1 };
      fresh = k.fresh;
      known = k.known;
      keeps = k.keeps;
      holds = holds_left s.journal o es k.more m k.holds;
    };
  }
]

-- ---- changes

pub fronts_append : (xs ys : List Change) (P : Contents → Type 0) (m : Contents) → ((k : ℕ) → P (after (take k xs) m)) → ((k : ℕ) → P (after (take k ys) (after xs m))) → (k : ℕ) → P (after (take k (xs ++ ys)) m)
fronts_append [] ys P m f g k = g k
fronts_append (x ∷ xs) ys P m f g zero = f zero
fronts_append (x ∷ xs) ys P m f g (suc k) = fronts_append xs ys P (after_change x m) (λ j. f (suc j)) g k

pub fronts_none : (P : Contents → Type 0) (m : Contents) → P m → (k : ℕ) → P (after (take k []) m)
fronts_none P m h zero = h
fronts_none P m h (suc k) = h

pub stay_append : (P : Contents → Type 0) (t u v : Trace) (m n w : Contents) → AfterEachFront P t u m n → AfterEachFront P u v n w → AfterEachFront P t v m w
stay_append P t u v m n w f g = record {
  added = f.added ++ g.added;
  makes = makes_more f.added g.added t u v m n w f.makes g.makes;
  fronts = fronts_append f.added g.added P m f.fronts (λ k. subst (λ (x : Contents). P (after (take k g.added) x)) f.makes.holds (g.fronts k));
}

pub stay_none : (P : Contents → Type 0) (t u : Trace) (m n : Contents) → Makes [] t u m n → P m → AfterEachFront P t u m n
stay_none P t u m n h p = record { added = []; makes = h; fronts = fronts_none P m p }

-- nothing was changed
pub stays_none : (j : Spot) (es : List Edit) (t u : Trace) (m n : Contents) → Makes [] t u m n → Stays j es es t u m n
stays_none j es t u m n h o k = (stay_none (IsSafe j o) t u m n h (safe_of j o es m k), subst (λ (x : Contents). IsJournaled j o es x) (sym h.holds) k)

pub stays_more : (j : Spot) (es fs gs : List Edit) (t u v : Trace) (m n w : Contents) → Stays j es fs t u m n → Stays j fs gs u v n w → Stays j es gs t v m w
stays_more j es fs gs t u v m n w f g o k = let a = f o k in let b = g o a.1 in (stay_append (IsSafe j o) t u v m n w a.0 b.0, b.1)

-- several changes, one after another, where the paths of the two journals are equal
pub stays_join : (i j : Spot) (es fs gs : List Edit) (t u v : Trace) (m n w : Contents) → i ≡ j → Stays i es fs t u m n → Stays j fs gs u v n w → Stays i es gs t v m w
stays_join i j es fs gs t u v m n w e f g = stays_more i es fs gs t u v m n w f (subst (λ (x : Spot). Stays x fs gs u v n w) (sym e) g)
