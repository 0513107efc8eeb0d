-- The files of a row, and what they hold after a change.
use Rattle.std.proofs.Common.{◌≡◌, ◌≢◌, ◌⊎◌, ◌+◌, ◌<◌, ◌≤◌, ◌^◌, inl, inr, ℕ, zero, suc, List, [], ◌∷◌, ◌++◌, Option, Some, None, true, false, cond, length, codes, refl, sym, ◌∙◌, subst, ap, append-nil, arith}
use Rattle.std.specs.Prelude.{IsTrue}
use Rattle.std.specs.Fmt.{decimal}
use Rattle.std.specs.Str.{bytes_eq}
use Rattle.std.proofs.lemmas.Bool.{cases_Bool, cases_lt}
use Rattle.std.proofs.lemmas.Bool.Decides.{Decides-eqb, eqb_tells}
use Rattle.std.proofs.lemmas.Fmt.{decimal_injective}
use Rattle.std.proofs.lemmas.List.{append_cancel_left}
use Rattle.std.proofs.lemmas.Slice.Eq.{bytes_eq-Decides, starts_is}
use Rattle.hack_files.specs.Files.{Contents, KeepsAll, KeepsOthers}
use Rattle.hack_journal.specs.Journal.{Edit, journal_text}
use Rattle.hack_journal.specs.Rows.{Spot, AreEach, AreFirst, IsBeside, IsFresh, IsNoteOf, IsRowOf, IsRowRead, IsTextOf, file_at, is_of_journal}
use Rattle.hack_journal.specs.SafeLaws.{beside_more}

pub file_zero : (j : List ℕ) → file_at j 0 ≡ j
unfolding file_at
file_zero j = refl

pub file_later : (j : List ℕ) (k : ℕ) → k ≢ 0 → file_at j k ≡ j ++ (codes "~" ++ decimal k)
unfolding file_at
file_later j k ne = elim (eqb_tells k 0) [ inl t ↦ absurd (ne t.1) | inr t ↦ ap (λ b. cond b j (j ++ (codes "~" ++ decimal k))) t.0 ]

-- the path of each file begins with the journal's
begun : (j : List ℕ) (k : ℕ) → (rest : List ℕ) × (file_at j k ≡ j ++ rest)
begun j k = elim (eqb_tells k 0) [
  | inl t ↦ ([], ap (file_at j) t.1 ∙ file_zero j ∙ sym (append-nil j))
  | inr t ↦ (codes "~" ++ decimal k, file_later j k t.1)
]

pub own_file : (j : List ℕ) (k : ℕ) → is_of_journal j (file_at j k) ≡ true
unfolding is_of_journal
own_file j k = let b = begun j k in (starts_is Decides-eqb (file_at j k) j _ refl).1 b.0 b.1

-- a path that isn't set aside for the journal is that of no file of the row
pub apart_from : (j : List ℕ) (k : ℕ) (q : List ℕ) → is_of_journal j q ≡ false → q ≢ file_at j k
apart_from j k q out e = let t : is_of_journal j q ≡ true = ap (is_of_journal j) e ∙ own_file j k in let y : true ≡ false = sym t ∙ out in cc

first_longer : (j : List ℕ) (k : ℕ) → k ≢ 0 → j ≢ file_at j k
first_longer j k ne e =
    let is : j ≡ j ++ (codes "~" ++ decimal k) = e ∙ file_later j k ne in
    let tail : [] ≡ codes "~" ++ decimal k = append_cancel_left j [] (codes "~" ++ decimal k) (append-nil j ∙ is) in
    cc

-- two files have two paths
pub file_differ : (j : List ℕ) (i k : ℕ) → i < 2 ^ 64 → k < 2 ^ 64 → i ≢ k → file_at j i ≢ file_at j k
file_differ j i k low high ne e = elim (eqb_tells i 0) [
  | inl t ↦ elim (eqb_tells k 0) [
    | inl u ↦ ne (t.1 ∙ sym u.1)
    | inr u ↦ first_longer j k u.1 (sym (file_zero j) ∙ ap (file_at j) (sym t.1) ∙ e)
  ]
  | inr t ↦ elim (eqb_tells k 0) [
    | inl u ↦ first_longer j i t.1 (sym (file_zero j) ∙ ap (file_at j) (sym u.1) ∙ sym e)
    | inr u ↦
        let both : codes "~" ++ decimal i ≡ codes "~" ++ decimal k = append_cancel_left j (codes "~" ++ decimal i) (codes "~" ++ decimal k) (sym (file_later j i t.1) ∙ e ∙ file_later j k u.1) in
        ne (decimal_injective i k low high (append_cancel_left (codes "~") (decimal i) (decimal k) both))
  ]
]

-- ---- the row holds the same where its files do

pub first_along : (s : Spot) (m n : Contents) (c : ℕ) (es : List Edit) → ((k : ℕ) → k < c → n (file_at s.journal k) ≡ m (file_at s.journal k)) → AreFirst s m c es → AreFirst s n c es
first_along s m n zero es same h = h
first_along s m n (suc c) es same h =
    (h.0, h.1, first_along s m n c h.0 (λ k lt. same k (omega arith)) h.2, subst (λ (x : Option (List ℕ)). IsTextOf s.folder x h.1) (sym (same c (omega arith))) h.3, h.4)

pub each_along : (s : Spot) (m n : Contents) (k : ℕ) (es : List Edit) → ((i : ℕ) → k ≤ i → i < k + length es → n (file_at s.journal i) ≡ m (file_at s.journal i)) → AreEach s m k es → AreEach s n k es
each_along s m n k [] same h = tt
each_along s m n k (e ∷ es) same h =
    (subst (λ (x : Option (List ℕ)). IsNoteOf s.folder x e) (sym (same k (omega arith) (omega arith))) h.0, each_along s m n (suc k) es (λ i low high. same i (omega arith) (omega arith)) h.1)

-- one file more, and one file less
each_more_from : (s : Spot) (m : Contents) (k : ℕ) (es : List Edit) (e : Edit) → AreEach s m k es → IsNoteOf s.folder (m (file_at s.journal (k + length es))) e → AreEach s m k (es ++ e ∷ [])
each_more_from s m k [] e h last = let i : k + 0 ≡ k = omega arith in (subst (λ (n : ℕ). IsNoteOf s.folder (m (file_at s.journal n)) e) i last, tt)
each_more_from s m k (x ∷ es) e h last = let i : k + length (x ∷ es) ≡ suc k + length es = omega arith in
    (h.0, each_more_from s m (suc k) es e h.1 (subst (λ (n : ℕ). IsNoteOf s.folder (m (file_at s.journal n)) e) i last))

pub each_more : (s : Spot) (m : Contents) (es : List Edit) (e : Edit) → AreEach s m 0 es → IsNoteOf s.folder (m (file_at s.journal (length es))) e → AreEach s m 0 (es ++ e ∷ [])
each_more s m es e h last = let i : length es ≡ 0 + length es = omega arith in each_more_from s m 0 es e h (subst (λ (n : ℕ). IsNoteOf s.folder (m (file_at s.journal n)) e) i last)

each_less_from : (s : Spot) (m : Contents) (k : ℕ) (es : List Edit) (e : Edit) → AreEach s m k (es ++ e ∷ []) → AreEach s m k es × IsNoteOf s.folder (m (file_at s.journal (k + length es))) e
each_less_from s m k [] e h = let i : k ≡ k + 0 = omega arith in (tt, subst (λ (n : ℕ). IsNoteOf s.folder (m (file_at s.journal n)) e) i h.0)
each_less_from s m k (x ∷ es) e h =
    let rest = each_less_from s m (suc k) es e h.1 in
    let i : suc k + length es ≡ k + length (x ∷ es) = omega arith in
    ((h.0, rest.0), subst (λ (n : ℕ). IsNoteOf s.folder (m (file_at s.journal n)) e) i rest.1)

pub each_less : (s : Spot) (m : Contents) (es : List Edit) (e : Edit) → AreEach s m 0 (es ++ e ∷ []) → AreEach s m 0 es × IsNoteOf s.folder (m (file_at s.journal (length es))) e
each_less s m es e h = let r = each_less_from s m 0 es e h in let i : 0 + length es ≡ length es = omega arith in (r.0, subst (λ (n : ℕ). IsNoteOf s.folder (m (file_at s.journal n)) e) i r.1)

-- ---- a row that was read

-- each of the first files is there
pub first_there : (s : Spot) (m : Contents) (c : ℕ) (es : List Edit) (k : ℕ) → k < c → AreFirst s m c es → (ys : List Edit) × IsTextOf s.folder (m (file_at s.journal k)) ys
first_there s m zero es k lt h = absurd (omega arith)
first_there s m (suc c) es k lt h = elim (eqb_tells k c) [
  | inl t ↦ (h.1, subst (λ (n : ℕ). IsTextOf s.folder (m (file_at s.journal n)) h.1) (sym t.1) h.3)
  | inr t ↦ first_there s m c h.0 k (omega (arith, t.1)) h.2
]

pub there_not_none : (s : Spot) (m : Contents) (c : ℕ) (es : List Edit) (k : ℕ) → k < c → AreFirst s m c es → m (file_at s.journal k) ≢ None
there_not_none s m c es k lt h none =
    let t = first_there s m c es k lt h in
    let y : Some (journal_text t.1.raw) ≡ None = sym t.1.text ∙ none in cc

-- a row ends at the first file that isn't there
pub same_count : (s : Spot) (m : Contents) (c d : ℕ) (es fs : List Edit) → AreFirst s m c es → m (file_at s.journal c) ≡ None → AreFirst s m d fs → m (file_at s.journal d) ≡ None → d ≡ c
same_count s m c d es fs f g h k = elim (cases_lt d c) [
  | inl low ↦ absurd (there_not_none s m c es d low f k)
  | inr high ↦ elim (cases_lt c d) [
    | inl low ↦ absurd (there_not_none s m d fs c low h g)
    | inr least ↦ omega (arith, high, least)
  ]
]

pub row_of : (s : Spot) (m : Contents) (c : ℕ) (es : List Edit) → IsRowRead s m c es → IsRowOf s m es
row_of s m c es h = record { count = c; files = h.files.files; ends = h.ends }

-- the entries that were read are those that the row holds
pub row_only : (s : Spot) (m : Contents) (c : ℕ) (es fs : List Edit) → IsRowRead s m c es → (r : IsRowOf s m fs) → (r.count ≡ c) × (es ≡ fs)
row_only s m c es fs h r =
    let is = same_count s m c r.count es fs h.files.files h.ends r.files r.ends in
    (is, h.files.only fs (subst (λ (n : ℕ). AreFirst s m n fs) is r.files))

-- a row is the same where its files hold the same
abbrev pub row_along : (s : Spot) (m n : Contents) (es : List Edit) → ((k : ℕ) → n (file_at s.journal k) ≡ m (file_at s.journal k)) → IsRowOf s m es → IsRowOf s n es
row_along s m n es same r = record { count = r.count; files = first_along s m n r.count es (λ k lt. same k) r.files; ends = same r.count ∙ r.ends }

-- ---- what was not there at first

-- whether a path is one of the first files'
pub beside_or : (j : List ℕ) (k : ℕ) (q : List ℕ) → ((i : ℕ) × (i < k) × (q ≡ file_at j i)) ⊎ IsBeside j k q
beside_or j zero q = inr (λ i lt. absurd (omega arith))
beside_or j (suc k) q = elim (beside_or j k q) [
  | inl found ↦ inl (found.0, omega (arith, found.1), found.2)
  | inr beside ↦ elim (cases_Bool (bytes_eq q (file_at j k))) [
    | inl t ↦ inl (k, omega arith, (bytes_eq-Decides q (file_at j k)).0 t)
    | inr f ↦ inr (beside_more j k q beside (λ e. let y : true ≡ false = sym ((bytes_eq-Decides q (file_at j k)).1 e) ∙ f in cc))
  ]
]

-- one of the files alone was changed
pub fresh_changed : (j : List ℕ) (k i : ℕ) (o m n : Contents) → i < k → KeepsOthers (file_at j i) m n → IsFresh j k o m → IsFresh j k o n
fresh_changed j k i o m n lt same h = record { absent = h.absent; others = λ q own beside. same q (beside i lt) ∙ h.others q own beside }

-- none of the paths that are set aside was changed
pub fresh_apart : (j : List ℕ) (k : ℕ) (o m n : Contents) → ((q : List ℕ) → IsTrue (is_of_journal j q) → n q ≡ m q) → IsFresh j k o m → IsFresh j k o n
fresh_apart j k o m n same h = record { absent = h.absent; others = λ q own beside. same q own ∙ h.others q own beside }

-- where the file behind them isn't there, it wasn't there at first
pub fresh_more : (j : List ℕ) (k : ℕ) (o m : Contents) → k < 2 ^ 64 → IsFresh j k o m → m (file_at j k) ≡ None → IsFresh j (suc k) o m
fresh_more j k o m low h none = record {
  absent = λ i lt. elim (eqb_tells i k) [
    | inl t ↦ ap (λ n. o (file_at j n)) t.1 ∙ sym (h.others (file_at j k) (own_file j k) (λ i2 lt2. file_differ j k i2 low (omega (arith, lt2)) (omega (arith, lt2)))) ∙ none
    | inr t ↦ h.absent i (omega (arith, t.1))
  ];
  others = λ q own beside. h.others q own (λ i lt. beside i (omega arith));
}

-- each path holds what it held at first, once the row is gone
pub all_first : (j : List ℕ) (k : ℕ) (o m n : Contents) → IsFresh j k o m → ((q : List ℕ) → is_of_journal j q ≡ false → n q ≡ o q) → ((i : ℕ) → i < k → n (file_at j i) ≡ None) → ((q : List ℕ) → is_of_journal j q ≡ true → IsBeside j k q → n q ≡ m q) → KeepsAll o n
all_first j k o m n h same gone others q = elim (cases_Bool (is_of_journal j q)) [
  | inr out ↦ same q out
  | inl own ↦ elim (beside_or j k q) [
    | inl found ↦ ap n found.2 ∙ gone found.0 found.1 ∙ sym (h.absent found.0 found.1) ∙ sym (ap o found.2)
    | inr beside ↦ others q own beside ∙ h.others q own beside
  ]
]

-- before the first edit nothing is there, and nothing was there at first
pub nothing_yet : (j : List ℕ) (o : Contents) → o j ≡ None → IsFresh j 1 o o
nothing_yet j o none = record {
  absent = λ i lt. let first : i ≡ 0 = omega (arith, lt) in ap o (ap (file_at j) first ∙ file_zero j) ∙ none;
  others = λ q own beside. refl;
}
