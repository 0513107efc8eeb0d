-- The journal is removed where nothing is to be put back.
use Rattle.std.proofs.Common.{◌≡◌, ◌<◌, ◌+◌, ◌^◌, inl, inr, ℕ, suc, List, [], ◌∷◌, ◌++◌, Option, Some, None, length, refl, sym, ◌∙◌, subst, ap, append-nil, arith, true, false, Bool, cond}
use Rattle.std.specs.Prelude.{All, IsTrue, IsSome, map, not, ◌↔◌}
use Rattle.std.proofs.Math.Path.{fun_ext}
use Rattle.std.proofs.lemmas.List.{length-append, map-append}
use Rattle.std.proofs.lemmas.List.Elements.{All-append, All-cons, All-head, All-nil, All-tail}
use Rattle.hack_files.specs.Files.{Change, Contents, KeepsAll, KeepsOthers, Makes, MakesOrNot, Trace, removes}
use Rattle.hack_journal.specs.Journal.{Edit, journal_text}
use Rattle.hack_journal.specs.Rows.{Spot, AreEach, IsFresh, IsNoteOf, KeepsBeside, RemovesOwn, file_at, is_of_journal}
use Rattle.hack_journal.specs.SafeFiles.{SomeEntryHasBytes, KeepFirst, IsJournaled, IsSafe, StaysSafe, Stays, AreBack, changes_besides, trace_besides, without}
use Rattle.hack_journal.specs.Strangers.{first_stranger}
use Rattle.hack_journal.specs.Internal.{IsAllBack, ShortensRow}
use Rattle.hack_files.specs.TraceLaws.{makes_more}
use Rattle.hack_journal.specs.SafeLaws.{fresh_less, note_text, safe_of, stay_append, stay_none}
use Rattle.hack_files.proofs.FilesLemmas.{makes_here, makes_others}
use Rattle.hack_journal.proofs.KnownLemmas.{known_left}
use Rattle.hack_journal.proofs.RowLemmas.{all_first, apart_from, each_along, each_less, file_differ, file_zero, fresh_changed, own_file}
use Rattle.hack_journal.proofs.SafeLemmas.{hides, keeps_left, stay_one}

pub all_same : (m n : Contents) → KeepsAll m n → n ≡ m
all_same m n h = fun_ext h

-- where the paths of all entries are back, each path holds what it held at first
told_first : (j : List ℕ) (o : Contents) (es more : List Edit) (m : Contents) (q : List ℕ) (x : Option (List ℕ)) → KeepFirst j o (es ++ more) → AreBack es m → SomeEntryHasBytes es q x → m q ≡ o q
told_first j o [] more m q x k all h = absurd h
told_first j o (e ∷ es) more m q x k all h = elim h [
  | inl fit ↦ subst (λ (r : List ℕ). m r ≡ o r) fit.0 (all.0 ∙ sym k.0)
  | inr told ↦ told_first j o es more m q x k.3 all.1 told
]

pub back_first : (s : Spot) (o : Contents) (es : List Edit) (m : Contents) → IsJournaled s o es m → AreBack es m → IsAllBack s.journal o m
back_first s o es m k all q out = elim (k.holds q out) [ inl same ↦ same | inr told ↦ told_first s.journal o es k.more m q (m q) k.keeps all told ]

-- the file that comes next was removed
removed_next : (s : Spot) (o : Contents) (es : List Edit) (t u : Trace) (m n : Contents) → length es < 2 ^ 64 → Makes (removes (file_at s.journal (length es)) ∷ []) t u m n → IsAllBack s.journal o m → IsJournaled s o es m → IsJournaled s o es n
removed_next s o es t u m n low makes same k =
    let j = s.journal in
    let here : n (file_at j (length es)) ≡ None = makes_here t u (removes (file_at j (length es))) m n makes in
    let others : KeepsOthers (file_at j (length es)) m n = makes_others t u (removes (file_at j (length es))) m n makes in
    record {
      more = [];
      each = each_along s m n 0 es (λ i least lt. others (file_at j i) (file_differ j i (length es) (omega (arith, lt, low)) low (omega (arith, lt)))) k.each;
      ends = inl (here, refl);
      fresh = fresh_changed j (suc (length es)) (length es) o m n (omega arith) others k.fresh;
      known = ap first_stranger (append-nil es) ∙ known_left es k.more k.known;
      keeps = subst (λ (l : List Edit). KeepFirst j o l) (sym (append-nil es)) (keeps_left j o es k.more k.keeps);
      holds = λ q out. inl (others q (apart_from j (length es) q out) ∙ same q out);
    }

-- the last entry is forgotten, whose file comes next
popped_here : (s : Spot) (o : Contents) (es : List Edit) (e : Edit) (n : Contents) → n (file_at s.journal (length (es ++ e ∷ []))) ≡ None → IsAllBack s.journal o n → IsJournaled s o (es ++ e ∷ []) n → IsJournaled s o es n
popped_here s o es e n none same k =
    let len : length (es ++ e ∷ []) ≡ suc (length es) = omega (arith, length-append es (e ∷ [])) in
    let gone : n (file_at s.journal (suc (length es))) ≡ None = subst (λ (i : ℕ). n (file_at s.journal i) ≡ None) len none in
    let less = each_less s n es e k.each in
    record {
      more = e ∷ [];
      each = less.0;
      ends = inr (note_text s.folder (n (file_at s.journal (length es))) e less.1, gone);
      fresh = fresh_less s.journal (suc (length es)) o n (subst (λ (i : ℕ). IsFresh s.journal (suc i) o n) len k.fresh) gone;
      known = known_left (es ++ e ∷ []) k.more k.known;
      keeps = keeps_left s.journal o (es ++ e ∷ []) k.more k.keeps;
      holds = λ q out. inl (same q out);
    }

popped : (s : Spot) (o : Contents) (fs es : List Edit) (e : Edit) (n : Contents) → fs ≡ es ++ e ∷ [] → n (file_at s.journal (length fs)) ≡ None → IsAllBack s.journal o n → IsJournaled s o fs n → IsJournaled s o es n
popped s o fs es e n is none same k =
    popped_here s o es e n (subst (λ (l : List Edit). n (file_at s.journal (length l)) ≡ None) is none) same (subst (λ (l : List Edit). IsJournaled s o l n) is k)

-- the removal failed
pub shorten_err : (s : Spot) (es : List Edit) (t u : Trace) (m n : Contents) → length es < 2 ^ 64 → MakesOrNot (removes (file_at s.journal (length es))) t u m n → ShortensRow s es es t u m n
shorten_err s es t u m n low makes o k same = elim makes [
  | inl none ↦ (stay_none (IsSafe s o) t u m n none (safe_of s o es m k), subst (λ (x : Contents). IsJournaled s o es x) (sym none.holds) k)
  | inr made ↦ let now = removed_next s o es t u m n low made same k in (stay_one (IsSafe s o) (removes (file_at s.journal (length es))) t u m n made (safe_of s o es m k) (safe_of s o es n now), now)
]

-- the last file was removed
pub shorten_last : (s : Spot) (es fs : List Edit) (t u : Trace) (m n : Contents) → length es < 2 ^ 64 → es ≡ fs → Makes (removes (file_at s.journal (length es)) ∷ []) t u m n → ShortensRow s es fs t u m n
shorten_last s es fs t u m n low is made = subst (λ (l : List Edit). ShortensRow s es l t u m n) is (shorten_err s es t u m n low (inr made))

-- a file was removed, and then the rest
pub shorten_more : (s : Spot) (es fs gs : List Edit) (e : Edit) (t u v : Trace) (m n w : Contents) → length es < 2 ^ 64 → es ≡ fs ++ e ∷ [] → Makes (removes (file_at s.journal (length es)) ∷ []) t u m n → ShortensRow s fs gs u v n w → ShortensRow s es gs t v m w
shorten_more s es fs gs e t u v m n w low is made rest o k same =
    let now = removed_next s o es t u m n low made same k in
    let here : n (file_at s.journal (length es)) ≡ None = makes_here t u (removes (file_at s.journal (length es))) m n made in
    let all : IsAllBack s.journal o n = λ q out. makes_others t u (removes (file_at s.journal (length es))) m n made q (apart_from s.journal (length es) q out) ∙ same q out in
    let one : StaysSafe s o t u m n = stay_one (IsSafe s o) (removes (file_at s.journal (length es))) t u m n made (safe_of s o es m k) (safe_of s o es n now) in
    let more = rest o (popped s o es fs e n is here all now) all in
    (stay_append (IsSafe s o) t u v m n w one more.0, more.1)

-- after two looks, the second of which found each path back, the row is removed, or that fails
pub finish_stays : (s : Spot) (es fs : List Edit) (t u v x : Trace) (k l m n : Contents) → Makes [] t u k l → Makes [] u v l m → AreBack es l → ShortensRow s es fs v x m n → Stays s es fs t x k n
finish_stays s es fs t u v x k l m n look again all shorten o h =
    let looks = makes_more [] [] t u v k l m look again in
    let there : IsJournaled s o es m = subst (λ (y : Contents). IsJournaled s o es y) (sym looks.holds) h in
    let back : AreBack es m = subst (λ (y : Contents). AreBack es y) (sym again.holds) all in
    let rest = shorten o there (back_first s o es m there back) in
    (stay_append (IsSafe s o) t v x k m n (stay_none (IsSafe s o) t v k m looks (safe_of s o es k h)) rest.0, rest.1)

pub none_of : (b : Bool) (x : Option (List ℕ)) → (IsTrue b ↔ IsSome x) → b ≡ false → x ≡ None
none_of b None h f = refl
none_of b (Some x) h f = let t : b ≡ true = h.1 refl in let y : true ≡ false = sym t ∙ f in cc

-- where no journal is there, nothing is noted
none_noted : (s : Spot) (m : Contents) (es : List Edit) → AreEach s m 0 es → m s.journal ≡ None → es ≡ []
none_noted s m [] h none = refl
none_noted s m (e ∷ es) h none =
    let n : IsNoteOf s.folder (m (file_at s.journal 0)) e = h.0 in
    let y : Some (journal_text (record e { path = n.path } ∷ [])) ≡ None = sym n.text ∙ ap m (file_zero s.journal) ∙ none in
    cc

-- then each path holds what it held at first
pub absent_first : (s : Spot) (o : Contents) (es : List Edit) (m n : Contents) → IsJournaled s o es m → m s.journal ≡ None → KeepsAll m n → KeepsAll o n
absent_first s o es m n k none same =
    let is = none_noted s m es k.each none in
    all_first s.journal (suc (length es)) o m n k.fresh
    (λ q out. same q ∙ elim (k.holds q out) [ inl at ↦ at | inr told ↦ absurd (subst (λ (l : List Edit). SomeEntryHasBytes l q (m q)) is told) ])
    (λ i lt. let first : i ≡ 0 = omega (arith, lt, ap length is) in same (file_at s.journal i) ∙ ap m (ap (file_at s.journal) first ∙ file_zero s.journal) ∙ none)
    (λ q own beside. same q)

-- the same once the row was removed
pub removed_first : (s : Spot) (o : Contents) (es : List Edit) (m n : Contents) → IsJournaled s o es m → AreBack es m → ((i : ℕ) → i < length es + 1 → n (file_at s.journal i) ≡ None) → KeepsBeside s.journal (length es + 1) m n → KeepsAll o n
removed_first s o es m n k all gone others =
    all_first s.journal (suc (length es)) o m n k.fresh
    (λ q out. others q (λ i lt. apart_from s.journal i q out) ∙ back_first s o es m k all q out)
    (λ i lt. gone i (omega (arith, lt)))
    (λ q own beside. others q (λ i lt. beside i (omega (arith, lt))))

-- ---- nothing but the journal's own files is removed

-- where nothing was changed
pub only_looked : (j : List ℕ) (t u : Trace) (m n : Contents) → Makes [] t u m n → RemovesOwn j t u m n
only_looked j t u m n made = record { paths = []; own = All-nil (λ (p : List ℕ). is_of_journal j p ≡ true); makes = made }

-- a file of the row was removed, or not
pub only_removed : (j path : List ℕ) (k : ℕ) (t u : Trace) (m n : Contents) → path ≡ file_at j k → MakesOrNot (removes path) t u m n → RemovesOwn j t u m n
only_removed j path k t u m n is (inl none) = only_looked j t u m n none
only_removed j path k t u m n is (inr made) = record { paths = path ∷ []; own = All-cons (λ (p : List ℕ). is_of_journal j p ≡ true) path [] (ap (is_of_journal j) is ∙ own_file j k) (All-nil (λ (p : List ℕ). is_of_journal j p ≡ true)); makes = made }

-- first the one, then the other
pub only_then : (j : List ℕ) (t u v : Trace) (m n w : Contents) → RemovesOwn j t u m n → RemovesOwn j u v n w → RemovesOwn j t v m w
only_then j t u v m n w first next = record {
  paths = first.paths ++ next.paths;
  own = All-append (λ (p : List ℕ). is_of_journal j p ≡ true) first.paths next.paths first.own next.own;
  makes = subst (λ (cs : List Change). Makes cs t v m w) (sym (map-append removes first.paths next.paths)) (makes_more (map removes first.paths) (map removes next.paths) t u v m n w first.makes next.makes);
}

none_besides : (j : List ℕ) (paths : List (List ℕ)) → All (λ path. is_of_journal j path ≡ true) paths → changes_besides j (map removes paths) ≡ []
none_besides j [] own = refl
none_besides j (p ∷ ps) own =
    let Own : List ℕ → Type 0 = λ (q : List ℕ). is_of_journal j q ≡ true in
    let rest = changes_besides j (map removes ps) in
    ap (λ (b : Bool). cond (not b) (removes p ∷ rest) rest) {y = true} (All-head Own p ps own) ∙ none_besides j ps (All-tail Own p ps own)

-- so nothing else is changed
pub only_besides : (j : List ℕ) (t u : Trace) (m n : Contents) → RemovesOwn j t u m n → Makes [] (trace_besides j t) (trace_besides j u) (without j m) (without j n)
only_besides j t u m n h = subst (λ (cs : List Change). Makes cs (trace_besides j t) (trace_besides j u) (without j m) (without j n)) (none_besides j h.paths h.own) (hides j (map removes h.paths) t u m n h.makes)
