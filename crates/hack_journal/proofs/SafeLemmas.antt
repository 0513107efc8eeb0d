-- The journal keeps what a path held, before the path is changed.
use Rattle.std.proofs.Common.{◌≡◌, ◌≢◌, ◌⊎◌, ◌<◌, ◌^◌, length, arith, ◌+◌, add-one, inl, inr, ℕ, zero, suc, take, List, [], ◌∷◌, ◌++◌, Option, Some, None, refl, sym, ◌∙◌, subst, ap, append-nil, true, Result, Ok, Err, OnOk, OnErr, false, cond}
use Rattle.std.specs.Prelude.{Bool, not}
use Rattle.std.specs.List.{filter}
use Rattle.std.specs.Str.{bytes_eq, IsUtf8}
use Rattle.std.proofs.Math.Path.{fun_ext}
use Rattle.std.proofs.lemmas.Slice.Eq.{bytes_eq-Decides}
use Rattle.std.proofs.lemmas.Bool.{cases_Bool}
use Rattle.std.proofs.lemmas.Option.{same_Some}
use Rattle.std.proofs.lemmas.List.{length-append}
use Rattle.std.proofs.lemmas.List.Elements.{filter-append}
use Rattle.hack_files.specs.Files.{Change, ComesNext, Contents, KeepsAll, KeepsOthers, Makes, MakesOrNot, Trace, after, after_change, by_kind, in_order, puts}
use Rattle.hack_journal.specs.Journal.{Edit}
use Rattle.hack_journal.specs.Rows.{Spot, IsFresh, IsNoteOf, IsTextOf, file_at, is_of_journal}
use Rattle.hack_journal.specs.SafeFiles.{gives, SomeEntryHasBytes, first_entry_of, AfterEachFront, KeepFirst, HoldFirstOr, IsSafe, IsJournaled, Stays, changes_besides, trace_besides, without}
use Rattle.hack_journal.specs.Strangers.{first_stranger, is_edit_of_manifest}
use Rattle.hack_journal.specs.Internal.{Hidden, IsHeld, IsNotable}
use Rattle.hack_files.specs.TraceLaws.{makes_more}
use Rattle.hack_journal.specs.SafeLaws.{holds_left, note_text, safe_of, fronts_none, stays_more, stays_none}
use Rattle.hack_files.proofs.FilesLemmas.{makes_here, makes_others, changed_other}
use Rattle.hack_journal.proofs.KnownLemmas.{known_left, known_more}
use Rattle.hack_journal.proofs.RowLemmas.{apart_from, each_along, each_more, file_differ, fresh_apart, fresh_changed, fresh_more, file_zero, nothing_yet, own_file}

-- the first entry of a path has what it held at first; without one, no entry has bytes of the path
abbrev pub First : Contents → List Edit → List ℕ → Option Edit → Type 0
First o es p None = (x : Option (List ℕ)) → ¬ SomeEntryHasBytes es p x
First o es p (Some e) = o p ≡ e.held

first_more : (o : Contents) (e : Edit) (es : List Edit) (p : List ℕ) (f : Option Edit) → e.path ≢ p → First o es p f → First o (e ∷ es) p f
first_more o e es p None ne h = λ x told. elim told [ inl fit ↦ ne fit.0 | inr told ↦ h x told ]
first_more o e es p (Some f) ne h = h

pub first_keeps : (j : List ℕ) (o : Contents) (es more : List Edit) (p : List ℕ) → KeepFirst j o (es ++ more) → First o es p (first_entry_of es p)
first_keeps j o [] more p k = λ x h. h
first_keeps j o (e ∷ es) more p k = elim (cases_Bool (bytes_eq e.path p)) [
  | inl t ↦ rw t (subst (λ (q : List ℕ). o q ≡ e.held) ((bytes_eq-Decides e.path p).0 t) k.0)
  | inr f ↦ rw f (first_more o e es p (first_entry_of es p) (λ same. let t : bytes_eq e.path p ≡ true = (bytes_eq-Decides e.path p).1 same in let x : true ≡ false = sym t ∙ f in cc) (first_keeps j o es more p k.3))
]

held_keeps : (j : List ℕ) (o : Contents) (es : List Edit) (p : List ℕ) (f : Option Edit) (m : Contents) (held : Option (List ℕ)) → is_of_journal j p ≡ false → First o es p f → HoldFirstOr SomeEntryHasBytes j o es m → IsHeld f (m p) held → o p ≡ held
held_keeps j o es p None m held out none holds is = elim (holds p out) [ inl same ↦ sym same ∙ is | inr told ↦ absurd (none (m p) told) ]
held_keeps j o es p (Some e) m held out first holds is = first ∙ is

pub keeps_more : (j : List ℕ) (o : Contents) (es more : List Edit) (e : Edit) → KeepFirst j o (es ++ more) → o e.path ≡ e.held → is_of_journal j e.path ≡ false → IsUtf8 e.path → KeepFirst j o (es ++ e ∷ [])
keeps_more j o [] more e k held ne text = (held, ne, text, tt)
keeps_more j o (x ∷ es) more e k held ne text = (k.0, k.1, k.2, keeps_more j o es more e k.3 held ne text)

pub tells_last : (es : List Edit) (e : Edit) → SomeEntryHasBytes (es ++ e ∷ []) e.path e.wrote
tells_last [] e = inl (refl, inr refl)
tells_last (x ∷ es) e = inr (tells_last es e)

-- a property of the files before and after one change is one of each front of it
pub fronts_one : (P : Contents → Type 0) (c : Change) (m : Contents) → P m → P (after_change c m) → (k : ℕ) → P (after (take k (c ∷ [])) m)
fronts_one P c m h g zero = h
fronts_one P c m h g (suc k) = fronts_none P (after_change c m) g k

-- one change
pub stay_one : (P : Contents → Type 0) (c : Change) (t u : Trace) (m n : Contents) → Makes (c ∷ []) t u m n → P m → P n → AfterEachFront P t u m n
stay_one P c t u m n h a b = record { added = c ∷ []; makes = h; fronts = fronts_one P c m a (subst P h.holds b) }

-- where P holds, so does Q
pub stay_wider : {P Q : Contents → Type 0} (t u : Trace) (m n : Contents) → ((x : Contents) → P x → Q x) → AfterEachFront P t u m n → AfterEachFront Q t u m n
stay_wider t u m n wider f = record { added = f.added; makes = f.makes; fronts = λ k. wider (after (take k f.added) m) (f.fronts k) }

pub keeps_left : (j : List ℕ) (o : Contents) (es more : List Edit) → KeepFirst j o (es ++ more) → KeepFirst j o es
keeps_left j o [] more k = tt
keeps_left j o (x ∷ es) more k = (k.0, k.1, k.2, keeps_left j o es more k.3)

-- what is known before the next file is written: its text keeps the entry, and no file follows it
pub record IsReady (s : Spot) (es : List Edit) (m : Contents) (text : List ℕ) (e : Edit) : Type 0 where
  pub notable : IsNotable s.journal es m e
  pub utf8 : IsUtf8 e.path
  pub note : IsNoteOf s.folder (Some text) e
  pub absent : m (file_at s.journal (suc (length es))) ≡ None
  pub low : suc (length es) < 2 ^ 64

-- the next file was written: the files are journaled, with one entry more in the row
written : (s : Spot) (o : Contents) (es : List Edit) (text : List ℕ) (e : Edit) (t u : Trace) (m n : Contents) → IsReady s es m text e → Makes (puts (file_at s.journal (length es)) text ∷ []) t u m n → IsJournaled s o es m → IsJournaled s o es n
written s o es text e t u m n r makes k =
    let j = s.journal in
    let here : n (file_at j (length es)) ≡ Some text = makes_here t u (puts (file_at j (length es)) text) m n makes in
    let others : KeepsOthers (file_at j (length es)) m n = makes_others t u (puts (file_at j (length es)) text) m n makes in
    let low : suc (length es) < 2 ^ 64 = r.low in
    record {
      more = e ∷ [];
      each = each_along s m n 0 es (λ i least lt. others (file_at j i) (file_differ j i (length es) (omega (arith, lt, low)) (omega (arith, low)) (omega (arith, lt)))) k.each;
      ends = inr (
        note_text s.folder (n (file_at j (length es))) e (subst (λ (x : Option (List ℕ)). IsNoteOf s.folder x e) (sym here) r.note),
        others (file_at j (suc (length es))) (file_differ j (suc (length es)) (length es) low (omega (arith, low)) (omega arith)) ∙ r.absent,
      );
      fresh = fresh_changed j (suc (length es)) (length es) o m n (omega arith) others k.fresh;
      known = known_more es e (known_left es k.more k.known) r.notable.known;
      keeps = keeps_more j o es k.more e k.keeps (held_keeps j o es e.path (first_entry_of es e.path) m e.held r.notable.apart (first_keeps j o es k.more e.path k.keeps) k.holds r.notable.held) r.notable.apart r.utf8;
      holds = λ q out. let same = others q (apart_from j (length es) q out) in
          elim (k.holds q out) [ inl is ↦ inl (same ∙ is) | inr told ↦ inr (subst (SomeEntryHasBytes es q) (sym same) told) ];
    }

-- the entry that only the row has is taken into memory
moved : (s : Spot) (o : Contents) (es : List Edit) (e : Edit) (n : Contents) → suc (length es) < 2 ^ 64 → IsNoteOf s.folder (n (file_at s.journal (length es))) e → n (file_at s.journal (suc (length es))) ≡ None → (k : IsJournaled s o es n) → k.more ≡ e ∷ [] → IsJournaled s o (es ++ e ∷ []) n
moved s o es e n low note none k is =
    let len : suc (length es) ≡ length (es ++ e ∷ []) = omega (arith, length-append es (e ∷ [])) in
    record {
      more = [];
      each = each_more s n es e k.each note;
      ends = inl (subst (λ (i : ℕ). n (file_at s.journal i) ≡ None) len none, refl);
      fresh = subst (λ (i : ℕ). IsFresh s.journal (suc i) o n) len (fresh_more s.journal (suc (length es)) o n low k.fresh none);
      known = ap first_stranger (append-nil (es ++ e ∷ []) ∙ sym (ap (λ (l : List Edit). es ++ l) is)) ∙ k.known;
      keeps = subst (λ (l : List Edit). KeepFirst s.journal o l) (ap (λ (l : List Edit). es ++ l) is ∙ sym (append-nil (es ++ e ∷ []))) k.keeps;
      holds = holds_left s.journal o es (e ∷ []) n k.holds;
    }

pub made_here : (s : Spot) (es : List Edit) (text : List ℕ) (e : Edit) (t u : Trace) (m n : Contents) → IsReady s es m text e → Makes (puts (file_at s.journal (length es)) text ∷ []) t u m n → Stays s es es t u m n
made_here s es text e t u m n r makes o k =
    let now = written s o es text e t u m n r makes k in
    (stay_one (IsSafe s o) (puts (file_at s.journal (length es)) text) t u m n makes (safe_of s o es m k) (safe_of s o es n now), now)

pub noted_here : (s : Spot) (es : List Edit) (text : List ℕ) (e : Edit) (t u : Trace) (m n : Contents) → IsReady s es m text e → Makes (puts (file_at s.journal (length es)) text ∷ []) t u m n → Stays s es (es ++ e ∷ []) t u m n
unfolding written
noted_here s es text e t u m n r makes o k =
    let now = written s o es text e t u m n r makes k in
    let low : suc (length es) < 2 ^ 64 = r.low in
    let here : n (file_at s.journal (length es)) ≡ Some text = makes_here t u (puts (file_at s.journal (length es)) text) m n makes in
    let none : n (file_at s.journal (suc (length es))) ≡ None = makes_others t u (puts (file_at s.journal (length es)) text) m n makes (file_at s.journal (suc (length es))) (file_differ s.journal (suc (length es)) (length es) low (omega (arith, low)) (omega arith)) ∙ r.absent in (
      stay_one (IsSafe s o) (puts (file_at s.journal (length es)) text) t u m n makes (safe_of s o es m k) (safe_of s o es n now),
      moved s o es e n low (subst (λ (x : Option (List ℕ)). IsNoteOf s.folder x e) (sym here) r.note) none now refl,
    )

pub made_or_not : (s : Spot) (es : List Edit) (text : List ℕ) (e : Edit) (t u : Trace) (m n : Contents) → IsReady s es m text e → MakesOrNot (puts (file_at s.journal (length es)) text) t u m n → Stays s es es t u m n
made_or_not s es text e t u m n r makes = elim makes [ inl none ↦ stays_none s es t u m n none | inr made ↦ made_here s es text e t u m n r made ]

-- after looks that changed nothing
pub ready_of : (s : Spot) (es : List Edit) (l m : Contents) (text : List ℕ) (e : Edit) → m ≡ l → IsNotable s.journal es l e → IsUtf8 e.path → IsNoteOf s.folder (Some text) e → l (file_at s.journal (length es + 1)) ≡ None → length es + 1 < 2 ^ 64 → IsReady s es m text e
ready_of s es l m text e is notable utf8 note absent low = record {
  notable = subst (λ (x : Contents). IsNotable s.journal es x e) (sym is) notable;
  utf8 = utf8;
  note = note;
  absent = subst (λ (x : Contents). x (file_at s.journal (suc (length es))) ≡ None) (sym is) (subst (λ (i : ℕ). l (file_at s.journal i) ≡ None) (add-one (length es)) absent);
  low = omega (arith, low);
}

-- after a look the next file was written, or not
pub append_made : (s : Spot) (es : List Edit) (e : Edit) (p text : List ℕ) (t u v : Trace) (l m n : Contents) → p ≡ file_at s.journal (length es) → Makes [] t u l m → IsReady s es m text e → MakesOrNot (puts p text) u v m n → Stays s es es t v l n
append_made s es e p text t u v l m n is look r makes =
    stays_more s es es es t u v l m n (stays_none s es t u l m look) (made_or_not s es text e u v m n r (subst (λ (q : List ℕ). MakesOrNot (puts q text) u v m n) is makes))

pub append_noted : (s : Spot) (es fs : List Edit) (e : Edit) (p text : List ℕ) (t u v : Trace) (l m n : Contents) → fs ≡ es ++ e ∷ [] → p ≡ file_at s.journal (length es) → Makes [] t u l m → IsReady s es m text e → Makes (puts p text ∷ []) u v m n → Stays s es fs t v l n
append_noted s es fs e p text t u v l m n added is look r makes =
    subst (λ (x : List Edit). Stays s es x t v l n) (sym added)
    (stays_more s es es (es ++ e ∷ []) t u v l m n (stays_none s es t u l m look) (noted_here s es text e u v m n r (subst (λ (q : List ℕ). Makes (puts q text ∷ []) u v m n) is makes)))

told_end : (es fs : List Edit) (e : Edit) (p : List ℕ) (x : Option (List ℕ)) → fs ≡ es ++ e ∷ [] → e.path ≡ p → e.wrote ≡ x → SomeEntryHasBytes fs p x
told_end es fs e p x is path wrote = subst (λ (l : List Edit). SomeEntryHasBytes l p x) (sym is) (subst (λ (q : List ℕ). SomeEntryHasBytes (es ++ e ∷ []) q x) path (subst (λ (y : Option (List ℕ)). SomeEntryHasBytes (es ++ e ∷ []) e.path y) wrote (tells_last es e)))

pub told_ok : {A E : Type 0} (r : Result A E) (es fs : List Edit) (e : Edit) (p : List ℕ) (x : Option (List ℕ)) → OnOk r (fs ≡ es ++ e ∷ []) → e.path ≡ p → e.wrote ≡ x → OnOk r (SomeEntryHasBytes fs p x)
told_ok (Ok a) es fs e p x is path wrote = told_end es fs e p x is path wrote
told_ok (Err a) es fs e p x is path wrote = tt

-- a path is changed to bytes that an entry of it has
pub put_stays : (s : Spot) (es : List Edit) (p : List ℕ) (x : Option (List ℕ)) (t u : Trace) (m n : Contents) → is_of_journal s.journal p ≡ false → SomeEntryHasBytes es p x → Makes (gives p x ∷ []) t u m n → Stays s es es t u m n
put_stays s es p x t u m n out told makes o k =
    let here = makes_here t u (gives p x) m n makes in
    let others : KeepsOthers p m n = makes_others t u (gives p x) m n makes in
    let own : (q : List ℕ) → is_of_journal s.journal q ≡ true → n q ≡ m q = λ q is. others q (λ e. let y : true ≡ false = sym is ∙ ap (is_of_journal s.journal) e ∙ out in cc) in
    let file : (i : ℕ) → n (file_at s.journal i) ≡ m (file_at s.journal i) = λ i. own (file_at s.journal i) (own_file s.journal i) in
    let now : IsJournaled s o es n = record {
      more = k.more;
      each = each_along s m n 0 es (λ i least lt. file i) k.each;
      ends = elim k.ends [
        | inl none ↦ inl (file (length es) ∙ none.0, none.1)
        | inr last ↦ inr (subst (λ (y : Option (List ℕ)). IsTextOf s.folder y k.more) (sym (file (length es))) last.0, file (suc (length es)) ∙ last.1)
      ];
      fresh = fresh_apart s.journal (suc (length es)) o m n own k.fresh;
      known = k.known;
      keeps = k.keeps;
      holds = λ q other. elim (cases_Bool (bytes_eq p q)) [
        | inl t ↦ let is = (bytes_eq-Decides p q).0 t in inr (subst (λ (r : List ℕ). SomeEntryHasBytes es r (n r)) is (subst (SomeEntryHasBytes es p) (sym here) told))
        | inr f ↦ let same = others q (λ e. let y : true ≡ false = sym ((bytes_eq-Decides p q).1 (sym e)) ∙ f in cc) in
            elim (k.holds q other) [ inl is ↦ inl (same ∙ is) | inr told ↦ inr (subst (SomeEntryHasBytes es q) (sym same) told) ]
      ];
    } in
    (stay_one (IsSafe s o) (gives p x) t u m n makes (safe_of s o es m k) (safe_of s o es n now), now)

pub put_or_not_stays : (s : Spot) (es : List Edit) (p : List ℕ) (x : Option (List ℕ)) (t u : Trace) (m n : Contents) → is_of_journal s.journal p ≡ false → SomeEntryHasBytes es p x → MakesOrNot (gives p x) t u m n → Stays s es es t u m n
put_or_not_stays s es p x t u m n out told makes = elim makes [ inl none ↦ stays_none s es t u m n none | inr made ↦ put_stays s es p x t u m n out told made ]

-- a path is given what it holds
same_after : (c : Change) (m : Contents) → m c.path ≡ c.bytes → after_change c m ≡ m
same_after c m held = fun_ext λ q. elim (cases_Bool (bytes_eq c.path q)) [
  | inl t ↦ rw t (sym held ∙ ap m ((bytes_eq-Decides c.path q).0 t))
  | inr f ↦ rw f refl
]

put_same_stays : (s : Spot) (es : List Edit) (p : List ℕ) (x : Option (List ℕ)) (t u : Trace) (m n : Contents) → m p ≡ x → Makes (gives p x ∷ []) t u m n → Stays s es es t u m n
put_same_stays s es p x t u m n held makes o k =
    let is : m ≡ n = sym (makes.holds ∙ same_after (gives p x) m held) in
    (stay_one (IsSafe s o) (gives p x) t u m n makes (safe_of s o es m k) (subst (IsSafe s o) is (safe_of s o es m k)), subst (IsJournaled s o es) is k)

pub same_or_not_stays : (s : Spot) (es : List Edit) (p : List ℕ) (x : Option (List ℕ)) (t u : Trace) (m n : Contents) → m p ≡ x → MakesOrNot (gives p x) t u m n → Stays s es es t u m n
same_or_not_stays s es p x t u m n held makes = elim makes [ inl none ↦ stays_none s es t u m n none | inr made ↦ put_same_stays s es p x t u m n held made ]

-- the first entry of a path has what this held at first
first_has : (es : List Edit) (p : List ℕ) (e : Edit) → first_entry_of es p ≡ Some e → SomeEntryHasBytes es p e.held
first_has [] p e is = absurd (cc)
first_has (x ∷ es) p e is = elim (cases_Bool (bytes_eq x.path p)) [
  | inl t ↦ let same : x ≡ e = same_Some x e (sym (ap (λ b. cond b (Some x) (first_entry_of es p)) t) ∙ is) in
      inl ((bytes_eq-Decides x.path p).0 t, inl (ap (λ (f : Edit). f.held) (sym same)))
  | inr f ↦ inr (first_has es p e (sym (ap (λ b. cond b (Some x) (first_entry_of es p)) f) ∙ is))
]

-- a path that held these bytes at first has an entry of them, or holds them now
pub held_told : (es : List Edit) (p : List ℕ) (now held x : Option (List ℕ)) → IsHeld (first_entry_of es p) now held → held ≡ x → SomeEntryHasBytes es p x ⊎ (now ≡ x)
held_told es p now held x is same = go (first_entry_of es p) refl is
  where
    go : (o : Option Edit) → first_entry_of es p ≡ o → IsHeld o now held → SomeEntryHasBytes es p x ⊎ (now ≡ x)
    go None none h = inr (h ∙ same)
    go (Some e) some h = inl (subst (SomeEntryHasBytes es p) (h ∙ same) (first_has es p e some))

-- ---- the changes besides the journal's, and the paths without it

but_append : (j : List ℕ) (xs ys : List Change) → changes_besides j (xs ++ ys) ≡ changes_besides j xs ++ changes_besides j ys
but_append j = filter-append (λ c. not (is_of_journal j c.path))

-- of some of the changes those besides the journal's
but_some : (j : List ℕ) (p : Change → Bool) (cs : List Change) → changes_besides j (filter p cs) ≡ filter p (changes_besides j cs)
but_some j p [] = refl
but_some j p (c ∷ cs) = elim (cases_Bool (p c)) [
  | inl y ↦ elim (cases_Bool (is_of_journal j c.path)) [ inl own ↦ rw (y, own) (but_some j p cs) | inr out ↦ rw (y, out, y) (ap (λ l. c ∷ l) (but_some j p cs)) ]
  | inr n ↦ elim (cases_Bool (is_of_journal j c.path)) [ inl own ↦ rw (n, own) (but_some j p cs) | inr out ↦ rw (n, out, n) (but_some j p cs) ]
]

but_next : (j : List ℕ) (cs : List Change) (t u : Trace) → ComesNext cs t u → ComesNext (changes_besides j cs) (trace_besides j t) (trace_besides j u)
but_next j cs (in_order t) (in_order u) h = ap (changes_besides j) h ∙ but_append j t cs
but_next j cs (by_kind is a b) (by_kind was c d) h = (
  h.0,
  subst (λ (l : List Change). ComesNext l (trace_besides j a) (trace_besides j c)) (but_some j (λ x. is x.path) cs) (but_next j (filter (λ x. is x.path) cs) a c h.1),
  subst (λ (l : List Change). ComesNext l (trace_besides j b) (trace_besides j d)) (but_some j (λ x. not (is x.path)) cs) (but_next j (filter (λ x. not (is x.path)) cs) b d h.2),
)
but_next j cs (in_order t) (by_kind was c d) h = absurd h
but_next j cs (by_kind is a b) (in_order u) h = absurd h

-- two paths of which one is set aside for the journal
two_paths : (j p q : List ℕ) → is_of_journal j p ≡ true → is_of_journal j q ≡ false → q ≢ p
two_paths j p q t f e = let y : true ≡ false = sym t ∙ sym (ap (is_of_journal j) e) ∙ f in cc

without_in : (j : List ℕ) (c : Change) (m : Contents) → is_of_journal j c.path ≡ true → without j (after_change c m) ≡ without j m
without_in j c m t = fun_ext λ q. elim (cases_Bool (is_of_journal j q)) [
  | inl is ↦ rw is refl
  | inr f ↦ rw f (changed_other c m q (two_paths j c.path q t f))
]

without_out : (j : List ℕ) (c : Change) (m : Contents) → is_of_journal j c.path ≡ false → without j (after_change c m) ≡ after_change c (without j m)
without_out j c m out = fun_ext λ q. elim (cases_Bool (is_of_journal j q)) [
  | inl is ↦ let differ : q ≢ c.path = λ e. two_paths j q c.path is out (sym e) in
      let none : without j m q ≡ None = ap (λ b. cond b None (m q)) is in
      ap (λ b. cond b None (after_change c m q)) is ∙ sym none ∙ sym (changed_other c (without j m) q differ)
  | inr f ↦ rw f refl
]

without_after : (j : List ℕ) (cs : List Change) (m : Contents) → without j (after cs m) ≡ after (changes_besides j cs) (without j m)
without_after j [] m = refl
without_after j (c ∷ cs) m = elim (cases_Bool (is_of_journal j c.path)) [
  | inl t ↦ without_after j cs (after_change c m) ∙ ap (after (changes_besides j cs)) (without_in j c m t) ∙ sym (ap (λ b. after (cond (not b) (c ∷ changes_besides j cs) (changes_besides j cs)) (without j m)) t)
  | inr f ↦ without_after j cs (after_change c m) ∙ ap (after (changes_besides j cs)) (without_out j c m f) ∙ sym (ap (λ b. after (cond (not b) (c ∷ changes_besides j cs) (changes_besides j cs)) (without j m)) f)
]

pub without_all : (j : List ℕ) (m n : Contents) → KeepsAll m n → KeepsAll (without j m) (without j n)
without_all j m n same q = ap (λ x. cond (is_of_journal j q) None x) (same q)

-- nothing but the journal is changed
pub without_same : (j : List ℕ) (m n : Contents) → ((q : List ℕ) → is_of_journal j q ≡ false → n q ≡ m q) → without j n ≡ without j m
without_same j m n same = fun_ext λ q. elim (cases_Bool (is_of_journal j q)) [ inl is ↦ rw is refl | inr f ↦ rw f (same q f) ]

pub without_file : (j : List ℕ) (k : ℕ) (m n : Contents) → KeepsOthers (file_at j k) m n → KeepsAll (without j m) (without j n)
without_file j k m n same q = ap (λ f. f q) (without_same j m n (λ p out. same p (apart_from j k p out)))

pub without_at : (j : List ℕ) (m : Contents) (q : List ℕ) → is_of_journal j q ≡ false → without j m q ≡ m q
without_at j m q out = ap (λ b. cond b None (m q)) out

pub hides : (j : List ℕ) (cs : List Change) (t u : Trace) (m n : Contents) → Makes cs t u m n → Makes (changes_besides j cs) (trace_besides j t) (trace_besides j u) (without j m) (without j n)
hides j cs t u m n h = record { traced = but_next j cs t u h.traced; holds = ap (without j) h.holds ∙ without_after j cs m }

but_one : (j p : List ℕ) (x : Option (List ℕ)) (cs : List Change) → is_of_journal j p ≡ false → changes_besides j cs ≡ [] → changes_besides j (cs ++ gives p x ∷ []) ≡ gives p x ∷ []
but_one j p x cs ne none = but_append j cs (gives p x ∷ []) ∙ ap (λ l. l ++ changes_besides j (gives p x ∷ [])) none ∙ ap (λ b. cond (not b) (gives p x ∷ []) []) ne

pub hidden_put : (j p : List ℕ) (x : Option (List ℕ)) (s t u : Trace) (l m n : Contents) → is_of_journal j p ≡ false → Hidden j s t l m → Makes (gives p x ∷ []) t u m n → Makes (gives p x ∷ []) (trace_besides j s) (trace_besides j u) (without j l) (without j n)
hidden_put j p x s t u l m n ne h makes =
    subst (λ (cs : List Change). Makes cs (trace_besides j s) (trace_besides j u) (without j l) (without j n)) (but_one j p x h.added ne h.journals)
    (hides j (h.added ++ gives p x ∷ []) s u l n (makes_more h.added (gives p x ∷ []) s t u l m n h.makes makes))

pub hidden_alone : (j : List ℕ) (s t : Trace) (l m : Contents) → Hidden j s t l m → Makes [] (trace_besides j s) (trace_besides j t) (without j l) (without j m)
hidden_alone j s t l m h = subst (λ (cs : List Change). Makes cs (trace_besides j s) (trace_besides j t) (without j l) (without j m)) h.journals (hides j h.added s t l m h.makes)

pub hidden_or_not : (j p : List ℕ) (x : Option (List ℕ)) (s t u : Trace) (l m n : Contents) → is_of_journal j p ≡ false → Hidden j s t l m → MakesOrNot (gives p x) t u m n → MakesOrNot (gives p x) (trace_besides j s) (trace_besides j u) (without j l) (without j n)
hidden_or_not j p x s t u l m n ne h makes = elim makes [
  | inl none ↦ inl (subst (λ (cs : List Change). Makes cs (trace_besides j s) (trace_besides j u) (without j l) (without j n)) (ap (changes_besides j) (append-nil h.added) ∙ h.journals)
      (hides j (h.added ++ []) s u l n (makes_more h.added [] s t u l m n h.makes none)))
  | inr made ↦ inr (hidden_put j p x s t u l m n ne h made)
]

-- a file of the row was changed
pub hidden_file : (j : List ℕ) (k : ℕ) (x : Option (List ℕ)) (s t u : Trace) (l m n : Contents) → Makes [] s t l m → Makes (gives (file_at j k) x ∷ []) t u m n → Hidden j s u l n
hidden_file j k x s t u l m n look makes = record {
  added = gives (file_at j k) x ∷ [];
  makes = makes_more [] (gives (file_at j k) x ∷ []) s t u l m n look makes;
  journals = ap (λ b. cond (not b) (gives (file_at j k) x ∷ []) []) (own_file j k);
}

pub hidden_none : (j : List ℕ) (s t : Trace) (l m : Contents) → Makes [] s t l m → Hidden j s t l m
hidden_none j s t l m look = record { added = []; makes = look; journals = refl }

pub hidden_then : (j : List ℕ) (s t u : Trace) (l m n : Contents) → Makes [] s t l m → Hidden j t u m n → Hidden j s u l n
hidden_then j s t u l m n look h = record { added = h.added; makes = makes_more [] h.added s t u l m n look h.makes; journals = h.journals }

pub hidden_file_or_not : (j : List ℕ) (k : ℕ) (x : Option (List ℕ)) (s t u : Trace) (l m n : Contents) → Makes [] s t l m → MakesOrNot (gives (file_at j k) x) t u m n → Hidden j s u l n
hidden_file_or_not j k x s t u l m n look makes = elim makes [
  | inl none ↦ hidden_none j s u l n (makes_more [] [] s t u l m n look none)
  | inr made ↦ hidden_file j k x s t u l m n look made
]

pub append_hidden : (j p text : List ℕ) (k : ℕ) (t u v : Trace) (l m n : Contents) → p ≡ file_at j k → Makes [] t u l m → MakesOrNot (puts p text) u v m n → Hidden j t v l n
append_hidden j p text k t u v l m n is look makes = hidden_file_or_not j k (Some text) t u v l m n look (subst (λ (q : List ℕ). MakesOrNot (puts q text) u v m n) is makes)

pub append_others : (j p : List ℕ) (k : ℕ) (l m n : Contents) → p ≡ file_at j k → KeepsAll l m → KeepsOthers p m n → KeepsAll (without j l) (without j n)
append_others j p k l m n is look others q = without_file j k m n (subst (λ (r : List ℕ). KeepsOthers r m n) is others) q ∙ without_all j l m look q

-- a change was made or not, whatever the call returns
pub at_either : {A E W : Type 0} (r : Result A E) (c : Change) (t u : Trace) (m n : Contents) → OnOk r (W → Makes (c ∷ []) t u m n) → OnErr r (W → MakesOrNot c t u m n) → W → MakesOrNot c t u m n
at_either (Ok x) c t u m n ok err w = inr (ok w)
at_either (Err x) c t u m n ok err w = err w

-- before the first edit
pub journaled_begun : (s : Spot) (o : Contents) → o s.journal ≡ None → IsJournaled s o [] o
journaled_begun s o none = record {
  more = [];
  each = tt;
  ends = inl (ap o (file_zero s.journal) ∙ none, refl);
  fresh = nothing_yet s.journal o none;
  known = refl;
  keeps = tt;
  holds = λ q out. inl refl;
}

-- an entry that was made after looks that changed nothing
pub notable_of : (j : List ℕ) (es : List Edit) (l m : Contents) (e : Edit) (p : List ℕ) → e.path ≡ p → m ≡ l → is_of_journal j p ≡ false → is_edit_of_manifest e ≡ true → IsHeld (first_entry_of es p) (l p) e.held → IsNotable j es m e
notable_of j es l m e p path same out known held = record {
  apart = ap (is_of_journal j) path ∙ out;
  known = known;
  held = subst (λ (x : Contents). IsHeld (first_entry_of es e.path) (x e.path) e.held) (sym same) (subst (λ (q : List ℕ). IsHeld (first_entry_of es q) (l q) e.held) (sym path) held);
}

pub spot_same : (f g j k : List ℕ) → f ≡ g → j ≡ k → ◌≡◌ {A = Spot} (record { folder = f; journal = j }) (record { folder = g; journal = k })
spot_same f g j k a b = rw (a, b) refl
