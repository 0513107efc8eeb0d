-- What a journal keeps is put back.
use Rattle.std.proofs.Common.{◌≡◌, ◌≢◌, ◌⊎◌, ◌<◌, ◌+◌, inl, inr, ℕ, suc, List, [], ◌∷◌, ◌++◌, Option, Some, None, refl, sym, ◌∙◌, subst, ap, append-nil, append_assoc, add-one, length, true, Result, Ok, Err, OnOk, IfOk, IfErr, false, cond, arith}
use Rattle.std.specs.Prelude.{IsSome, string_bytes}
use Rattle.std.specs.Str.{bytes_eq}
use Rattle.std.proofs.Math.Path.{fun_ext}
use Rattle.std.proofs.Math.Seq.{take-length}
use Rattle.std.proofs.lemmas.Slice.Eq.{bytes_eq-Decides}
use Rattle.std.proofs.lemmas.Bool.{cases_Bool, cases_lt, false≢true}
use Rattle.std.proofs.lemmas.Bool.Decides.{eqb_tells}
use Rattle.hack_files.specs.Files.{Change, Contents, KeepsAll, KeepsOthers, Makes, MakesOrNot, Trace, after, after_change}
use Rattle.hack_files.specs.declared.fs.Files.{Ghosts as Filing}
use Rattle.hack_files.specs.declared.fs.FsFault.{FsFault}
use Rattle.hack_files.specs.declared.fs.FsFault.TheVariants as fs
use Rattle.hack_journal.specs.Journal.{Edit, journal_text, HaveTextPaths}
use Rattle.hack_journal.specs.Rows.{Spot, AreFirst, AreRead, IsFresh, IsRowOf, IsRowRead, KeepsBeside, file_at, is_of_journal, placed}
use Rattle.hack_journal.specs.SafeFiles.{gives, SomeEntryHasBytes, KeepFirst, AfterEachFront, IsKept, IsKeptBy, IsSafe, StaysSafe, AreBack, first_entry_of}
use Rattle.hack_journal.specs.CutFiles.{IsSafeOrCut}
use Rattle.hack_journal.specs.FailedCalls.{FailsOnlySo}
use Rattle.hack_journal.specs.Recovery.{HasEntry, AgreesOnHeld, AreOfCall, AreTold, AreChanged, Restored, IsNoJournal, IsReached, IsWhy, IsWhyUnread, IsJournalRefusal, IsOwn, NamesPath, IsJournalOrItsEntry}
use Rattle.hack_journal.specs.Internal.{AddsChanged, AddsIfOther, HoldsNoText, IsRead, IsReadMore, IsWhyNotTold, IsWhyTorn, NamesNoJournal, Nears, PutsBack, PutsBackOrSafe, IsFileOrEntry, backs}
use Rattle.hack_journal.specs.declared.recover.RecoverFault.{RecoverFault}
use Rattle.hack_journal.specs.declared.recover.RecoverFault.TheVariants.{Memory, NotJournal, Changed, Files}
use Rattle.hack_files.specs.TraceLaws.{makes_more, makes_none}
use Rattle.hack_journal.specs.SafeLaws.{stay_none, stay_append}
use Rattle.hack_files.proofs.FilesLemmas.{changed_other}
use Rattle.hack_journal.proofs.FinishLemmas.{all_same}
use Rattle.hack_journal.proofs.RowLemmas.{all_first, apart_from, file_zero, first_along, first_there, fresh_apart, own_file, row_of, row_only, there_not_none}
use Rattle.hack_journal.proofs.SafeLemmas.{stay_one, stay_wider, First, first_keeps}

-- ---- reading

-- a text that was read as entries holds those from the folder, and no others
pub read_of : (folder : List ℕ) (held : Option (List ℕ)) (text : List ℕ) (raw : List Edit) → HaveTextPaths raw → held ≡ Some text → text ≡ journal_text raw → ((fs : List Edit) → HaveTextPaths fs → text ≡ journal_text fs → raw ≡ fs) → IsRead folder held (placed folder raw)
read_of folder held text raw paths is found only = record {
  text = record { raw = raw; paths = paths; text = is ∙ ap Some found; are = refl };
  only = λ fs t.
      let same : Some text ≡ Some (journal_text t.raw) = sym is ∙ t.text in
      let one : text ≡ journal_text t.raw = cc in
      ap (placed folder) (only t.raw t.paths one) ∙ t.are;
}

-- one file more was read
pub read_more : (s : Spot) (m : Contents) (k : ℕ) (es fs : List Edit) → AreRead s m k es → IsReadMore s.folder (m (file_at s.journal k)) es fs → AreRead s m (suc k) fs
read_more s m k es fs h more = record {
  files = (es, more.es, h.files, more.read.text, more.added);
  only = λ gs g. more.added ∙ ap (λ (l : List Edit). l ++ more.es) (h.only g.0 g.2) ∙ ap (λ (l : List Edit). g.0 ++ l) (more.read.only g.1 g.3) ∙ sym g.4;
}

-- the same, where the row was looked at since
pub read_more_at : (s : Spot) (m n : Contents) (k : ℕ) (es fs : List Edit) → KeepsAll m n → AreRead s m k es → IsReadMore s.folder (n (file_at s.journal k)) es fs → AreRead s m (k + 1) fs
read_more_at s m n k es fs same h more =
    subst (λ (i : ℕ). AreRead s m i fs) (sym (add-one k)) (read_more s m k es fs h (subst (λ (x : Option (List ℕ)). IsReadMore s.folder x es fs) (same (file_at s.journal k)) more))

some_of : (x : Option (List ℕ)) → IsSome x → (text : List ℕ) × (x ≡ Some text)
some_of None h = absurd (false≢true h)
some_of (Some x) h = (x, refl)

some_is : (x : Option (List ℕ)) → x ≢ None → IsSome x
some_is None h = absurd (h refl)
some_is (Some x) h = refl

-- each file before this one is there
pub reached : (s : Spot) (m : Contents) (c : ℕ) (es : List Edit) → AreFirst s m c es → (i : ℕ) → i < c → IsSome (m (file_at s.journal i))
reached s m c es h i lt = some_is (m (file_at s.journal i)) (there_not_none s m c es i lt h)

-- so is the journal's own
journal_there : (s : Spot) (m : Contents) (k : ℕ) (es : List Edit) → AreFirst s m k es → IsSome (m (file_at s.journal k)) → (text : List ℕ) × (m s.journal ≡ Some text)
journal_there s m k es h some = elim (eqb_tells k 0) [
  | inl t ↦ let x = some_of (m (file_at s.journal k)) some in (x.0, ap m (sym (ap (file_at s.journal) t.1 ∙ file_zero s.journal)) ∙ x.1)
  | inr t ↦ let x = some_of (m (file_at s.journal 0)) (reached s m k es h 0 (omega (arith, t.1))) in (x.0, ap m (sym (file_zero s.journal)) ∙ x.1)
]

-- a row with a file that holds no text of entries is that of no call
no_row : (s : Spot) (m : Contents) (k : ℕ) (es : List Edit) → AreFirst s m k es → HoldsNoText s k m → IsNoJournal s m
no_row s m k es h torn =
    let there = journal_there s m k es h torn.0 in (
      there.0,
      there.1,
      λ fs call row. elim (cases_lt k row.count) [
        | inl lt ↦ let t = first_there s m row.count fs k lt row.files in torn.1 t.0 t.1
        | inr le ↦ elim (eqb_tells row.count k) [
          | inl t ↦ let x = some_of (m (file_at s.journal k)) torn.0 in let y : Some x.0 ≡ None = sym x.1 ∙ ap (λ i. m (file_at s.journal i)) (sym t.1) ∙ row.ends in cc
          | inr t ↦ there_not_none s m k es row.count (omega (arith, le, t.1)) h row.ends
        ]
      ],
    )

-- nor is one whose entries aren't as a call writes them
pub no_call : (s : Spot) (m : Contents) (c : ℕ) (es : List Edit) → c ≢ 0 → IsRowRead s m c es → ¬ AreOfCall s.journal es es → IsNoJournal s m
no_call s m c es some h not =
    let x = some_of (m (file_at s.journal 0)) (reached s m c es h.files.files 0 (omega (arith, some))) in (
      x.0,
      ap m (sym (file_zero s.journal)) ∙ x.1,
      λ fs call row.
          let is = (row_only s m c es fs h row).1 in
          not (subst (λ (l : List Edit). AreOfCall s.journal l l) (sym is) call),
    )

-- ---- putting back

-- a path is given what it held at first
nears_one : (j : List ℕ) (o : Contents) (p : List ℕ) (x : Option (List ℕ)) (m : Contents) → o p ≡ x → is_of_journal j p ≡ false → Nears j o m (after_change (gives p x) m)
nears_one j o p x m held out q = elim (cases_Bool (bytes_eq p q)) [
  | inl t ↦ let is = (bytes_eq-Decides p q).0 t in inr (ap (is_of_journal j) (sym is) ∙ out, ap (λ b. cond b x (m q)) t ∙ sym held ∙ ap o is)
  | inr f ↦ inl (ap (λ b. cond b x (m q)) f)
]

pub puts_or_not : (j : List ℕ) (o : Contents) (p : List ℕ) (x : Option (List ℕ)) (t u : Trace) (m n : Contents) → MakesOrNot (gives p x) t u m n → o p ≡ x → is_of_journal j p ≡ false → PutsBack j o t u m n
puts_or_not j o p x t u m n makes held out = elim makes [
  | inl none ↦ stay_none (Nears j o m) t u m n none (λ q. inl refl)
  | inr made ↦ stay_one (Nears j o m) (gives p x) t u m n made (λ q. inl refl) (subst (Nears j o m) (sym made.holds) (nears_one j o p x m held out))
]

pub puts_nothing : (j : List ℕ) (o : Contents) (t : Trace) (m : Contents) → PutsBack j o t t m m
puts_nothing j o t m = stay_none (Nears j o m) t t m m (makes_none t m) (λ q. inl refl)

nears_then : (j : List ℕ) (o m n w : Contents) → Nears j o m n → Nears j o n w → Nears j o m w
nears_then j o m n w f g q = elim (g q) [
  | inl same ↦ elim (f q) [ inl is ↦ inl (same ∙ is) | inr back ↦ inr (back.0, same ∙ back.1) ]
  | inr back ↦ inr back
]

-- what holds after every front holds at the end
pub at_end : (P : Contents → Type 0) (t u : Trace) (m n : Contents) → AfterEachFront P t u m n → P n
at_end P t u m n f = subst P (sym f.makes.holds) (subst (λ (cs : List Change). P (after cs m)) (take-length f.added) (f.fronts (length f.added)))

-- several steps, one after another
pub puts_then : (j : List ℕ) (o : Contents) (t u v : Trace) (m n w : Contents) → PutsBack j o t u m n → PutsBack j o u v n w → PutsBack j o t v m w
puts_then j o t u v m n w f g =
    stay_append (Nears j o m) t u v m n w f (stay_wider u v n w (λ x. nears_then j o m n x (at_end (Nears j o m) t u m n f)) g)

pub puts_safe : (s : Spot) (o : Contents) (t u : Trace) (m n : Contents) → PutsBack s.journal o t u m n → PutsBackOrSafe s o t u m n
puts_safe s o t u m n = stay_wider t u m n (λ x near. inl near)

-- and then the row is removed
pub puts_then_safe : (s : Spot) (o : Contents) (t u v : Trace) (m n w : Contents) → PutsBack s.journal o t u m n → StaysSafe s o u v n w → PutsBackOrSafe s o t v m w
puts_then_safe s o t u v m n w f g =
    stay_append (λ x. Nears s.journal o m x ⊎ IsSafe s o x) t u v m n w (puts_safe s o t u m n f) (stay_wider u v n w (λ x safe. inr safe) g)

-- after a look that changed nothing
look_then_puts : (s : Spot) (o : Contents) (t u v : Trace) (m n w : Contents) → Makes [] t u m n → PutsBackOrSafe s o u v n w → PutsBackOrSafe s o t v m w
look_then_puts s o t u v m n w look g =
    let P : Contents → Contents → Type 0 = λ y x. Nears s.journal o y x ⊎ IsSafe s o x in
    stay_append (P m) t u v m n w (stay_none (P m) t u m n look (inl (λ q. inl refl))) (subst (λ (y : Contents). AfterEachFront (P y) u v n w) look.holds g)

-- ---- files where a write may have been cut

pub has_of : (es : List Edit) (q : List ℕ) (x : Option (List ℕ)) → SomeEntryHasBytes es q x → HasEntry es q
has_of [] q x h = absurd h
has_of (e ∷ es) q x h = elim h [ inl fit ↦ inl fit.0 | inr told ↦ inr (has_of es q x told) ]

has_own : (es : List Edit) (q : List ℕ) (x : Option (List ℕ)) → IsOwn es q x → HasEntry es q
unfolding IsOwn
has_own es q x h = elim h [ inl told ↦ has_of es q x told | inr cut ↦ has_of es q (Some cut.0) cut.3 ]

pub own_told : (es : List Edit) (q : List ℕ) (x : Option (List ℕ)) → SomeEntryHasBytes es q x → IsOwn es q x
unfolding IsOwn
own_told es q x h = inl h

-- safe files are so too where a write may have been cut
pub safe_cut : (s : Spot) (o m : Contents) → IsSafe s o m → IsSafeOrCut s o m
safe_cut s o m h = record {
  entries = h.entries;
  by = record {
    row = h.by.row;
    fresh = h.by.fresh;
    known = h.by.known;
    keeps = h.by.keeps;
    holds = λ q out. elim (h.by.holds q out) [ inl same ↦ inl same | inr told ↦ inr (own_told h.entries q (m q) told) ];
  };
}

-- what is put back leaves the row
nears_own : (j : List ℕ) (o m n : Contents) → Nears j o m n → (q : List ℕ) → is_of_journal j q ≡ true → n q ≡ m q
nears_own j o m n h q own = elim (h q) [ inl same ↦ same | inr back ↦ absurd (false≢true (sym back.0 ∙ own)) ]

nears_kept : {Left : List Edit → List ℕ → Option (List ℕ) → Type 0} (s : Spot) (o m n : Contents) → Nears s.journal o m n → IsKept Left s o m → IsKept Left s o n
nears_kept {Left = Left} s o m n near h =
    let own = nears_own s.journal o m n near in
    let row = h.by.row in
    let file : (i : ℕ) → n (file_at s.journal i) ≡ m (file_at s.journal i) = λ i. own (file_at s.journal i) (own_file s.journal i) in
    record {
      entries = h.entries;
      by = record {
        row = record { count = row.count; files = first_along s m n row.count h.entries (λ i lt. file i) row.files; ends = file row.count ∙ row.ends };
        fresh = fresh_apart s.journal row.count o m n own h.by.fresh;
        known = h.by.known;
        keeps = h.by.keeps;
        holds = λ q out. elim (near q) [
          | inl same ↦ elim (h.by.holds q out) [ inl is ↦ inl (same ∙ is) | inr left ↦ inr (subst (Left h.entries q) (sym same) left) ]
          | inr back ↦ inl back.1
        ];
      };
    }

-- from kept files, where safe ones are kept too
pub puts_stay : {Left : List Edit → List ℕ → Option (List ℕ) → Type 0} (s : Spot) (o : Contents) (t u : Trace) (m n : Contents) → ((x : Contents) → IsSafe s o x → IsKept Left s o x) → IsKept Left s o m → PutsBackOrSafe s o t u m n → AfterEachFront (IsKept Left s o) t u m n
puts_stay s o t u m n kept h = stay_wider t u m n (λ x f. elim f [ inl near ↦ nears_kept s o m x near h | inr safe ↦ kept x safe ])

pub after_along : (cs : List Change) (m n w : Contents) → KeepsAll m n → KeepsAll (after cs n) w → KeepsAll (after cs m) w
after_along cs m n w h k = subst (λ (f : Contents). KeepsAll (after cs f) w) (all_same m n h) k

backs_at : (j : List ℕ) (o : Contents) (es : List Edit) (m : Contents) (q : List ℕ) → KeepFirst j o es → (m q ≡ o q) ⊎ HasEntry es q → after (backs es) m q ≡ o q
backs_at j o [] m q k h = elim h [ inl same ↦ same | inr has ↦ absurd has ]
backs_at j o (e ∷ es) m q k h = backs_at j o es (after_change (gives e.path e.held) m) q k.3 (elim (cases_Bool (bytes_eq e.path q)) [
  | inl t ↦ inl (ap (λ b. cond b e.held (m q)) t ∙ sym k.0 ∙ ap o ((bytes_eq-Decides e.path q).0 t))
  | inr f ↦ elim h [
    | inl same ↦ inl (ap (λ b. cond b e.held (m q)) f ∙ same)
    | inr has ↦ elim has [ inl is ↦ let y : true ≡ false = sym ((bytes_eq-Decides e.path q).1 is) ∙ f in cc | inr more ↦ inr more ]
  ]
])

-- what all entries keep is put back: each path holds what it held at first
pub backs_first : (s : Spot) (o : Contents) (es : List Edit) (m : Contents) → IsKeptBy IsOwn s o es m → (q : List ℕ) → is_of_journal s.journal q ≡ false → after (backs es) m q ≡ o q
backs_first s o es m h q out = backs_at s.journal o es m q h.keeps (elim (h.holds q out) [ inl same ↦ inl same | inr own ↦ inr (has_own es q (m q) own) ])

-- the entries that were read are those that the journal has
pub safe_at : (s : Spot) (o : Contents) (c : ℕ) (es : List Edit) (m : Contents) → IsSafeOrCut s o m → IsRowRead s m c es → (by : IsKeptBy IsOwn s o es m) × (by.row.count ≡ c)
safe_at s o c es m h read =
    let is = row_only s m c es h.entries read h.by.row in
    subst (λ (l : List Edit). (by : IsKeptBy IsOwn s o l m) × (by.row.count ≡ c)) (sym is.1) (h.by, is.0)

-- after looks that changed nothing, what the row keeps is put back
pub looked_puts : (s : Spot) (o : Contents) (c : ℕ) (es : List Edit) (t u v : Trace) (m n w : Contents) → IsSafeOrCut s o m → IsRowRead s m c es → Makes [] t u m n → ((by : IsKeptBy IsOwn s o es n) → by.row.count ≡ c → PutsBackOrSafe s o u v n w) → PutsBackOrSafe s o t v m w
looked_puts s o c es t u v m n w h read looks f =
    let at = subst (λ (x : Contents). (by : IsKeptBy IsOwn s o es x) × (by.row.count ≡ c)) (sym looks.holds) (safe_at s o c es m h read) in
    look_then_puts s o t u v m n w looks (f at.0 at.1)

-- a path of no entry holds what it held
pub backs_other : (es : List Edit) (m : Contents) (q : List ℕ) → ¬ HasEntry es q → after (backs es) m q ≡ m q
backs_other [] m q h = refl
backs_other (e ∷ es) m q h = backs_other es (after_change (gives e.path e.held) m) q (λ has. h (inr has)) ∙ changed_other (gives e.path e.held) m q (λ is. h (inl (sym is)))

-- what the entries of a call say that their paths held at first
pub origin_of : Option Edit → Option (List ℕ) → Option (List ℕ)
origin_of None x = x
origin_of (Some e) x = e.held

abbrev pub origin : List Edit → Contents → Contents
origin es m q = origin_of (first_entry_of es q) (m q)

not_none : (es : List Edit) (p : List ℕ) → first_entry_of es p ≡ None → ¬ HasEntry es p
not_none [] p h = λ has. has
not_none (e ∷ es) p h = elim (cases_Bool (bytes_eq e.path p)) [
  | inl t ↦ let y : Some e ≡ None = sym (ap (λ b. cond b (Some e) (first_entry_of es p)) t) ∙ h in cc
  | inr f ↦ λ has. elim has [
    | inl is ↦ let y : true ≡ false = sym ((bytes_eq-Decides e.path p).1 is) ∙ f in cc
    | inr others ↦ not_none es p (sym (ap (λ b. cond b (Some e) (first_entry_of es p)) f) ∙ h) others
  ]
]

origin_is : (f : Option Edit) (x held : Option (List ℕ)) → ¬ (f ≡ None) → AgreesOnHeld f held → origin_of f x ≡ held
unfolding origin_of
origin_is None x held some agrees = absurd (some refl)
origin_is (Some e) x held some agrees = agrees

-- it is what the path holds, or what its first entry keeps
pub origin_cases : (f : Option Edit) (x now : Option (List ℕ)) → now ≡ origin_of f x → (now ≡ x) ⊎ ((e : Edit) × (f ≡ Some e) × (now ≡ e.held))
unfolding origin_of
origin_cases None x now is = inl is
origin_cases (Some e) x now is = inr (e, refl, is)

origin_keeps_of : (j : List ℕ) (all : List Edit) (m : Contents) (es : List Edit) → AreOfCall j all es → ((q : List ℕ) → HasEntry es q → HasEntry all q) → KeepFirst j (origin all m) es
origin_keeps_of j all m [] h sub = tt
origin_keeps_of j all m (e ∷ es) h sub =
    (origin_is (first_entry_of all e.path) (m e.path) e.held (λ absent. not_none all e.path absent (sub e.path (inl refl))) h.0.2, h.0.0, h.0.1, origin_keeps_of j all m es h.1 (λ q has. sub q (inr has)))

pub origin_keeps : (j : List ℕ) (es : List Edit) (m : Contents) → AreOfCall j es es → KeepFirst j (origin es m) es
origin_keeps j es m h = origin_keeps_of j es m es h (λ q has. has)

are_back : (j : List ℕ) (o n : Contents) (es : List Edit) → KeepFirst j o es → ((q : List ℕ) → HasEntry es q → is_of_journal j q ≡ false → n q ≡ o q) → AreBack es n
are_back j o n [] k h = tt
are_back j o n (e ∷ es) k h = (h e.path (inl refl) k.1 ∙ k.0, are_back j o n es k.3 (λ q has ne. h q (inr has) ne))

-- once all is put back that the entries of a call keep, each path holds what it held at first
pub all_are_back : (j : List ℕ) (c : ℕ) (es : List Edit) (m n : Contents) → AreOfCall j es es → KeepsBeside j c (after (backs es) m) n → AreBack es n
all_are_back j c es m n call back =
    let keeps = origin_keeps j es m call in
    are_back j (origin es m) n es keeps (λ q has out. back q (λ i lt. apart_from j i q out) ∙ backs_at j (origin es m) es m q keeps (inr has))

agrees_of : (o : Contents) (all : List Edit) (p : List ℕ) (f : Option Edit) (held : Option (List ℕ)) → First o all p f → o p ≡ held → AgreesOnHeld f held
agrees_of o all p None held first is = tt
agrees_of o all p (Some e) held first is = sym first ∙ is

call_of : (j : List ℕ) (o : Contents) (all : List Edit) → KeepFirst j o all → (es : List Edit) → KeepFirst j o es → AreOfCall j all es
call_of j o all keeps [] k = tt
call_of j o all keeps (e ∷ es) k =
    ((k.1, k.2, agrees_of o all e.path (first_entry_of all e.path) e.held (first_keeps j o all [] e.path (subst (λ (l : List Edit). KeepFirst j o l) (sym (append-nil all)) keeps)) k.0), call_of j o all keeps es k.3)

pub tells_first : (j : List ℕ) (o : Contents) (es : List Edit) (q : List ℕ) → KeepFirst j o es → HasEntry es q → (is_of_journal j q ≡ false) × SomeEntryHasBytes es q (o q)
tells_first j o [] q k has = absurd has
tells_first j o (e ∷ es) q k has = elim has [
  | inl is ↦ (ap (is_of_journal j) (sym is) ∙ k.1, inl (is, inl (ap o (sym is) ∙ k.0)))
  | inr others ↦ let rest = tells_first j o es q k.3 others in (rest.0, inr rest.1)
]

pub why_no_journal : (j : Spot) (tells : Type 0) (m : Contents) (fault : RecoverFault) → NamesNoJournal j.journal fault → (tells → IsNoJournal j m) → IsWhyUnread j tells m fault
why_no_journal j tells m Memory names unread = tt
why_no_journal j tells m (NotJournal p) names unread = (names, unread)
why_no_journal j tells m (Changed p q) names unread = absurd names
why_no_journal j tells m (Files f) names unread = absurd names

-- an error that names a path of which P holds names one of which the wider Q holds
pub names_wider : (P Q : List ℕ → Type 0) → ((p : List ℕ) → P p → Q p) → (f : FsFault) → NamesPath P f → NamesPath Q f
names_wider P Q to (fs.Read p) h = to (string_bytes p) h
names_wider P Q to (fs.Write p) h = to (string_bytes p) h
names_wider P Q to (fs.NotText p) h = absurd h
names_wider P Q to fs.Memory h = absurd h

-- a file of the row, where those before it were read
pub reached_at : (s : Spot) (tells : Type 0) (k : ℕ) (es : List Edit) (m : Contents) → (tells → AreRead s m k es) → (p : List ℕ) → p ≡ file_at s.journal k → IsReached s tells m p
reached_at s tells k es m read p is = (k, is, λ t i lt. reached s m k es (read t).files i lt)

-- where a row was found, the journal's path holds something
pub row_there : (s : Spot) (m : Contents) (c : ℕ) (es : List Edit) → c ≢ 0 → IsRowRead s m c es → IsSome (m s.journal)
row_there s m c es some row = subst IsSome (ap m (file_zero s.journal)) (reached s m c es row.files.files 0 (omega (arith, some)))

-- a file that can't be read, behind others that were read
pub why_torn : (s : Spot) (tells : Type 0) (k : ℕ) (es : List Edit) (m n : Contents) (fault : RecoverFault) → (tells → KeepsAll m n) → (tells → AreRead s m k es) → IsWhyTorn s k tells n fault → IsWhyUnread s tells m fault
why_torn s tells k es m n Memory same read why = tt
why_torn s tells k es m n (NotJournal p) same read why = (why.0, λ t. no_row s m k es (read t).files (subst (λ (x : Contents). HoldsNoText s k x) (all_same m n (same t)) (why.1 t)))
why_torn s tells k es m n (Changed p q) same read why = absurd why
why_torn s tells k es m n (Files f) same read why =
    names_wider (λ p. p ≡ file_at s.journal k) (IsReached s tells m) (reached_at s tells k es m read) f why

-- a file of the row, or the path of an entry
pub file_or_entry : (s : Spot) (tells : Type 0) (c : ℕ) (es : List Edit) (m : Contents) → (tells → IsRowRead s m c es) → (p : List ℕ) → IsFileOrEntry s.journal c es p → IsJournalOrItsEntry s tells m p
file_or_entry s tells c es m row p (inl file) = inl (file.0, file.2, λ t i lt. reached s m c es (row t).files.files i (omega (arith, lt, file.1)))
file_or_entry s tells c es m row p (inr has) = inr (λ t. (es, row_of s m c es (row t), has))

-- a file couldn't be put back, or a file of the journal couldn't be removed
pub why_failed : {F T : Type 0} (f : Filing F) (s : Spot) (m : Contents) (r : Result T RecoverFault) (a b : F) → IfErr r (λ fault. ¬ IsJournalRefusal fault) → FailsOnlySo f (IsJournalOrItsEntry s f.tells m) a b r → IfErr r (IsWhy s f.tells m)
why_failed f s m (Ok v) a b kind h = tt
why_failed f s m (Err Memory) a b kind h = tt
why_failed f s m (Err (NotJournal p)) a b kind h = absurd (kind tt)
why_failed f s m (Err (Changed p q)) a b kind h = absurd (kind tt)
why_failed f s m (Err (Files (fs.Read p))) a b kind h = h.0
why_failed f s m (Err (Files (fs.Write p))) a b kind h = h.0
why_failed f s m (Err (Files (fs.NotText p))) a b kind h = absurd h
why_failed f s m (Err (Files fs.Memory)) a b kind h = absurd h

pub why_unread : (s : Spot) (tells : Type 0) (m : Contents) (fault : RecoverFault) → IsWhyUnread s tells m fault → IsWhy s tells m fault
why_unread s tells m Memory why = tt
why_unread s tells m (NotJournal p) why = why
why_unread s tells m (Changed p q) why = absurd why
why_unread s tells m (Files f) why = names_wider (IsReached s tells m) (IsJournalOrItsEntry s tells m) (λ p is. inl is) f why

-- a path that holds what no call left there was changed
pub why_not_told : (s : Spot) (tells : Type 0) (es : List Edit) (m n : Contents) (fault : RecoverFault) → (tells → IsRowOf s m es) → (tells → KeepsAll m n) → IsWhyNotTold s.journal tells es es n fault → IsWhy s tells m fault
why_not_told s tells es m n Memory row same why = tt
why_not_told s tells es m n (NotJournal p) row same why = absurd why
why_not_told s tells es m n (Changed p q) row same why = (why.0, λ t. (es, row t, why.1, subst (λ (x : Option (List ℕ)). ¬ IsOwn es (string_bytes p) x) (same t (string_bytes p)) (why.2 t)))
why_not_told s tells es m n (Files f) row same why = names_wider (HasEntry es) (IsJournalOrItsEntry s tells m) (λ p has. inr (λ t. (es, row t, has))) f why

-- where files are safe, nothing is refused
pub never_not_told : (j : List ℕ) (tells : Type 0) (es : List Edit) (m n : Contents) (fault : RecoverFault) → tells → KeepsAll m n → AreTold es es m → IsWhyNotTold j tells es es n fault → IsJournalRefusal fault → ⊥
never_not_told j tells es m n Memory t same told why refusal = refusal
never_not_told j tells es m n (NotJournal p) t same told why refusal = why
never_not_told j tells es m n (Changed p q) t same told why refusal = why.2 t (subst (IsOwn es (string_bytes p)) (sym (same (string_bytes p))) (told (string_bytes p) why.1))
never_not_told j tells es m n (Files f) t same told why refusal = refusal

-- where files are safe, the row is that of a call
pub safe_journal : (s : Spot) (o m : Contents) → IsSafeOrCut s o m → IsNoJournal s m → ⊥
safe_journal s o m h unread = unread.2 h.entries (call_of s.journal o h.entries h.by.keeps h.entries h.by.keeps) h.by.row

pub never_cut_no_journal : (s : Spot) (tells : Type 0) (o m : Contents) (fault : RecoverFault) → tells → IsWhyUnread s tells m fault → IsSafeOrCut s o m → IsJournalRefusal fault → ⊥
never_cut_no_journal s tells o m Memory t why h refusal = refusal
never_cut_no_journal s tells o m (NotJournal p) t why h refusal = safe_journal s o m h (why.1 t)
never_cut_no_journal s tells o m (Changed p q) t why h refusal = why
never_cut_no_journal s tells o m (Files f) t why h refusal = refusal

-- where files are safe, the path of each entry holds what a call left there
pub safe_told : (s : Spot) (o : Contents) (es : List Edit) (m : Contents) → IsKeptBy IsOwn s o es m → AreTold es es m
safe_told s o es m h q has =
    let first = tells_first s.journal o es q h.keeps has in
    elim (h.holds q first.0) [ inl same ↦ own_told es q (m q) (subst (SomeEntryHasBytes es q) (sym same) first.1) | inr own ↦ own ]

-- ---- the paths that held something else

-- a path that holds what is put back makes no difference
pub same_back : (e : Edit) (m n : Contents) → KeepsAll (after_change (gives e.path e.held) m) n → m e.path ≡ e.held → n ≡ m
same_back e m n back same = fun_ext λ q. back q ∙ elim (cases_Bool (bytes_eq e.path q)) [
  | inl t ↦ ap (λ b. cond b e.held (m q)) t ∙ sym same ∙ ap m ((bytes_eq-Decides e.path q).0 t)
  | inr f ↦ ap (λ b. cond b e.held (m q)) f
]

-- one entry is put back, and then the rest
pub adds_step : (j : List ℕ) (o : Contents) (e : Edit) (es : List Edit) (m n w : Contents) (before mid now : List (List ℕ)) → KeepFirst j o (e ∷ es) → KeepsAll (after_change (gives e.path e.held) m) n → KeepsAll (after (backs es) n) w
    → AddsIfOther e m before mid → AddsChanged n w es mid now → AddsChanged m w (e ∷ es) before now
adds_step j o e es m n w before mid now keeps back rest told more =
    let here : n e.path ≡ e.held = back e.path ∙ ap (λ b. cond b e.held (m e.path)) ((bytes_eq-Decides e.path e.path).1 refl) in
    let last : w e.path ≡ e.held = rest e.path ∙ backs_at j o es n e.path keeps.3 (inl (here ∙ sym keeps.0)) ∙ keeps.0 in
    elim told [
      | inl same ↦ record {
        paths = more.paths;
        are = inl (last ∙ sym same.0, subst (λ (x : Contents). AreChanged x w es more.paths) (same_back e m n back same.0) more.are);
        added = more.added ∙ ap (λ (l : List (List ℕ)). l ++ more.paths) same.1;
      }
      | inr other ↦ record {
        paths = e.path ∷ more.paths;
        are = inr (
          λ same. other.0 (sym same ∙ last),
          (more.paths, refl, subst (λ (x : Contents). AreChanged x w es more.paths) (all_same (after_change (gives e.path e.held) m) n back ∙ ap (λ (x : Option (List ℕ)). after_change (gives e.path x) m) (sym last)) more.are),
        );
        added = more.added ∙ ap (λ (l : List (List ℕ)). l ++ more.paths) other.1 ∙ append_assoc before (e.path ∷ []) more.paths;
      }
    ]

-- what the paths of entries hold is not changed by the removal of the row
pub changed_along : (j : List ℕ) (o : Contents) (es : List Edit) (m w v : Contents) (paths : List (List ℕ)) → KeepFirst j o es → ((q : List ℕ) → is_of_journal j q ≡ false → v q ≡ w q) → AreChanged m w es paths → AreChanged m v es paths
changed_along j o [] m w v paths keeps same h = h
changed_along j o (e ∷ es) m w v paths keeps same h = elim h [
  | inl is ↦ inl (same e.path keeps.1 ∙ is.0, changed_along j o es m w v paths keeps.3 same is.1)
  | inr other ↦ inr (
    λ is. other.0 (sym (same e.path keeps.1) ∙ is),
    (
      other.1.0,
      other.1.1,
      subst (λ (x : Option (List ℕ)). AreChanged (after_change (gives e.path x) m) v es other.1.0) (sym (same e.path keeps.1))
          (changed_along j o es (after_change (gives e.path (w e.path)) m) w v other.1.0 keeps.3 same other.1.2),
    ),
  )
]

-- three clauses of one call that returned Ok, and what follows from them
pub on_three : {T A B R E : Type 0} {C D : R → Type 0} (r : Result R E) → OnOk r (T → A) → OnOk r (T → B) → IfOk r (λ k. T → C k) → ((k : R) → T → A → B → C k → D k) → IfOk r (λ k. T → D k)
on_three (Ok k) a b c d = λ t. d k t (a t) (b t) (c t)
on_three (Err e) a b c d = tt

-- two of them
pub on_two : {T A B E R : Type 0} {D : Type 0} (r : Result R E) → OnOk r (T → A) → OnOk r (T → B) → (T → A → B → D) → OnOk r (T → D)
on_two (Ok k) a b d = λ t. d t (a t) (b t)
on_two (Err e) a b d = tt

pub told_at : (xs ys es : List Edit) (m n : Contents) → xs ≡ es → ys ≡ es → n ≡ m → AreTold xs ys n → AreTold es es m
told_at xs ys es m n a b same told =
    subst (λ (x : Contents). AreTold es es x) same (subst (λ (l : List Edit). AreTold l es n) a (subst (λ (l : List Edit). AreTold xs l n) b told))

back_at : (j : List ℕ) (c : ℕ) (ds es : List Edit) (m n w : Contents) → ds ≡ es → n ≡ m → KeepsBeside j c (after (backs ds) n) w → KeepsBeside j c (after (backs es) m) w
back_at j c ds es m n w is same back =
    subst (λ (x : Contents). KeepsBeside j c (after (backs es) x) w) same (subst (λ (l : List Edit). KeepsBeside j c (after (backs l) n) w) is back)

-- what was read, looked at and put back is restored
pub restored_of : (s : Spot) (c : ℕ) (es : List Edit) (paths : List (List ℕ)) (m n w : Contents) → n ≡ m → IsRowRead s m c es → AreOfCall s.journal es es → AreTold es es m
    → KeepsBeside s.journal c (after (backs es) n) w → ((i : ℕ) → i < c → w (file_at s.journal i) ≡ None) → ((o : Contents) → KeepFirst s.journal o es → AreChanged n w es paths) → Restored s es paths m w
restored_of s c es paths m n w same read call told back gone changed =
    let all = back_at s.journal c es es m n w refl same back in
    record {
      row = record { count = c; files = read.files.files; ends = read.ends };
      told = told;
      back = all_are_back s.journal c es m w call all;
      others = λ q beside absent. all q beside ∙ backs_other es m q absent;
      gone = gone;
      changed = subst (λ (x : Contents). AreChanged x w es paths) same (changed (origin es m) (origin_keeps s.journal es m call));
    }

-- the row is not changed by what is put back
pub backs_own : (s : Spot) (o : Contents) (es : List Edit) (m : Contents) (q : List ℕ) → KeepFirst s.journal o es → is_of_journal s.journal q ≡ true → after (backs es) m q ≡ m q
backs_own s o es m q keeps own = backs_other es m q (λ has. false≢true (sym (tells_first s.journal o es q keeps has).0 ∙ own))

-- from safe files each path holds again what it held at first
pub comes_back_of : (s : Spot) (o : Contents) (c : ℕ) (es : List Edit) (m n w : Contents) → n ≡ m → (by : IsKeptBy IsOwn s o es m) → by.row.count ≡ c → KeepsBeside s.journal c (after (backs es) n) w → ((i : ℕ) → i < c → w (file_at s.journal i) ≡ None) → KeepsAll o w
comes_back_of s o c es m n w same by is back gone =
    let all = back_at s.journal c es es m n w refl same back in
    let fresh : IsFresh s.journal c o m = subst (λ (k : ℕ). IsFresh s.journal k o m) is by.fresh in
    all_first s.journal c o m w fresh
    (λ q out. all q (λ i lt. apart_from s.journal i q out) ∙ backs_first s o es m by q out)
    gone
    (λ q own beside. all q beside ∙ backs_own s o es m q by.keeps own)

-- after a look a path was given these bytes, or removed; or that may have been refused
pub put_made : (path q : List ℕ) (held x : Option (List ℕ)) (s t u : Trace) (l m n : Contents) → q ≡ path → x ≡ held → Makes [] s t l m → Makes (gives q x ∷ []) t u m n → Makes (gives path held ∷ []) s u l n
put_made path q held x s t u l m n at is look made =
    makes_more [] (gives path held ∷ []) s t u l m n look (subst (λ (p : List ℕ). Makes (gives p held ∷ []) t u m n) at (subst (λ (y : Option (List ℕ)). Makes (gives q y ∷ []) t u m n) is made))

pub put_or_not : (path q : List ℕ) (held x : Option (List ℕ)) (s t u : Trace) (l m n : Contents) → q ≡ path → x ≡ held → Makes [] s t l m → MakesOrNot (gives q x) t u m n → MakesOrNot (gives path held) s u l n
put_or_not path q held x s t u l m n at is look (inl left) = inl (makes_more [] [] s t u l m n look left)
put_or_not path q held x s t u l m n at is look (inr made) = inr (put_made path q held x s t u l m n at is look made)

-- after a look a path was given what it held at first
pub put_keeps : (p q : List ℕ) (x y : Option (List ℕ)) (l m n : Contents) → q ≡ p → y ≡ x → KeepsAll l m → n q ≡ y → KeepsOthers q m n → KeepsAll (after_change (gives p x) l) n
put_keeps p q x y l m n path held look here others r = elim (cases_Bool (bytes_eq p r)) [
  | inl t ↦ let is = (bytes_eq-Decides p r).0 t in ap n (sym is ∙ sym path) ∙ here ∙ held ∙ sym (ap (λ b. cond b x (l r)) t)
  | inr f ↦ others r (λ e. let y : true ≡ false = sym ((bytes_eq-Decides p r).1 (sym path ∙ sym e)) ∙ f in absurd (false≢true (sym y))) ∙ look r ∙ sym (ap (λ b. cond b x (l r)) f)
]

pub on_ok_always : {R E : Type 0} {P : Type 0} (r : Result R E) → P → OnOk r P
on_ok_always (Ok k) p = p
on_ok_always (Err e) p = tt

-- where files are safe and no journal is there, each path holds what it held at first
pub on_err_always : {R E : Type 0} {P : Type 0} (r : Result R E) → P → IfErr r (λ _. P)
on_err_always (Ok x) p = tt
on_err_always (Err e) p = p

pub safe_none : (s : Spot) (o m n : Contents) → IsSafeOrCut s o m → m s.journal ≡ None → KeepsAll m n → KeepsAll o n
safe_none s o m n h none same =
    let row = h.by.row in
    let zero : row.count ≡ 0 = elim (eqb_tells row.count 0) [
      | inl t ↦ t.1
      | inr t ↦ absurd (there_not_none s m row.count h.entries 0 (omega (arith, t.1)) row.files (ap m (file_zero s.journal) ∙ none))
    ] in
    let empty : AreFirst s m 0 h.entries = subst (λ (c : ℕ). AreFirst s m c h.entries) zero row.files in
    let fresh : IsFresh s.journal 0 o m = subst (λ (c : ℕ). IsFresh s.journal c o m) zero h.by.fresh in
    all_first s.journal 0 o m n fresh
    (λ q out. same q ∙ elim (h.by.holds q out) [ inl is ↦ is | inr own ↦ absurd (has_own [] q (m q) (subst (λ (l : List Edit). IsOwn l q (m q)) empty own)) ])
    (λ i lt. absurd (omega (arith, lt)))
    (λ q own beside. same q)
