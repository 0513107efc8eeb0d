-- The journal's text, read as it was written.
use Rattle.std.proofs.Common.{◌≡◌, ◌≢◌, inl, inr, ℕ, List, [], ◌∷◌, ◌++◌, Option, Some, None, length, refl, sym, ◌∙◌, arith, subst, ap, true, false, Bool, cond, append_assoc, append-nil, codes}
use Rattle.std.specs.Str.{bytes_eq, IsUtf8}
use Rattle.std.specs.Prelude.{not}
use Rattle.std.proofs.lemmas.Slice.Eq.{bytes_eq-Decides}
use Rattle.std.proofs.lemmas.Bool.{cases_Bool}
use Rattle.std.proofs.lemmas.Bool.Decides.{eqb_tells}
use Rattle.std.proofs.lemmas.Str.{IsUtf8-string_bytes}
use Rattle.hack_journal.specs.declared.journal.Entry.{Entry}
use Rattle.hack_journal.specs.Journal.{edits_of, Edit, lines, content_text, edit_text, edits_text, HaveTextPaths}
use Rattle.hack_journal.specs.Internal.{BeginsWithoutSpace}

-- how a text that goes on with lines begins
pub data Begins (byte : ℕ) (left more rest : List ℕ) : Type 0 where
  Ends : byte ≡ 10 → more ≡ [] → left ≡ rest → Begins byte left more rest
  Feeds : (m : List ℕ) → byte ≡ 10 → more ≡ 10 ∷ m → left ≡ 32 ∷ (lines m ++ rest) → Begins byte left more rest
  Goes : (m : List ℕ) → byte ≢ 10 → more ≡ byte ∷ m → left ≡ lines m ++ rest → Begins byte left more rest

pub begins : (more rest left : List ℕ) (byte : ℕ) → byte ∷ left ≡ lines more ++ rest → Begins byte left more rest
begins [] rest left byte h = Ends (cc) refl (cc)
begins (b ∷ bs) rest left byte h = elim (eqb_tells b 10) [
  | inl t ↦ let h2 : byte ∷ left ≡ 10 ∷ 32 ∷ (lines bs ++ rest) = h ∙ ap (λ v. cond v (10 ∷ 32 ∷ lines bs) (b ∷ lines bs) ++ rest) t.0 in
      Feeds bs (cc) (ap (λ x. x ∷ bs) t.1) (cc)
  | inr t ↦ let h2 : byte ∷ left ≡ b ∷ (lines bs ++ rest) = h ∙ ap (λ v. cond v (10 ∷ 32 ∷ lines bs) (b ∷ lines bs) ++ rest) t.0 in
      let is : byte ≡ b = cc in
      Goes bs (λ e. t.1 (sym is ∙ e)) (ap (λ x. x ∷ bs) (sym is)) (cc)
]

-- what is left to read, once some bytes were read
pub record Left (bytes rest read left : List ℕ) : Type 0 where
  pub more : List ℕ
  pub whole : bytes ≡ read ++ more
  pub text : left ≡ lines more ++ rest

abbrev pub SoFar : List ℕ → List ℕ → List ℕ → Type 0
SoFar text read left = (bytes rest : List ℕ) → BeginsWithoutSpace rest → text ≡ lines bytes ++ rest → Left bytes rest read left

pub sofar_goes : (text read left : List ℕ) (byte : ℕ) (rest : List ℕ) → left ≡ byte ∷ rest → byte ≢ 10 → SoFar text read left → SoFar text (read ++ byte ∷ []) rest
sofar_goes text read left byte rest is differs before bytes after next h =
    let b = before bytes after next h in
    elim (begins b.more after rest byte (sym is ∙ b.text)) [
      | Ends e m l ↦ absurd (differs e)
      | Feeds m e w l ↦ absurd (differs e)
      | Goes m e w l ↦ record { more = m; whole = b.whole ∙ ap (λ x. read ++ x) w ∙ sym (append_assoc read (byte ∷ []) m); text = l }
    ]

pub sofar_feeds : (text read left rest : List ℕ) → left ≡ 10 ∷ 32 ∷ rest → SoFar text read left → SoFar text (read ++ 10 ∷ []) rest
sofar_feeds text read left rest is before bytes after next h =
    let b = before bytes after next h in
    elim (begins b.more after (32 ∷ rest) 10 (sym is ∙ b.text)) [
      | Ends e m l ↦ let n : BeginsWithoutSpace (32 ∷ rest) = subst BeginsWithoutSpace (sym l) next in absurd (n refl)
      | Feeds m e w l ↦ record { more = m; whole = b.whole ∙ ap (λ x. read ++ x) w ∙ sym (append_assoc read (10 ∷ []) m); text = cc }
      | Goes m e w l ↦ absurd (e refl)
    ]

pub sofar_ends : (text read left rest : List ℕ) → left ≡ 10 ∷ rest → BeginsWithoutSpace rest → SoFar text read left
    → (bytes after : List ℕ) → BeginsWithoutSpace after → text ≡ lines bytes ++ after → (read ≡ bytes) × (rest ≡ after)
sofar_ends text read left rest is begun before bytes after next h =
    let b = before bytes after next h in
    elim (begins b.more after rest 10 (sym is ∙ b.text)) [
      | Ends e m l ↦ (sym (b.whole ∙ ap (λ x. read ++ x) m ∙ append-nil read), l)
      | Feeds m e w l ↦ let n : BeginsWithoutSpace (32 ∷ (lines m ++ after)) = subst BeginsWithoutSpace l begun in absurd (n refl)
      | Goes m e w l ↦ absurd (e refl)
    ]

lines_some : (more rest : List ℕ) → [] ≢ lines more ++ rest
lines_some [] rest h = cc
lines_some (b ∷ bs) rest h = elim (eqb_tells b 10) [
  | inl t ↦ let h2 : [] ≡ 10 ∷ 32 ∷ (lines bs ++ rest) = h ∙ ap (λ v. cond v (10 ∷ 32 ∷ lines bs) (b ∷ lines bs) ++ rest) t.0 in cc
  | inr t ↦ let h2 : [] ≡ b ∷ (lines bs ++ rest) = h ∙ ap (λ v. cond v (10 ∷ 32 ∷ lines bs) (b ∷ lines bs) ++ rest) t.0 in cc
]

pub sofar_never : (text read left : List ℕ) → left ≡ [] → SoFar text read left → (bytes after : List ℕ) → BeginsWithoutSpace after → text ≡ lines bytes ++ after → ⊥
sofar_never text read left is before bytes after next h = let b = before bytes after next h in lines_some b.more after (sym is ∙ b.text)

-- a text from which no space was stripped
pub next_of : (rest : List ℕ) → ((r : List ℕ) → rest ≢ 32 ∷ r) → BeginsWithoutSpace rest
next_of [] h = tt
next_of (b ∷ bs) h = λ e. h bs (ap (λ x. x ∷ bs) e)

pub both : {A B : Type 0} (a c : A) (b d : B) → (a ≡ c) × (b ≡ d) → ◌≡◌ {A = A × B} (a, b) (c, d)
both a c b d h = cc

-- what is left of an entry's text after each of its words and parts
abbrev pub tail5 : Edit → List ℕ → List ℕ
tail5 e rest = content_text e.wrote ++ rest

abbrev pub tail4 : Edit → List ℕ → List ℕ
tail4 e rest = codes "wrote" ++ tail5 e rest

abbrev pub tail3 : Edit → List ℕ → List ℕ
tail3 e rest = content_text e.held ++ tail4 e rest

abbrev pub tail2 : Edit → List ℕ → List ℕ
tail2 e rest = codes "held" ++ tail3 e rest

abbrev pub tail1 : Edit → List ℕ → List ℕ
tail1 e rest = lines e.path ++ tail2 e rest

pub regroup : (e : Edit) (rest : List ℕ) → edit_text e ++ rest ≡ codes "path " ++ tail1 e rest
regroup e rest = simp append_assoc

pub none_first : (bytes : Option (List ℕ)) (rest text : List ℕ) → text ≡ content_text bytes ++ rest → ((r : List ℕ) → text ≢ codes " nothing\n" ++ r) → (b : List ℕ) × (bytes ≡ Some b) × (text ≡ codes "\n " ++ (lines b ++ rest))
none_first None rest text h ne = absurd (ne rest h)
none_first (Some b) rest text h ne = (b, refl, h)

pub length_zero : (xs : List ℕ) → length xs ≡ 0 → xs ≡ []
length_zero [] h = refl
length_zero (x ∷ xs) h = absurd (omega arith)

pub entry_is : (e : Edit) (path : List ℕ) (held wrote : Option (List ℕ)) (left rest : List ℕ) → path ≡ e.path → held ≡ e.held → wrote ≡ e.wrote → left ≡ rest
    → ◌≡◌ {A = Edit × List ℕ} (record { path = path; held = held; wrote = wrote }, left) (e, rest)
entry_is e path held wrote left rest p h w r = rw (p, h, w, r) refl

-- what `!=` says of two texts
pub differ_of : (r : Bool) (xs ys : List ℕ) → r ≡ not (bytes_eq xs ys) → r ≡ true → xs ≢ ys
differ_of r xs ys h t e = let b : bytes_eq xs ys ≡ true = (bytes_eq-Decides xs ys).1 e in let f : true ≡ false = sym t ∙ h ∙ ap not b in cc

pub same_of : (r : Bool) (xs ys : List ℕ) → r ≡ not (bytes_eq xs ys) → r ≡ false → xs ≡ ys
same_of r xs ys h f = elim (cases_Bool (bytes_eq xs ys)) [
  | inl t ↦ (bytes_eq-Decides xs ys).0 t
  | inr t ↦ let x : false ≡ true = sym f ∙ h ∙ ap not t in cc
]

pub next_entries : (es : List Edit) → BeginsWithoutSpace (edits_text es)
next_entries [] = omega arith
next_entries (e ∷ es) = omega arith

-- a text that goes on with entries and is not at its end
pub record One (left : List ℕ) (more : List Edit) : Type 0 where
  pub entry : Edit
  pub others : List Edit
  pub is : more ≡ entry ∷ others
  pub utf8 : IsUtf8 entry.path
  pub texts : HaveTextPaths others
  pub text : left ≡ edit_text entry ++ edits_text others

pub one_more : (left : List ℕ) (more : List Edit) → HaveTextPaths more → left ≡ edits_text more → left ≢ codes "end\n" → One left more
one_more left [] texts h ne = absurd (ne h)
one_more left (e ∷ es) texts h ne = record { entry = e; others = es; is = refl; utf8 = texts.0; texts = texts.1; text = h }

pub at_end : (left : List ℕ) (more : List Edit) → left ≡ edits_text more → left ≡ codes "end\n" → more ≡ []
at_end left [] h is = refl
at_end left (e ∷ es) h is = let t : 112 ∷ 97 ∷ 116 ∷ 104 ∷ 32 ∷ (lines e.path ++ (codes "held" ++ (content_text e.held ++ (codes "wrote" ++ (content_text e.wrote ++ edits_text es))))) ≡ 101 ∷ 110 ∷ 100 ∷ 10 ∷ [] = sym (regroup e (edits_text es)) ∙ sym h ∙ is in cc

-- the paths of entries are text
pub text_paths : (es : List Entry) → HaveTextPaths (edits_of es)
text_paths [] = tt
text_paths (e ∷ es) = (IsUtf8-string_bytes e.path, text_paths es)
