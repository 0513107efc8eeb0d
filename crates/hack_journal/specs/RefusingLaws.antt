-- What the laws of refused writes are proved by.
use Rattle.std.proofs.Common.{◌≡◌, ◌∙◌, ◌⊎◌, ◌∷◌, ◌||◌, Bool, Err, Ok, Result, ap, false, inl, inr, ℕ, List, [], ◌++◌, ◌+◌, arith, refl, sym, true}
use Rattle.std.specs.Prelude.{is_err}
use Rattle.std.proofs.lemmas.List.Elements.{All-append, All-nil}
use Rattle.hack_base.specs.Counters.{GrowsBy}
use Rattle.hack_files.specs.Files.{Grows, refused_path}
use Rattle.hack_files.specs.RefusalLaws.{at_least_none, at_least_more}
use Rattle.hack_files.specs.declared.fs.Files.{Ghosts as Filing}
use Rattle.hack_journal.specs.Refusing.{AreJust, GrowsAsBoth, GrowsWithin, NotesRefusals, are_some}

pub just_none : (P : List ℕ → Type 0) (n : ℕ) → AreJust P [] n n
just_none P n = record { each = All-nil P; failed = at_least_none n }

pub just_more : (P : List ℕ → Type 0) (ps qs : List (List ℕ)) (a b c : ℕ) → AreJust P ps a b → AreJust P qs b c → AreJust P (ps ++ qs) a c
just_more P ps qs a b c f g = record { each = All-append P ps qs f.each g.each; failed = at_least_more ps qs a b c f.failed g.failed }

pub just_some : (P : List ℕ → Type 0) (a b : ℕ) → Grows a b → (ps : List (List ℕ)) × AreJust P ps a b
just_some P a b grown = ([], record { each = All-nil P; failed = λ low. let now = grown.1 low in (omega (arith, now), omega (arith, now)) })

-- of two it is known whether both are so
pub both_or_not : (A B : Type 0) → A ⊎ ¬ A → B ⊎ ¬ B → (A × B) ⊎ ¬ (A × B)
both_or_not A B (inl a) (inl b) = inl (a, b)
both_or_not A B (inl a) (inr never) = inr (λ both. never both.1)
both_or_not A B (inr never) h = inr (λ both. never both.0)

pub grows_none : (n : ℕ) → GrowsBy 0 n n
grows_none n = λ low. omega (arith, low)

pub grows_more : (i j x y z : ℕ) → GrowsBy i x y → GrowsBy j y z → GrowsBy (i + j) x z
grows_more i j x y z f g = λ low. let first = f low in let second = g (omega (arith, first)) in omega (arith, first, second)

pub within_none : (a b c : ℕ) → GrowsWithin a a b b c c
within_none a b c = record { first = 0; second = 0; both = 0; one = grows_none a; two = grows_none b; sum = grows_none c; most = omega arith; least = omega arith }

pub within_more : (a b c x y z u v w : ℕ) → GrowsWithin a b x y u v → GrowsWithin b c y z v w → GrowsWithin a c x z u w
within_more a b c x y z u v w f g = record {
  first = f.first + g.first;
  second = f.second + g.second;
  both = f.both + g.both;
  one = grows_more f.first g.first a b c f.one g.one;
  two = grows_more f.second g.second x y z f.two g.two;
  sum = grows_more f.both g.both u v w f.sum g.sum;
  most = omega (arith, f.most, g.most);
  least = omega (arith, f.least, g.least);
}

pub both_none : (a b c : ℕ) → GrowsAsBoth a a b b c c
both_none a b c = record { first = 0; second = 0; one = grows_none a; two = grows_none b; sum = grows_none c }

pub both_more : (a b c x y z u v w : ℕ) → GrowsAsBoth a b x y u v → GrowsAsBoth b c y z v w → GrowsAsBoth a c x z u w
both_more a b c x y z u v w f g = record {
  first = f.first + g.first;
  second = f.second + g.second;
  one = grows_more f.first g.first a b c f.one g.one;
  two = grows_more f.second g.second x y z f.two g.two;
  sum = λ low. let now = grows_more (f.first + f.second) (g.first + g.second) u v w f.sum g.sum low in omega (arith, now);
}

or_false : (x : Bool) → x ≡ (x || false)
or_false true = refl
or_false false = refl

or_more : (x y z : Bool) → ((x || y) || z) ≡ (x || (y || z))
or_more true y z = refl
or_more false y z = refl

some_in_both : (ps qs : List (List ℕ)) → are_some (ps ++ qs) ≡ (are_some ps || are_some qs)
some_in_both [] qs = refl
some_in_both (p ∷ ps) qs = refl

some_refused : {T E : Type 0} (r : Result T E) (path : List ℕ) → is_err r ≡ are_some (refused_path r path)
some_refused (Ok v) path = refl
some_refused (Err e) path = refl

-- a call that refuses nothing, and one that may refuse a path
pub notes_same : {F : Type 0} (f : Filing F) (a b : F) (flag : Bool) → f.refuses a b [] → NotesRefusals f a b flag flag
notes_same f a b flag h = record { paths = []; refused = h; noted = or_false flag }

pub notes_write : {F T E : Type 0} (f : Filing F) (a b : F) (path : List ℕ) (r : Result T E) (flag : Bool) → f.refuses a b (refused_path r path) → NotesRefusals f a b flag (flag || is_err r)
notes_write f a b path r flag h = record { paths = refused_path r path; refused = h; noted = ap (λ (x : Bool). flag || x) (some_refused r path) }

pub notes_more : {F : Type 0} (f : Filing F) (a b c : F) (x y z : Bool) → NotesRefusals f a b x y → NotesRefusals f b c y z → NotesRefusals f a c x z
notes_more f a b c x y z g h = record {
  paths = g.paths ++ h.paths;
  refused = f.refuses_more a b c g.paths h.paths g.refused h.refused;
  noted = h.noted ∙ ap (λ (w : Bool). w || are_some h.paths) g.noted ∙ or_more x (are_some g.paths) (are_some h.paths) ∙ ap (λ (w : Bool). x || w) (sym (some_in_both g.paths h.paths));
}
