-- Texts that are printed one after the other, and fronts of them.
use Rattle.std.proofs.Common.{◌≡◌, ℕ, ◌+◌, ◌<◌, List, [], ◌++◌, Option, length, get_or, take, drop, take-append-drop, ap, sym, subst, ◌∙◌, append_assoc, append-nil, Ok, Err}
use Rattle.std.specs.Prelude.{Result, OnOk, OnErr, flat_map}
use Rattle.std.specs.Io.KnownBytes.{Appends}
use Rattle.std.proofs.KnownBytes.{Appends-nil, Appends-trans}
use Rattle.std.proofs.lemmas.Grind.{flat_map-append}
use Rattle.std.proofs.lemmas.List.{take_more, flat_map_more}
use Rattle.hack_base.specs.Writes.{AppendsFront}
use Rattle.hack_base.proofs.WriteLemmas.{AppendsFront-then, AppendsFront-append}
use Rattle.hack_powerset_list.specs.LineWords.{PrintsText}

-- nothing is printed
pub prints-none : (a : Option (List ℕ)) (page : List ℕ) → PrintsText a a page page []
prints-none a page = record { written = []; whole = append-nil page; appended = Appends-nil a }

-- one text is printed after another
pub prints-then : (a b c : Option (List ℕ)) (p q r t u : List ℕ) → PrintsText a b p q t → PrintsText b c q r u → PrintsText a c p r (t ++ u)
prints-then a b c p q r t u h k = record {
  written = h.written ++ k.written;
  whole = sym (append_assoc p t u)
      ∙ ap (λ l. l ++ u) h.whole
      ∙ append_assoc h.written q u
      ∙ ap (λ l. h.written ++ l) k.whole
      ∙ sym (append_assoc h.written k.written r);
  appended = Appends-trans a b c h.written k.written h.appended k.appended;
}

-- what was written while a text was printed is a front of the page with all that was to be printed
pub prints-front : (a b : Option (List ℕ)) (p q t rest all : List ℕ) → PrintsText a b p q t → all ≡ t ++ rest → AppendsFront a b (p ++ all)
prints-front a b p q t rest all h is = (
  h.written,
  q ++ rest,
  ap (λ l. p ++ l) is ∙ sym (append_assoc p t rest) ∙ ap (λ l. l ++ rest) h.whole ∙ append_assoc h.written q rest,
  h.appended,
)

-- the same after printing another text failed
pub prints-stopped : (a b c : Option (List ℕ)) (p q t u rest all : List ℕ) → PrintsText a b p q t → AppendsFront b c (q ++ u) → all ≡ t ++ (u ++ rest) → AppendsFront a c (p ++ all)
prints-stopped a b c p q t u rest all h k is =
    subst (AppendsFront a c)
    (append_assoc h.written (q ++ u) rest
    ∙ ap (λ l. h.written ++ l) (append_assoc q u rest)
    ∙ sym (append_assoc h.written q (u ++ rest))
    ∙ ap (λ l. l ++ (u ++ rest)) (sym h.whole)
    ∙ append_assoc p t (u ++ rest)
    ∙ ap (λ l. p ++ l) (sym is))
    (AppendsFront-append a c (h.written ++ (q ++ u)) rest (AppendsFront-then a b c h.written (q ++ u) h.appended k))

-- the same after writing the page failed
pub prints-written : (a b c : Option (List ℕ)) (p q t : List ℕ) → PrintsText a b p q t → AppendsFront b c q → AppendsFront a c (p ++ t)
prints-written a b c p q t h k = subst (AppendsFront a c) (sym h.whole) (AppendsFront-then a b c h.written q h.appended k)

-- what holds of a text holds of one that is the same
pub on_ok-same : {T E : Type 0} (r : Result T E) (P : List ℕ → Type 0) (a b : List ℕ) → a ≡ b → OnOk r (P a) → OnOk r (P b)
on_ok-same r P a b same h = subst (λ l. OnOk r (P l)) same h

pub on_err-same : {T E : Type 0} (r : Result T E) (P : List ℕ → Type 0) (a b : List ℕ) → a ≡ b → OnErr r (P a) → OnErr r (P b)
on_err-same r P a b same h = subst (λ l. OnErr r (P l)) same h

pub on_err-any : {T E : Type 0} (r : Result T E) (X : Type 0) → X → OnErr r X
on_err-any (Ok v) X h = tt
on_err-any (Err e) X h = h

pub on_ok-then : {T E : Type 0} (r : Result T E) (X Y : Type 0) → (X → Y) → OnOk r X → OnOk r Y
on_ok-then (Ok v) X Y f h = f h
on_ok-then (Err e) X Y f h = tt

pub on_err-then : {T E : Type 0} (r : Result T E) (X Y : Type 0) → (X → Y) → OnErr r X → OnErr r Y
on_err-then (Ok v) X Y f h = tt
on_err-then (Err e) X Y f h = f h

module _ {X : Type 0} (f : X → List ℕ) (xs : List X) where
  -- the texts up to a place, and those from there on
  texts-split : (n : ℕ) → flat_map f (take n xs) ++ flat_map f (drop n xs) ≡ flat_map f xs
  texts-split n = sym (flat_map-append f (take n xs) (drop n xs)) ∙ ap (flat_map f) (take-append-drop n xs)

  -- one text more
  pub texts-more : (k : ℕ) (d : X) → k < length xs → flat_map f (take k xs) ++ f (get_or xs k d) ≡ flat_map f (take (k + 1) xs)
  texts-more k d lt = flat_map_more f [] (take k xs) (get_or xs k d) ∙ ap (flat_map f) (sym (take_more xs k d lt))

  -- what was written and a front of what comes next is a front of all texts
  pub front-with-page : (n : ℕ) (a b c : Option (List ℕ)) (done page : List ℕ) → done ++ page ≡ flat_map f (take n xs) → Appends a b done → AppendsFront b c page → AppendsFront a c (flat_map f xs)
  front-with-page n a b c done page same written more = subst (AppendsFront a c) (ap (λ l. l ++ flat_map f (drop n xs)) same ∙ texts-split n) (AppendsFront-append a c (done ++ page) (flat_map f (drop n xs)) (AppendsFront-then a b c done page written more))

-- three parts of a text, and an end
pub parts-end : (a b c all end : List ℕ) → a ++ b ++ c ≡ all → a ++ (b ++ (c ++ end)) ≡ all ++ end
parts-end a b c all end same = sym (append_assoc a b (c ++ end)) ∙ sym (append_assoc (a ++ b) c end) ∙ ap (λ l. l ++ end) same
