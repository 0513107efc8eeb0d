-- Steps of loops over lists, and over lists mapped by a function.
use Rattle.std.proofs.Common.{◌≡◌, ℕ, ◌+◌, ◌<◌, arith, List, [], ◌∷◌, ◌++◌, length, get_or, take, map, refl, sym, ◌∙◌, ap, subst, Bool, true, false, Contains, Option, Some, None, inl, inr}
use Rattle.std.specs.Prelude.{◌&&◌, Vec}
use Rattle.std.specs.List.{list_all, filter_map, cons_option}
use Rattle.std.proofs.lemmas.Bool.{and_from}
use Rattle.std.proofs.lemmas.List.{take_more, get_or-map, length-map}
use Rattle.std.proofs.lemmas.List.Folds.{list_all-append}
use Rattle.std.proofs.Math.ListN.{get_or-append}
use Rattle.std.proofs.Math.Seq.{get_or-append_seam}
use Rattle.hack_base.proofs.Members.{Contains-map, lt_or_same}
use Rattle.hack_base.proofs.Passes.{each_passes}

-- what a loop has seen after one more element, mapped by a function
pub seen-next : {X Y : Type 0} (f : X → Y) (xs : List X) (k : ℕ) (x : X) → k < length xs → x ≡ get_or xs k x → take (k + 1) (map f xs) ≡ take k (map f xs) ++ f x ∷ []
seen-next f xs k x h e =
    take_more (map f xs) k (f x) (rw (length-map xs f) h) ∙ ap (λ y. take k (map f xs) ++ y ∷ []) (get_or-map f xs k x (f x) h ∙ ap f (sym e))

-- an element that a loop reaches, mapped by a function
pub seen_here : {X Y : Type 0} (f : X → Y) (xs : List X) (k : ℕ) (x : X) → k < length xs → x ≡ get_or xs k x → Contains (map f xs) (f x)
seen_here f xs k x h e = Contains-map f xs x (k, h, sym e)

pub all_one_more : {X : Type 0} (p : X → Bool) (xs : List X) (x : X) → list_all p xs ≡ true → p x ≡ true → list_all p (xs ++ x ∷ []) ≡ true
all_one_more p xs x h e = list_all-append p xs (x ∷ []) ∙ and_from (list_all p xs) (p x && true) h (and_from (p x) true e refl)

fails-go : {X : Type 0} (p : X → Bool) (xs : List X) (x : X) (b : Bool) → list_all p xs ≡ b → Contains xs x → p x ≡ false → b ≡ false
fails-go p xs x true h c e = sym (each_passes p xs h x c) ∙ e
fails-go p xs x false h c e = refl

-- a test of all elements fails where one fails
pub all_fail : {X : Type 0} (p : X → Bool) (xs : List X) (x : X) → Contains xs x → p x ≡ false → list_all p xs ≡ false
all_fail p xs x c e = fails-go p xs x (list_all p xs) refl c e

-- a test that always passes passes for all elements
pub all_always : {X : Type 0} (p : X → Bool) (xs : List X) → ((x : X) → p x ≡ true) → list_all p xs ≡ true
all_always p [] h = refl
all_always p (x ∷ xs) h = and_from (p x) (list_all p xs) (h x) (all_always p xs h)

-- the items of a row
abbrev pub row_items : {A Z : Type 0} → Vec A Z → List A
row_items row = row.items

-- what holds of each entry of a row still does after one more is pushed
pub row-pushed : {A : Type 0} (P : ℕ → A → Type 0) (row : List A) (n : ℕ) (a d : A) → length row ≡ n → ((q : ℕ) → q < n → P q (get_or row q d)) → P n a → (q : ℕ) → q < n + 1 → P q (get_or (row ++ a ∷ []) q d)
row-pushed P row n a d len h new q lt =
    elim (lt_or_same q n lt) [
      | inl w ↦ subst (P q) (sym (get_or-append row (a ∷ []) d q (omega arith))) (h q w)
      | inr e ↦ subst (λ m. P m (get_or (row ++ a ∷ []) m d)) (sym e)
          (subst (P n) (sym (ap (λ m. get_or (row ++ a ∷ []) m d) (sym len) ∙ get_or-append_seam row a [] d)) new)
    ]

pub filter_map-found : {A B : Type 0} (f : A → Option B) (x : A) (v : B) → f x ≡ Some v → filter_map f (x ∷ []) ≡ v ∷ []
filter_map-found f x v e = ap (λ o. cons_option o []) e

pub filter_map-missed : {A B : Type 0} (f : A → Option B) (x : A) → f x ≡ None → filter_map f (x ∷ []) ≡ []
filter_map-missed f x e = ap (λ o. cons_option o []) e
