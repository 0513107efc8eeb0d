-- What loops have collected so far, after one more item.
use Rattle.std.proofs.Common.{◌≡◌, ◌∙◌, ℕ, suc, ◌+◌, ◌<◌, ◌≤◌, List, [], ◌∷◌, ◌++◌, length, get_or, map, take, drop, Contains, Option, Some, inl, inr, Bool, true, false, cond, refl, sym, ap, subst, arith}
use Rattle.std.specs.Prelude.{filter}
use Rattle.std.specs.List.{filter_map}
use Rattle.std.proofs.lemmas.List.{length-map, map-append, take_all, take-append-drop, get_or-map}
use Rattle.std.proofs.Math.Seq.{drop-cons}
use Rattle.std.proofs.lemmas.List.Elements.{filter-append, filter_map-append, Contains-push_cases}
use Rattle.hack_base.specs.Notes.{Note, note_if}
use Rattle.hack_base.specs.declared.notice.NoticeKind.{NoticeKind}
use Rattle.hack_base.proofs.Steps.{seen-next, seen_here, filter_map-found}
use Rattle.hack_planner.specs.Members.{Collects, ends, taken, left}

-- the item, if the test is true
abbrev pub only_if : {X : Type 0} → Bool → X → List X
only_if b x = cond b (x ∷ []) []

-- those of the items so far that pass a test, after one more item
pub filter-next : {X Y : Type 0} (p : Y → Bool) (v : X → Y) (xs : List X) (k : ℕ) (x : X) (b : Bool) (old new : List Y) → k < length xs → x ≡ get_or xs k x → b ≡ p (v x)
    → new ≡ old ++ only_if b (v x) → old ≡ filter p (take k (map v xs)) → new ≡ filter p (take (k + 1) (map v xs))
filter-next p v xs k x b old new lt is same grown so_far =
    grown
    ∙ ap (λ t. t ++ only_if b (v x)) so_far
    ∙ ap (λ c. filter p (take k (map v xs)) ++ only_if c (v x)) same
    ∙ sym (filter-append p (take k (map v xs)) (v x ∷ []))
    ∙ ap (filter p) (sym (seen-next v xs k x lt is))

map-only : {Y Z : Type 0} (f : Y → Z) (b : Bool) (y : Y) → map f (only_if b y) ≡ only_if b (f y)
map-only f true y = refl
map-only f false y = refl

-- f of those of the items so far that pass a test, after one more item
pub map-filter-next : {X Y Z : Type 0} (p : Y → Bool) (f : Y → Z) (v : X → Y) (xs : List X) (k : ℕ) (x : X) (b : Bool) (old new : List Z) → k < length xs → x ≡ get_or xs k x → b ≡ p (v x)
    → new ≡ old ++ only_if b (f (v x)) → old ≡ map f (filter p (take k (map v xs))) → new ≡ map f (filter p (take (k + 1) (map v xs)))
map-filter-next p f v xs k x b old new lt is same grown so_far =
    let before = take k (map v xs) in
    grown
    ∙ ap (λ t. t ++ only_if b (f (v x))) so_far
    ∙ ap (λ t. map f (filter p before) ++ t) (sym (map-only f b (v x)))
    ∙ sym (map-append f (filter p before) (only_if b (v x)))
    ∙ ap (map f) (filter-next p v xs k x b (filter p before) (filter p before ++ only_if b (v x)) lt is same refl refl)

-- a notice
abbrev pub note_as : NoticeKind → List ℕ → Note
note_as kind text = record { kind = kind; text = text }

-- notices on those of the items so far that pass a test, after one more item
pub notes-next : {X Y : Type 0} (p : Y → Bool) (kind : NoticeKind) (words : Y → List ℕ) (v : X → Y) (xs : List X) (k : ℕ) (x : X) (b : Bool) (text : List ℕ) (old new : List Note) → k < length xs → x ≡ get_or xs k x → b ≡ p (v x)
    → text ≡ words (v x) → new ≡ old ++ note_if b kind text → old ≡ map (λ y. note_as kind (words y)) (filter p (take k (map v xs)))
    → new ≡ map (λ y. note_as kind (words y)) (filter p (take (k + 1) (map v xs)))
notes-next p kind words v xs k x b text old new lt is same says grown so_far =
    map-filter-next p (λ y. note_as kind (words y)) v xs k x b old new lt is same (grown ∙ ap (λ t. old ++ note_if b kind t) says) so_far

-- all items were seen
pub seen-all : {X Y : Type 0} (v : X → Y) (xs : List X) (k : ℕ) → length xs ≤ k → take k (map v xs) ≡ map v xs
seen-all v xs k past = take_all k (map v xs) (omega (arith, length-map xs v))

pub more-taken : {X Y : Type 0} {P : X → Type 0} {f : X → Y} (xs : List X) (ys : List Y) (x : X) → P x → Collects P f xs ys → Collects P f (xs ++ x ∷ []) (ys ++ f x ∷ [])
more-taken xs ys x h ends = taken h ends
more-taken xs ys x h (taken {x = z} {xs = zs} {ys = ws} g c) = taken g (more-taken zs ws x h c)
more-taken xs ys x h (left {x = z} {xs = zs} {ys = ws} g c) = left g (more-taken zs ws x h c)

pub more-left : {X Y : Type 0} {P : X → Type 0} {f : X → Y} (xs : List X) (ys : List Y) (x : X) → ¬ P x → Collects P f xs ys → Collects P f (xs ++ x ∷ []) ys
more-left xs ys x h ends = left h ends
more-left xs ys x h (taken {x = z} {xs = zs} {ys = ws} g c) = taken g (more-left zs ws x h c)
more-left xs ys x h (left {x = z} {xs = zs} {ys = ws} g c) = left g (more-left zs ws x h c)

-- the next item is one for which P holds
pub collects-taken : {X Y Z : Type 0} (P : Y → Type 0) (f : Y → Z) (v : X → Y) (xs : List X) (k : ℕ) (x : X) (ys new : List Z) → k < length xs → x ≡ get_or xs k x → P (v x)
    → new ≡ ys ++ f (v x) ∷ [] → Collects P f (take k (map v xs)) ys → Collects P f (take (k + 1) (map v xs)) new
collects-taken P f v xs k x ys new lt is h grown c =
    subst (λ t. Collects P f t new) (sym (seen-next v xs k x lt is))
    (subst (λ t. Collects P f (take k (map v xs) ++ v x ∷ []) t) (sym grown) (more-taken (take k (map v xs)) ys (v x) h c))

-- the next item is one for which P doesn't hold
pub collects-left : {X Y Z : Type 0} (P : Y → Type 0) (f : Y → Z) (v : X → Y) (xs : List X) (k : ℕ) (x : X) (ys : List Z) → k < length xs → x ≡ get_or xs k x → ¬ P (v x)
    → Collects P f (take k (map v xs)) ys → Collects P f (take (k + 1) (map v xs)) ys
collects-left P f v xs k x ys lt is h c = subst (λ t. Collects P f t ys) (sym (seen-next v xs k x lt is)) (more-left (take k (map v xs)) ys (v x) h c)

-- all items were seen
pub collects-all : {X Y Z : Type 0} (P : Y → Type 0) (f : Y → Z) (v : X → Y) (xs : List X) (k : ℕ) (ys : List Z) → length xs ≤ k → Collects P f (take k (map v xs)) ys → Collects P f (map v xs) ys
collects-all P f v xs k ys past c = subst (λ t. Collects P f t ys) (seen-all v xs k past) c

-- P holds for none of the items so far, after one more item
pub none-more : {X Y : Type 0} (P : Y → Type 0) (v : X → Y) (xs : List X) (k : ℕ) (x : X) → k < length xs → x ≡ get_or xs k x → ¬ P (v x)
    → ((y : Y) → Contains (take k (map v xs)) y → ¬ P y) → (y : Y) → Contains (take (k + 1) (map v xs)) y → ¬ P y
none-more P v xs k x lt is fails so_far y h =
    elim (Contains-push_cases (take k (map v xs)) (v x) y (subst (λ t. Contains t y) (seen-next v xs k x lt is) h)) [
      | inl old ↦ so_far y old
      | inr same ↦ subst (λ z. ¬ P z) same fails
    ]

-- P holds for each of the items so far, after one more item
pub each-more : {X Y : Type 0} (P : Y → Type 0) (v : X → Y) (xs : List X) (k : ℕ) (x : X) → k < length xs → x ≡ get_or xs k x → P (v x)
    → ((y : Y) → Contains (take k (map v xs)) y → P y) → (y : Y) → Contains (take (k + 1) (map v xs)) y → P y
each-more P v xs k x lt is holds so_far y h =
    elim (Contains-push_cases (take k (map v xs)) (v x) y (subst (λ t. Contains t y) (seen-next v xs k x lt is) h)) [
      | inl old ↦ so_far y old
      | inr same ↦ subst P same holds
    ]

-- an item is among all of them
pub here : {X Y : Type 0} (v : X → Y) (xs : List X) (k : ℕ) (x : X) → k < length xs → x ≡ get_or xs k x → Contains (map v xs) (v x)
here v xs k x lt is = seen_here v xs k x lt is

-- the items are those before one of them, that one, and those after it
pub round : {X Y : Type 0} (v : X → Y) (xs : List X) (k : ℕ) (x : X) → k < length xs → x ≡ get_or xs k x → map v xs ≡ take k (map v xs) ++ v x ∷ drop (suc k) (map v xs)
round v xs k x lt is =
    let inside : k < length (map v xs) = omega (arith, length-map xs v) in
    sym (take-append-drop k (map v xs))
    ∙ ap (λ t. take k (map v xs) ++ t) (drop-cons (map v xs) k (v x) inside)
    ∙ ap (λ y. take k (map v xs) ++ y ∷ drop (suc k) (map v xs)) (get_or-map v xs k x (v x) lt ∙ ap v (sym is))

-- what f gives for the items so far, after one more item
pub filter_map-next : {X Y Z : Type 0} (f : Y → Option Z) (v : X → Y) (xs : List X) (k : ℕ) (x : X) (y : Z) (old new : List Z) → k < length xs → x ≡ get_or xs k x → f (v x) ≡ Some y
    → new ≡ old ++ y ∷ [] → old ≡ filter_map f (take k (map v xs)) → new ≡ filter_map f (take (k + 1) (map v xs))
filter_map-next f v xs k x y old new lt is found grown so_far =
    grown
    ∙ ap (λ t. t ++ y ∷ []) so_far
    ∙ ap (λ t. filter_map f (take k (map v xs)) ++ t) (sym (filter_map-found f (v x) y found))
    ∙ sym (filter_map-append f (take k (map v xs)) (v x ∷ []))
    ∙ ap (filter_map f) (sym (seen-next v xs k x lt is))
