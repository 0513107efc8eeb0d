use Rattle.std.proofs.Common.{◌≡◌, ◌≢◌, ℕ, ◌+◌, ◌<◌, List, [], ◌∷◌, ◌++◌, refl, sym, ◌∙◌, ap, subst, arith, map, Bool, true, false, cond, ◌⊎◌, inl, inr, Contains, filter, IsTrue}
use Rattle.std.proofs.lemmas.Bool.Decides.{eqb_tells}
use Rattle.std.proofs.lemmas.List.Elements.{Contains-append_right, Contains-append_cases, Contains-push_cases}

-- a list is empty or has a last element
pub last_of : {X : Type 0} (s : List X) → (s ≡ []) ⊎ ((t : List X) × (p : X) × (s ≡ t ++ p ∷ []))
last_of [] = inl refl
last_of (x ∷ s) =
    elim (last_of s) [ inl e ↦ inr ([], x, ap (λ t. x ∷ t) e) | inr w ↦ inr (x ∷ w.0, w.1, ap (λ t. x ∷ t) w.2) ]

Contains-append_cases-one : {X : Type 0} (y : X) (xs : List X) (x : X) → Contains (y ∷ []) x ⊎ Contains xs x → (y ≡ x) ⊎ Contains xs x
Contains-append_cases-one y xs x (inl h) = inl (elim (Contains-push_cases [] y x h) [ inl w ↦ absurd (omega (arith, w.1)) | inr e ↦ e ])
Contains-append_cases-one y xs x (inr h) = inr h

-- what a list with a first element contains
pub Contains-cons_cases : {X : Type 0} (y : X) (xs : List X) (x : X) → Contains (y ∷ xs) x → (y ≡ x) ⊎ Contains xs x
Contains-cons_cases y xs x h = Contains-append_cases-one y xs x (Contains-append_cases (y ∷ []) xs x h)

pub Contains-head : {X : Type 0} (y : X) (xs : List X) → Contains (y ∷ xs) y
Contains-head y xs = (0, omega arith, refl)

pub Contains-tail : {X : Type 0} (y : X) (xs : List X) (x : X) → Contains xs x → Contains (y ∷ xs) x
Contains-tail y xs x h = Contains-append_right (y ∷ []) xs x h

pub Contains-nil : {X : Type 0} (x : X) → Contains [] x → ⊥
Contains-nil x h = omega (arith, h.1)

-- what a mapped list contains comes from an element
pub Contains-map : {X Y : Type 0} (f : X → Y) (xs : List X) (x : X) → Contains xs x → Contains (map f xs) (f x)
Contains-map f [] x h = absurd (Contains-nil x h)
Contains-map f (y ∷ xs) x h =
    elim (Contains-cons_cases y xs x h) [
      | inl e ↦ subst (λ z. Contains (map f (y ∷ xs)) (f z)) e (Contains-head (f y) (map f xs))
      | inr w ↦ Contains-tail (f y) (map f xs) (f x) (Contains-map f xs x w)
    ]

pub Contains-map_from : {X Y : Type 0} (f : X → Y) (xs : List X) (y : Y) → Contains (map f xs) y → (x : X) × Contains xs x × (f x ≡ y)
Contains-map_from f [] y h = absurd (Contains-nil y h)
Contains-map_from f (z ∷ xs) y h =
    elim (Contains-cons_cases (f z) (map f xs) y h) [
      | inl e ↦ (z, Contains-head z xs, e)
      | inr w ↦ let r = Contains-map_from f xs y w in (r.0, Contains-tail z xs r.0 r.1, r.2)
    ]

Contains-filter-step : {X : Type 0} (p : X → Bool) (y : X) (xs : List X) (x : X) (b : Bool) → p y ≡ b → p x ≡ true → (y ≡ x) ⊎ Contains xs x → (Contains xs x → Contains (filter p xs) x) → Contains (cond b (y ∷ filter p xs) (filter p xs)) x
Contains-filter-step p y xs x true e k (inl h) ih = subst (λ z. Contains (y ∷ filter p xs) z) h (Contains-head y (filter p xs))
Contains-filter-step p y xs x true e k (inr h) ih = Contains-tail y (filter p xs) x (ih h)
Contains-filter-step p y xs x false e k (inl h) ih = absurd (let t : true ≡ false = sym k ∙ (sym (ap p h) ∙ e) in cc)
Contains-filter-step p y xs x false e k (inr h) ih = ih h

pub Contains-filter : {X : Type 0} (p : X → Bool) (xs : List X) (x : X) → Contains xs x → p x ≡ true → Contains (filter p xs) x
Contains-filter p [] x h k = absurd (Contains-nil x h)
Contains-filter p (y ∷ xs) x h k = Contains-filter-step p y xs x (p y) refl k (Contains-cons_cases y xs x h) (λ w. Contains-filter p xs x w k)

Contains-filter_from-step : {X : Type 0} (p : X → Bool) (y : X) (xs : List X) (x : X) (b : Bool) → p y ≡ b → Contains (cond b (y ∷ filter p xs) (filter p xs)) x → (Contains (filter p xs) x → Contains xs x × (p x ≡ true)) → Contains (y ∷ xs) x × (p x ≡ true)
Contains-filter_from-step p y xs x true e h ih =
    elim (Contains-cons_cases y (filter p xs) x h) [
      | inl w ↦ (subst (λ z. Contains (y ∷ xs) z) w (Contains-head y xs), sym (ap p w) ∙ e)
      | inr w ↦ let r = ih w in (Contains-tail y xs x r.0, r.1)
    ]
Contains-filter_from-step p y xs x false e h ih = let r = ih h in (Contains-tail y xs x r.0, r.1)

pub Contains-filter_from : {X : Type 0} (p : X → Bool) (xs : List X) (x : X) → Contains (filter p xs) x → Contains xs x × (p x ≡ true)
Contains-filter_from p [] x h = absurd (Contains-nil x h)
Contains-filter_from p (y ∷ xs) x h = Contains-filter_from-step p y xs x (p y) refl h (Contains-filter_from p xs x)

pub lt_or_same : (p n : ℕ) → p < n + 1 → (p < n) ⊎ (p ≡ n)
lt_or_same p n h = elim (eqb_tells p n) [ inl e ↦ inr e.1 | inr w ↦ inl (let ne : p ≢ n = w.1 in omega arith) ]

-- what the outcome of a test implies
pub not_from : {P : Type 0} (b : Bool) → b ≡ false → (P → IsTrue b) → ¬ P
not_from b e k = λ p. let t : b ≡ true = k p in let c : true ≡ false = sym t ∙ e in cc
