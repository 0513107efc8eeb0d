-- Tests of all and of some elements, and sums, of a list and of the list without one element.
use Rattle.std.proofs.Common.{◌≡◌, ℕ, zero, suc, List, [], ◌∷◌, refl, sym, subst, Bool, true, false, inl, inr, Contains}
use Rattle.std.specs.Prelude.{◌||◌}
use Rattle.std.specs.List.{list_all, list_any, remove}
use Rattle.std.proofs.lemmas.Bool.{and_parts, and_from, or_cases}
use Rattle.hack_base.proofs.Members.{Contains-nil, Contains-cons_cases, Contains-head, Contains-tail}

pub all_pass : {X : Type 0} (p : X → Bool) (xs : List X) → ((x : X) → Contains xs x → p x ≡ true) → list_all p xs ≡ true
all_pass p [] h = refl
all_pass p (x ∷ xs) h = and_from (p x) (list_all p xs) (h x (Contains-head x xs)) (all_pass p xs (λ y c. h y (Contains-tail x xs y c)))

pub each_passes : {X : Type 0} (p : X → Bool) (xs : List X) → list_all p xs ≡ true → (x : X) → Contains xs x → p x ≡ true
each_passes p [] h x c = absurd (Contains-nil x c)
each_passes p (y ∷ xs) h x c =
    let w = and_parts (p y) (list_all p xs) h in
    elim (Contains-cons_cases y xs x c) [ inl e ↦ subst (λ z. p z ≡ true) e w.0 | inr v ↦ each_passes p xs w.1 x v ]

pub some_passes : {X : Type 0} (p : X → Bool) (xs : List X) → list_any p xs ≡ true → (x : X) × Contains xs x × (p x ≡ true)
some_passes p [] h = absurd (let e : false ≡ true = h in cc)
some_passes p (y ∷ xs) h =
    elim (or_cases (p y) (list_any p xs) h) [
      | inl e ↦ (y, Contains-head y xs, e)
      | inr w ↦ let r = some_passes p xs w in (r.0, Contains-tail y xs r.0 r.1, r.2)
    ]

or_true_left : (a b : Bool) → a ≡ true → (a || b) ≡ true
or_true_left true b e = refl
or_true_left false b e = absurd (cc)

or_true_right : (a b : Bool) → b ≡ true → (a || b) ≡ true
or_true_right true b e = refl
or_true_right false b e = e

pub any_passes : {X : Type 0} (p : X → Bool) (xs : List X) (x : X) → Contains xs x → p x ≡ true → list_any p xs ≡ true
any_passes p [] x c e = absurd (Contains-nil x c)
any_passes p (y ∷ xs) x c e =
    elim (Contains-cons_cases y xs x c) [
      | inl s ↦ or_true_left (p y) (list_any p xs) (subst (λ z. p z ≡ true) (sym s) e)
      | inr w ↦ or_true_right (p y) (list_any p xs) (any_passes p xs x w e)
    ]

-- a member of the list without one element is a member of the list
pub removed_member : {X : Type 0} (xs : List X) (i : ℕ) (x : X) → Contains (remove xs i) x → Contains xs x
removed_member [] zero x c = absurd (Contains-nil x c)
removed_member [] (suc i) x c = absurd (Contains-nil x c)
removed_member (y ∷ xs) zero x c = Contains-tail y xs x c
removed_member (y ∷ xs) (suc i) x c =
    elim (Contains-cons_cases y (remove xs i) x c) [
      | inl e ↦ subst (λ z. Contains (y ∷ xs) z) e (Contains-head y xs)
      | inr w ↦ Contains-tail y xs x (removed_member xs i x w)
    ]
