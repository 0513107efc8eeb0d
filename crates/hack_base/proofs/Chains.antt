-- Tests of elements that are mapped by a function, for chains: `using(hack_base::proofs::Chains::mapped)`.
use Rattle.std.proofs.Common.{◌≡◌, ◌<◌, ℕ, List, [], ◌∷◌, Bool, true, false, Contains, inl, inr, ◌∙◌, ap, map, length, get_or}
use Rattle.std.specs.List.{list_all, list_any}
use Rattle.std.proofs.lemmas.Bool.{and_cases}
use Rattle.hack_base.proofs.Members.{Contains-head, Contains-tail, Contains-map, Contains-map_from}
use Rattle.hack_base.proofs.Passes.{any_passes, some_passes}
use Rattle.hack_base.proofs.Steps.{all_fail}

pub some_fails : {X : Type 0} (p : X → Bool) (xs : List X) → list_all p xs ≡ false → (x : X) × Contains xs x × (p x ≡ false)
some_fails p [] e = absurd (let t : true ≡ false = e in cc)
some_fails p (x ∷ xs) e =
    elim (and_cases (p x) (list_all p xs) e) [
      | inl h ↦ (x, Contains-head x xs, h)
      | inr w ↦ let r = some_fails p xs w in (r.0, Contains-tail x xs r.0 r.1, r.2)
    ]

module _ {X Y : Type 0} (p : Y → Bool) (f : X → Y) (xs : List X) where
  pub any_at : (k : ℕ) (x : X) → k < length xs → get_or xs k x ≡ x → p (f x) ≡ true → list_any p (map f xs) ≡ true
  any_at k x lt is e = any_passes p (map f xs) (f x) (Contains-map f xs x (k, lt, is)) e

  pub any_one : list_any p (map f xs) ≡ true → (x : X) × Contains xs x × (p (f x) ≡ true)
  any_one h =
      let y = some_passes p (map f xs) h in
      let x = Contains-map_from f xs y.0 y.1 in
      (x.0, x.1, ap p x.2 ∙ y.2)

  pub all_at : (k : ℕ) (x : X) → k < length xs → get_or xs k x ≡ x → p (f x) ≡ false → list_all p (map f xs) ≡ false
  all_at k x lt is e = all_fail p (map f xs) (f x) (Contains-map f xs x (k, lt, is)) e

  pub all_one : list_all p (map f xs) ≡ false → (x : X) × Contains xs x × (p (f x) ≡ false)
  all_one h =
      let y = some_fails p (map f xs) h in
      let x = Contains-map_from f xs y.0 y.1 in
      (x.0, x.1, ap p x.2 ∙ y.2)

pub ruleset mapped = (any_at, any_one, all_at, all_one)
