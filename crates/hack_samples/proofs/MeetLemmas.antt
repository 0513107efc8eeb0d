-- Lemmas on sets that meet groups, and on calls that find one or none.
use Rattle.std.proofs.Common.{◌≡◌, ℕ, ◌+◌, ◌<◌, List, [], ◌∷◌, length, get_or, set, take, refl, ◌∙◌, arith, Bool, true, false, inl, inr, Option, Some, None, Result, Ok, Err, MatchOption, IfOk, IfSome, is_some}
use Rattle.std.proofs.lemmas.List.Folds.{list_any_at, list_any_more}
use Rattle.hack_samples.specs.Sets.{has, has_one_of, has_each, IsInside}
use Rattle.hack_samples.specs.Internal.{Meets, NoneMeets}
use Rattle.hack_samples.proofs.SetLemmas.{told, not_both, or-both, and-true, and-both, has-set_same, inside-join}

-- what a call found is passed on: no set stays no set, and a set stays that set
pub passed : {X E : Type 0} (N N' : Type 0) (M M' I : X → Type 0) (r : Result (Option X) E) → IfOk r (λ o. MatchOption o N' M') → IfOk r (λ o. IfSome o I) → (N' → N) → ((v : X) → M' v → I v → M v)
    → IfOk r (λ o. MatchOption o N M)
passed N N' M M' I (Ok None) h i f k = f h
passed N N' M M' I (Ok (Some v)) h i f k = k v h i
passed N N' M M' I (Err e) h i f k = h

pub turned : {X E : Type 0} (N N' : Type 0) (M M' : X → Type 0) (r : Result (Option X) E) → IfOk r (λ o. MatchOption o N' M') → (N' → N) → ((v : X) → M' v → M v) → IfOk r (λ o. MatchOption o N M)
turned N N' M M' (Ok None) h f k = f h
turned N N' M M' (Ok (Some v)) h f k = k v h
turned N N' M M' (Err e) h f k = h

pub some-passed : {X : Type 0} (N N' : Type 0) (M M' I : X → Type 0) (o : Option X) → is_some o ≡ true → MatchOption o N' M' → IfSome o I → ((v : X) → M' v → I v → M v) → MatchOption o N M
some-passed N N' M M' I None is h i k = absurd (not_both is refl)
some-passed N N' M M' I (Some v) is h i k = k v h i

pub some-turned : {X : Type 0} (N N' : Type 0) (M M' : X → Type 0) (o : Option X) → is_some o ≡ true → MatchOption o N' M' → ((v : X) → M' v → M v) → MatchOption o N M
some-turned N N' M M' None is h k = absurd (not_both is refl)
some-turned N N' M M' (Some v) is h k = k v h

pub none-passed : {X : Type 0} (N : Type 0) (M : X → Type 0) (o : Option X) → is_some o ≡ false → MatchOption o N M → N
none-passed N M None is h = h
none-passed N M (Some v) is h = absurd (not_both refl is)

pub none-here : {X : Type 0} (N : Type 0) (M : X → Type 0) (o : Option X) → ((v : X) → o ≡ Some v → ⊥) → MatchOption o N M → N
none-here N M None not h = h
none-here N M (Some v) not h = absurd (not v refl)

pub some-inside : {X : Type 0} (I J : X → Type 0) (o : Option X) → IfSome o I → ((v : X) → I v → J v) → IfSome o J
some-inside I J None h k = h
some-inside I J (Some v) h k = k v h

module _ (may : List Bool → Bool) (n : ℕ) where
  pub meets-tail : (group : List ℕ) (groups : List (List ℕ)) (banned s : List Bool) → Meets may n (group ∷ groups) banned s → Meets may n groups banned s
  meets-tail group groups banned s h = record { suited = h.suited; met = (and-true (has_one_of s group) (has_each s groups) h.met).1 }

  pub meets-head : (group : List ℕ) (groups : List (List ℕ)) (banned s : List Bool) → Meets may n (group ∷ groups) banned s → has_one_of s group ≡ true
  meets-head group groups banned s h = (and-true (has_one_of s group) (has_each s groups) h.met).0

  pub meets-cons : (group : List ℕ) (groups : List (List ℕ)) (banned s : List Bool) → has_one_of s group ≡ true → Meets may n groups banned s → Meets may n (group ∷ groups) banned s
  meets-cons group groups banned s here h = record { suited = h.suited; met = and-both (has_one_of s group) (has_each s groups) here h.met }

  -- if no set with p meets the other groups, then a set that meets all groups doesn't have p
  pub tried : (group : List ℕ) (groups : List (List ℕ)) (banned s : List Bool) (p : ℕ) → NoneMeets may n groups banned (set s p true) → (t : List Bool) → IsInside s t → Meets may n (group ∷ groups) banned t → has t p ≡ false
  tried group groups banned s p none t inside h =
      elim (told (has t p)) [
        | inr off ↦ off
        | inl on ↦ absurd (none t (inside-join s t p inside on) (meets-tail group groups banned t h))
      ]

  -- a set that has p of the group, and meets the rest
  pub meets-here : (group : List ℕ) (groups : List (List ℕ)) (banned s t : List Bool) (i : ℕ) → i < length group → get_or group i 0 < length s
      → IsInside (set s (get_or group i 0) true) t → Meets may n groups banned t → Meets may n (group ∷ groups) banned t
  meets-here group groups banned s t i lt below inside h =
      meets-cons group groups banned t (list_any_at (has t) group i 0 lt (inside.members (get_or group i 0) (has-set_same s (get_or group i 0) below))) h

pub tried-more : (group : List ℕ) (i : ℕ) (t : List Bool) → i < length group → has_one_of t (take i group) ≡ false → has t (get_or group i 0) ≡ false → has_one_of t (take (i + 1) group) ≡ false
tried-more group i t lt before now = list_any_more (has t) group i 0 lt ∙ or-both _ _ before now

pub no-items : {X : Type 0} (xs : List X) → length xs ≡ 0 → xs ≡ []
no-items [] h = refl
no-items (x ∷ xs) h = absurd (omega (arith, h))
