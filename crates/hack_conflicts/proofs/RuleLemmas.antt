-- A set without a position and all that enable it, and how many members sets have.
use Rattle.std.proofs.Common.{◌≡◌, ◌<◌, ◌≤◌, ℕ, zero, suc, List, length, arith, Bool, true, false, cond, sym, ◌∙◌, subst, inl, inr, ◌≢◌, refl, replicate}
use Rattle.std.specs.Prelude.{not}
use Rattle.std.proofs.lemmas.Bool.{false≢true, cases_eq, cases_Bool, and_parts, and_from, not-true, not_from_false, both_ways}
use Rattle.std.proofs.lemmas.List.{length-replicate, get_or-replicate}
use Rattle.hack_conflicts.proofs.SetLemmas.{has_below}
use Rattle.hack_conflicts.specs.Sets.{Has, mark, IsWithin}
use Rattle.hack_conflicts.specs.Rules.{enables, IsPreorder, IsClosed, size_of}
use Rattle.hack_conflicts.specs.Internal.{members, IsWithout}
use Rattle.hack_conflicts.specs.declared.rules.Rules.{Rules}

module _ (r : Rules) (x : ℕ) (s t : List Bool) (w : IsWithout r x s t) where
  parts : (p : ℕ) → Has t p → Has s p × (not (enables r p x) ≡ true)
  parts p h = and_parts (mark s p) (not (enables r p x)) (sym (w p) ∙ h)

  pub without_within : IsWithin t s
  without_within p h = (parts p h).0

  pub without_lacks : IsPreorder r → x < size_of r → ¬ Has t x
  without_lacks o lt h = both_ways (enables r x x) (not-true (enables r x x) (parts x h).1) (o.reflexive x lt)

  kept_by : (p : ℕ) → Has s p → (enables r p x ≡ true → ⊥) → Has t p
  kept_by p h unless = w p ∙ and_from (mark s p) (not (enables r p x)) h (elim (cases_Bool (enables r p x)) [ inl e ↦ absurd (unless e) | inr e ↦ not_from_false (enables r p x) e ])

  pub without_closed : IsPreorder r → IsClosed r s → IsClosed r t
  without_closed o c = record {
    below = λ p h. c.below p (parts p h).0;
    whole = λ p q h e. kept_by q (c.whole p q (parts p h).0 e) (λ up. both_ways (enables r p x) (not-true (enables r p x) (parts p h).1) (o.transitive p q x e up));
  }

  pub without_around : (u : List Bool) → IsClosed r u → IsWithin u s → ¬ Has u x → IsWithin u t
  without_around u c h lacks p has = kept_by p (h p has) (λ up. lacks (c.whole p x has up))

-- how many members

not_more : (x y : Bool) (i j : ℕ) → (x ≡ true → y ≡ true) → i ≤ j → cond x (suc i) i ≤ cond y (suc j) j
not_more true true i j h le = omega arith
not_more true false i j h le = absurd (false≢true (h refl))
not_more false true i j h le = omega arith
not_more false false i j h le = omega arith

pub members_within : (n : ℕ) (s t : List Bool) → IsWithin s t → members n s ≤ members n t
members_within zero s t h = omega arith
members_within (suc n) s t h = not_more (mark s n) (mark t n) (members n s) (members n t) (h n) (members_within n s t h)

one_fewer : (x y : Bool) (i j : ℕ) → (x ≡ true → y ≡ true) → i < j → cond x (suc i) i < cond y (suc j) j
one_fewer true true i j h le = omega arith
one_fewer true false i j h le = absurd (false≢true (h refl))
one_fewer false true i j h le = omega arith
one_fewer false false i j h le = omega arith

last_fewer : (x y : Bool) (i j : ℕ) → (x ≡ true → ⊥) → y ≡ true → i ≤ j → cond x (suc i) i < cond y (suc j) j
last_fewer true y i j unless e le = absurd (unless refl)
last_fewer false true i j unless e le = omega arith
last_fewer false false i j unless e le = absurd (false≢true e)

-- a set inside another that lacks a member of it has fewer
pub members_fewer : (n : ℕ) (s t : List Bool) → IsWithin s t → (p : ℕ) → p < n → Has t p → ¬ Has s p → members n s < members n t
members_fewer zero s t h p lt has lacks = absurd (omega arith)
members_fewer (suc n) s t h p lt has lacks = elim (cases_eq p n) [
  | inl e ↦ last_fewer (mark s n) (mark t n) (members n s) (members n t) (subst (λ k. ¬ Has s k) e lacks) (subst (Has t) e has) (members_within n s t h)
  | inr ne ↦ one_fewer (mark s n) (mark t n) (members n s) (members n t) (h n) (members_fewer n s t h p (let other : p ≢ n = ne in omega arith) has lacks)
]

at_most : (b : Bool) (i n : ℕ) → i ≤ n → cond b (suc i) i ≤ suc n
at_most true i n le = omega arith
at_most false i n le = omega arith

pub members_most : (n : ℕ) (s : List Bool) → members n s ≤ n
members_most zero s = omega arith
members_most (suc n) s = at_most (mark s n) (members n s) n (members_most n s)

-- the set of all positions

pub full_closed : (r : Rules) → IsPreorder r → IsClosed r (replicate (size_of r) true)
full_closed r o = record {
  below = λ p h. let lt : p < length (replicate (size_of r) true) = has_below (replicate (size_of r) true) p h in let n : length (replicate (size_of r) true) ≡ size_of r = length-replicate (size_of r) true in omega arith;
  whole = λ p q h e. get_or-replicate (size_of r) q true false (o.below p q e);
}

pub full_around : (r : Rules) (s : List Bool) → IsClosed r s → IsWithin s (replicate (size_of r) true)
full_around r s c p h = get_or-replicate (size_of r) p true false (c.below p h)
