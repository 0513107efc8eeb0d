-- Lemmas on sets of positions.
use Rattle.std.proofs.Common.{◌≡◌, ◌≢◌, ℕ, zero, suc, ◌<◌, ◌≤◌, List, [], ◌∷◌, length, get_or, set, replicate, refl, sym, ◌∙◌, ap, subst, arith, Bool, true, false, ◌⊎◌, inl, inr}
use Rattle.std.specs.Prelude.{◌||◌, not, ◌&&◌, nat_lt}
use Rattle.std.proofs.lemmas.List.{get_or_past, get_or-set_same, get_or-set_other, length-set, length-replicate}
use Rattle.std.proofs.lemmas.List.Folds.{list_any_at}
use Rattle.std.proofs.lemmas.Bool.{both_ways, ltb-true, lt-ltb}
use Rattle.std.proofs.lemmas.Bool.Decides.{eqb_tells}
use Rattle.hack_samples.specs.Sets.{has, has_one_of, has_each, IsInside}
use Rattle.hack_samples.specs.Internal.{may_join, IsSuited}

-- a truth value is one of two
pub told : (b : Bool) → (b ≡ true) ⊎ (b ≡ false)
told true = inl refl
told false = inr refl

pub not_both : {b : Bool} → b ≡ true → b ≡ false → ⊥
not_both {b} t f = both_ways b f t

pub or-false : (a b : Bool) → (a || b) ≡ false → (a ≡ false) × (b ≡ false)
or-false true b h = absurd (not_both refl h)
or-false false b h = (refl, h)

pub or-both : (a b : Bool) → a ≡ false → b ≡ false → (a || b) ≡ false
or-both a b e f = ap (λ c. c || b) e ∙ f

pub and-true : (a b : Bool) → (a && b) ≡ true → (a ≡ true) × (b ≡ true)
and-true true b h = (refl, h)
and-true false b h = absurd (not_both h refl)

pub and-both : (a b : Bool) → a ≡ true → b ≡ true → (a && b) ≡ true
and-both a b e f = ap (λ c. c && b) e ∙ f

not-true-is : (a : Bool) → not a ≡ true → a ≡ false
not-true-is true h = absurd (not_both h refl)
not-true-is false h = refl

-- members are less than the number of positions
pub has-below : (s : List Bool) (p : ℕ) → has s p ≡ true → p < length s
has-below [] p h = absurd (not_both h refl)
has-below (x ∷ s) zero h = omega arith
has-below (x ∷ s) (suc p) h = let lt : p < length s = has-below s p h in omega arith

pub has-past : (s : List Bool) (p : ℕ) → length s ≤ p → has s p ≡ false
has-past s p le = get_or_past s p false le

pub has-set_same : (s : List Bool) (p : ℕ) → p < length s → has (set s p true) p ≡ true
has-set_same s p lt = get_or-set_same s p true false lt

pub has-set_other : (s : List Bool) (p q : ℕ) → q ≢ p → has (set s p true) q ≡ has s q
has-set_other s p q ne = get_or-set_other s p q true false ne

-- what a set with one more member has
pub has-set_cases : (s : List Bool) (p q : ℕ) → has (set s p true) q ≡ true → (p ≡ q) ⊎ (has s q ≡ true)
has-set_cases s p q h =
    elim (eqb_tells p q) [ inl e ↦ inl e.1 | inr w ↦ inr (sym (has-set_other s p q (λ e. w.1 (sym e))) ∙ h) ]

pub has-set_kept : (s : List Bool) (p q : ℕ) → has s q ≡ true → has (set s p true) q ≡ true
has-set_kept s p q h =
    elim (eqb_tells p q) [
      | inl e ↦ subst (λ r. has (set s p true) r ≡ true) e.1 (has-set_same s p (subst (λ r. r < length s) (sym e.1) (has-below s q h)))
      | inr w ↦ has-set_other s p q (λ e. w.1 (sym e)) ∙ h
    ]

-- the empty set has no member
pub has-empty : (n p : ℕ) → has (replicate n false) p ≡ false
has-empty zero p = refl
has-empty (suc n) zero = refl
has-empty (suc n) (suc p) = has-empty n p

-- a set that has no member of a group doesn't have the position at a place of it
pub none-at : (s : List Bool) (group : List ℕ) (i : ℕ) → i < length group → has_one_of s group ≡ false → has s (get_or group i 0) ≡ false
none-at s group i lt none =
    elim (told (has s (get_or group i 0))) [ inr off ↦ off | inl on ↦ absurd (not_both (list_any_at (has s) group i 0 lt on) none) ]

pub inside-self : (s : List Bool) → IsInside s s
inside-self s = record { same = refl; members = λ p h. h }

pub inside-then : (s t u : List Bool) → IsInside s t → IsInside t u → IsInside s u
inside-then s t u a b = record { same = a.same ∙ b.same; members = λ p h. b.members p (a.members p h) }

pub inside-more : (s : List Bool) (p : ℕ) → IsInside s (set s p true)
inside-more s p = record { same = sym (length-set s p true); members = λ q h. has-set_kept s p q h }

-- a set with one more member is inside those that have it
pub inside-join : (s t : List Bool) (p : ℕ) → IsInside s t → has t p ≡ true → IsInside (set s p true) t
inside-join s t p inside h = record {
  same = length-set s p true ∙ inside.same;
  members = λ q m. elim (has-set_cases s p q m) [ inl e ↦ subst (λ r. has t r ≡ true) e h | inr w ↦ inside.members q w ];
}

-- the empty set is inside each
pub inside-empty : (n : ℕ) (e s : List Bool) → e ≡ replicate n false → length s ≡ n → IsInside e s
inside-empty n e s is size = record {
  same = ap length is ∙ length-replicate n false ∙ sym size;
  members = λ p h. absurd (not_both (subst (λ l. has l p ≡ true) is h) (has-empty n p));
}

or-inside : (a b c d : Bool) → (a ≡ true → b ≡ true) → (c ≡ true → d ≡ true) → (a || c) ≡ true → (b || d) ≡ true
or-inside true b c d f g h = ap (λ x. x || d) (f refl)
or-inside false true c d f g h = refl
or-inside false false c d f g h = g h

pub has_one_of-inside : (s t : List Bool) (group : List ℕ) → IsInside s t → has_one_of s group ≡ true → has_one_of t group ≡ true
has_one_of-inside s t [] inside h = h
has_one_of-inside s t (p ∷ group) inside h =
    or-inside (has s p) (has t p) (has_one_of s group) (has_one_of t group) (inside.members p) (has_one_of-inside s t group inside) h

pub has_each-inside : (s t : List Bool) (groups : List (List ℕ)) → IsInside s t → has_each s groups ≡ true → has_each t groups ≡ true
has_each-inside s t [] inside h = h
has_each-inside s t (group ∷ groups) inside h =
    let both = and-true (has_one_of s group) (has_each s groups) h in
    and-both (has_one_of t group) (has_each t groups) (has_one_of-inside s t group inside both.0) (has_each-inside s t groups inside both.1)

-- a suited set with one more member that isn't banned
pub suited-join : (may : List Bool → Bool) (n : ℕ) (banned s : List Bool) (p : ℕ) → IsSuited may n banned s → has banned p ≡ false → may (set s p true) ≡ true → IsSuited may n banned (set s p true)
suited-join may n banned s p suited free allowed = record {
  size = length-set s p true ∙ suited.size;
  allowed = allowed;
  clear = λ q h. has-set_other s p q (λ e. not_both (subst (λ r. has banned r ≡ true) e h) free) ∙ suited.clear q h;
}

-- what holds of a position that may join
pub record Joins (may : List Bool → Bool) (banned s : List Bool) (p : ℕ) : Type 0 where
  pub free : has banned p ≡ false
  pub fresh : has s p ≡ false
  pub below : p < length s
  pub allowed : may (set s p true) ≡ true

pub join-true : (may : List Bool → Bool) (banned s : List Bool) (p : ℕ) → may_join may banned s p ≡ true → Joins may banned s p
join-true may banned s p h =
    let outer = and-true (not (has banned p) && not (has s p) && nat_lt p (length s)) (may (set s p true)) h in
    let middle = and-true (not (has banned p) && not (has s p)) (nat_lt p (length s)) outer.0 in
    let inner = and-true (not (has banned p)) (not (has s p)) middle.0 in
    record { free = not-true-is (has banned p) inner.0; fresh = not-true-is (has s p) inner.1; below = ltb-true p (length s) middle.1; allowed = outer.1 }

-- a position that is new to s and may not join it is in no suited set around s
pub join-false : (may : List Bool → Bool) → ((u v : List Bool) → IsInside u v → may v ≡ true → may u ≡ true)
    → (n : ℕ) (banned s : List Bool) (p : ℕ) → may_join may banned s p ≡ false → has s p ≡ false → (t : List Bool) → IsInside s t → IsSuited may n banned t → has t p ≡ false
join-false may closed n banned s p h fresh t inside suited =
    elim (told (has t p)) [
      | inr off ↦ off
      | inl on ↦ absurd (
          let lt : p < length s = subst (λ m. p < m) (sym inside.same) (has-below t p on) in
          let allowed : may (set s p true) ≡ true = closed (set s p true) t (inside-join s t p inside on) suited.allowed in
          elim (told (has banned p)) [
            | inl banned' ↦ not_both on (suited.clear p banned')
            | inr free ↦ not_both (
                ap (λ b. not b && not (has s p) && nat_lt p (length s) && may (set s p true)) free
                ∙ ap (λ b. not b && nat_lt p (length s) && may (set s p true)) fresh
                ∙ ap (λ b. b && may (set s p true)) (lt-ltb p (length s) lt)
                ∙ allowed) h
          ])
    ]

-- a suited set stays suited by the same rules
pub suited-turned : {may may' : List Bool → Bool} {n n' : ℕ} → may' ≡ may → n' ≡ n → (banned s : List Bool) → IsSuited may n banned s → IsSuited may' n' banned s
suited-turned e f banned s h = record { size = h.size ∙ sym f; allowed = ap (λ m. m s) e ∙ h.allowed; clear = h.clear }

-- what holds of two things holds of things equal to them
pub both_turned : {X Y : Type 0} (P : X → Y → Type 0) {x x' : X} {y y' : Y} → x ≡ x' → y ≡ y' → P x y → P x' y'
both_turned P {x} {x'} {y} {y'} e f h = subst (P x') f (subst (λ z. P z y) e h)
