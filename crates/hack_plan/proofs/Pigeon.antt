-- An increasing list whose elements are all in another one is not longer than it.
use Rattle.std.proofs.Common.{◌≡◌, ◌⊎◌, ℕ, zero, suc, ◌<◌, ◌≤◌, ◌^◌, List, [], ◌∷◌, length, arith, ap, sym, ◌∙◌, subst, inl, inr, get_or, Option, Some, None}
use Rattle.std.specs.Prelude.{IsSomeAnd}
use Rattle.std.specs.List.{AllPairs, Contains}
use Rattle.std.proofs.lemmas.List.{get_or_default}
use Rattle.std.proofs.lemmas.List.Elements.{All-contains, Contains-get_or}
use Rattle.hack_versions.specs.declared.version.Version.{Version}
use Rattle.hack_versions.proofs.OrderLemmas.{before-trans, before-self}
use Rattle.hack_plan.specs.declared.places.PlanEntry.{PlanEntry}
use Rattle.hack_plan.specs.Entries.{Lists, AreTooMany, Before, IsOlder}

pub trio : (i j : ℕ) → (i < j) ⊎ (i ≡ j) ⊎ (j < i)
trio i j = grind arith

at-place : {X : Type 0} (ys : List X) (x d : X) (c : Contains ys x) → get_or ys c.0 d ≡ x
at-place ys x d c = get_or_default ys c.0 d x c.1 ∙ c.2

-- of two elements of an increasing list, the lesser comes first
stands-first : {X : Type 0} (R : X → X → Type 0) (strict : (a b : X) → R a b → R b a → ⊥) (ys : List X) → AllPairs R ys → (a b : X) (c : Contains ys a) (e : Contains ys b) → R a b → c.0 < e.0
stands-first {X} R strict ys pairs a b c e r = elim (trio c.0 e.0) [
  | inl l ↦ l
  | inr k ↦ elim k [
    | inl s ↦ let same : a ≡ b = sym (at-place ys a a c) ∙ ap (λ (n : ℕ). get_or ys n a) s ∙ at-place ys b a e in absurd (strict a b r (subst (λ (x : X). R b x) (sym same) (subst (λ (x : X). R x b) same r)))
    | inr l ↦ absurd (strict a b r (subst (λ (x : X). R b x) (at-place ys a a c) (subst (λ (x : X). R x (get_or ys c.0 a)) (at-place ys b a e) (pairs e.0 c.0 a l c.1))))
  ]
]

-- the element at i is at i or later in the other list
stands-late : {X : Type 0} (R : X → X → Type 0) (strict : (a b : X) → R a b → R b a → ⊥) (xs ys : List X) → AllPairs R xs → AllPairs R ys → ((x : X) → Contains xs x → Contains ys x) → (i : ℕ) (d : X) → i < length xs → (c : Contains ys (get_or xs i d)) → i ≤ c.0
stands-late R strict xs ys f g sub zero d l c = omega arith
stands-late R strict xs ys f g sub (suc i) d l c =
    let m : i < length xs = omega arith in
    let p : Contains ys (get_or xs i d) = sub (get_or xs i d) (Contains-get_or xs i d m) in
    let late : i ≤ p.0 = stands-late R strict xs ys f g sub i d m p in
    let next : p.0 < c.0 = stands-first R strict ys g (get_or xs i d) (get_or xs (suc i) d) p c (f i (suc i) d (omega arith) l) in
    omega (arith, late, next)

pub no-longer : {X : Type 0} (R : X → X → Type 0) (strict : (a b : X) → R a b → R b a → ⊥) (xs ys : List X) → AllPairs R xs → AllPairs R ys → ((x : X) → Contains xs x → Contains ys x) → length xs ≤ length ys
no-longer R strict [] ys f g sub = omega arith
no-longer R strict (x ∷ xs) ys f g sub =
    let l : length xs < length (x ∷ xs) = omega arith in
    let c : Contains ys (get_or (x ∷ xs) (length xs) x) = sub (get_or (x ∷ xs) (length xs) x) (Contains-get_or (x ∷ xs) (length xs) x l) in
    let late : length xs ≤ c.0 = stands-late R strict (x ∷ xs) ys f g sub (length xs) x l c in
    omega (arith, late, c.1)

abbrev IsLower : Option ℕ → Option ℕ → Type 0
IsLower a b = IsSomeAnd a (λ p. IsSomeAnd b (λ q. p < q))

abbrev ByPackage : PlanEntry → PlanEntry → Type 0
ByPackage a b = IsLower a.package b.package ⊎ ((a.package ≡ b.package) × (a.rank < b.rank))

abbrev BySlot : PlanEntry → PlanEntry → Type 0
BySlot a b = (a.slot < b.slot) ⊎ ((a.slot ≡ b.slot) × ByPackage a b)

lower-strict : (a b : Option ℕ) → IsLower a b → IsLower b a → ⊥
lower-strict None b f g = f
lower-strict (Some a) None f g = g
lower-strict (Some a) (Some b) f g = absurd (omega arith)

lower-apart : (a b : Option ℕ) → IsLower a b → a ≡ b → ⊥
lower-apart None b f e = f
lower-apart (Some a) None f e = cc
lower-apart (Some a) (Some b) f e = lower-strict (Some a) (Some b) f (subst (λ v. IsLower v (Some a)) e (subst (IsLower (Some a)) (sym e) f))

rank-strict : (a b : PlanEntry) → ByPackage a b → ByPackage b a → ⊥
rank-strict a b (inl f) (inl g) = lower-strict a.package b.package f g
rank-strict a b (inl f) (inr g) = lower-apart a.package b.package f (sym g.0)
rank-strict a b (inr f) (inl g) = lower-apart b.package a.package g (sym f.0)
rank-strict a b (inr f) (inr g) = absurd (omega (arith, f.1, g.1))

slot-strict : (a b : PlanEntry) → BySlot a b → BySlot b a → ⊥
slot-strict a b (inl f) (inl g) = absurd (omega arith)
slot-strict a b (inl f) (inr g) = absurd (omega (arith, g.0))
slot-strict a b (inr f) (inl g) = absurd (omega (arith, f.0))
slot-strict a b (inr f) (inr g) = rank-strict a b f.1 g.1

older-strict : (a b : Option Version) → IsOlder a b → IsOlder b a → ⊥
older-strict None b f g = f
older-strict (Some a) None f g = g
older-strict (Some a) (Some b) f g = before-self a (before-trans a b a f g)

older-apart : (a b : Option Version) → IsOlder a b → a ≡ b → ⊥
older-apart None b f e = f
older-apart (Some a) None f e = cc
older-apart (Some a) (Some b) f e = older-strict (Some a) (Some b) f (subst (λ v. IsOlder v (Some a)) e (subst (IsOlder (Some a)) (sym e) f))

pub before-strict : (a b : PlanEntry) → Before a b → Before b a → ⊥
before-strict a b (inl f) (inl g) = older-strict a.version b.version f g
before-strict a b (inl f) (inr g) = older-apart a.version b.version f (sym g.0)
before-strict a b (inr f) (inl g) = older-apart b.version a.version g (sym f.0)
before-strict a b (inr f) (inr g) = slot-strict a b f.1 g.1

-- where a short list has all that pass, no long list of such exists
pub not-too-many : (P Q : PlanEntry → Type 0) (entries : List PlanEntry) → ((q : PlanEntry) → Q q → P q) → Lists P entries → length entries < 2 ^ 32 → AreTooMany Q → ⊥
not-too-many P Q entries same lists short many =
    let fits : length many.entries ≤ length entries = no-longer Before before-strict many.entries entries many.increasing lists.increasing (λ q c. lists.complete q (same q (All-contains Q many.entries q many.sound c))) in
    absurd (omega (arith, fits, short, many.many))
