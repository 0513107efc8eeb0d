-- How the parts of a plan grow.
use Rattle.std.proofs.Common.{◌≡◌, ◌⊎◌, ℕ, ◌+◌, ◌<◌, ◌≤◌, List, [], ◌∷◌, length, take, arith, ap, sym, ◌∙◌, subst, inl, inr, get_or, slice_index, Option, Some, None, true, false}
use Rattle.std.specs.Prelude.{IsSomeAnd}
use Rattle.std.specs.List.{AllPairs, Contains}
use Rattle.std.proofs.lemmas.List.{take_more, length-take-le, get_or-take, get_or_default}
use Rattle.std.proofs.lemmas.List.Elements.{Contains-append_left, Contains-push, Contains-push_cases, Contains-get_or}
use Rattle.hack_versions.specs.declared.version.Version.{Version}
use Rattle.hack_plan.specs.declared.places.PlanEntry.{PlanEntry}
use Rattle.hack_plan.specs.Entries.{AddsEntries, Overfills, Before}
use Rattle.hack_plan.specs.Parts.{InVersion}
use Rattle.hack_plan.specs.Internal.{InBlock, InSlot}
use Rattle.hack_plan.proofs.Joins.{Adds-then, Overfills-then}

-- each member of a prefix is below the next element
below_next : (xs : List ℕ) (i x : ℕ) → AllPairs (λ a b. a < b) xs → i < length xs → Contains (take i xs) x → x < get_or xs i 0
below_next xs i x pairs h m =
    let k : m.0 < i = omega (arith, m.1, length-take-le i xs (omega arith)) in
    let e : get_or xs m.0 x ≡ x = sym (get_or-take i xs m.0 x k) ∙ m.2 in
    subst (λ y. y < get_or xs i 0) e (rw (get_or_default xs i 0 x h) (pairs m.0 i x k h))

lt_or_eq : (a b : ℕ) → a < b + 1 → (a < b) ⊎ (a ≡ b)
lt_or_eq a b h = grind arith

pub Contains-take_more : {X : Type 0} (xs : List X) (i : ℕ) (d x : X) → i < length xs → Contains (take (i + 1) xs) x → Contains (take i xs) x ⊎ (get_or xs i d ≡ x)
Contains-take_more xs i d x h m = Contains-push_cases (take i xs) (get_or xs i d) x (subst (λ ys. Contains ys x) (take_more xs i d h) m)

pub Contains-take_up : {X : Type 0} (xs : List X) (i : ℕ) (d x : X) → i < length xs → Contains (take i xs) x → Contains (take (i + 1) xs) x
Contains-take_up xs i d x h m = subst (λ ys. Contains ys x) (sym (take_more xs i d h)) (Contains-append_left (take i xs) (get_or xs i d ∷ []) x m)

pub Contains-take_last : {X : Type 0} (xs : List X) (i : ℕ) (d : X) → i < length xs → Contains (take (i + 1) xs) (get_or xs i d)
Contains-take_last xs i d h = subst (λ ys. Contains ys (get_or xs i d)) (sym (take_more xs i d h)) (Contains-push (take i xs) (get_or xs i d))

lower-some : (x y : Option ℕ) (m n : ℕ) → x ≡ Some m → y ≡ Some n → m < n → IsSomeAnd x (λ p. IsSomeAnd y (λ q. p < q))
lower-some x y m n e f l = rw (e, f) l

slot-before : (version : Option Version) (slot i n : ℕ) (members runs : List ℕ) → AllPairs (λ a b. a < b) members → i < length members → (a b : PlanEntry) → InSlot version slot (take i members) runs a → InBlock version slot (Some (get_or members i 0)) n b → Before a b
slot-before version slot i n members runs pairs h a b p q = inr (p.0 ∙ sym q.0, inr (p.1 ∙ sym q.1, inl (lower-some a.package b.package p.2.0 (get_or members i 0) p.2.1 q.2 (below_next members i p.2.0 pairs h p.2.2))))

slot-right : (version : Option Version) (slot i n : ℕ) (members runs : List ℕ) → i < length members → n ≡ slice_index runs (get_or members i 0) → (q : PlanEntry) → InBlock version slot (Some (get_or members i 0)) n q → InSlot version slot (take (i + 1) members) runs q
slot-right version slot i n members runs h e q p = (p.0, p.1, (get_or members i 0, p.2, Contains-take_last members i 0 h, rw (← e) p.3))

pub slot-more : (version : Option Version) (slot i n : ℕ) (members runs : List ℕ) (old mid new : List PlanEntry) → AllPairs (λ a b. a < b) members → i < length members → n ≡ slice_index runs (get_or members i 0)
    → AddsEntries (InSlot version slot (take i members) runs) old mid → AddsEntries (InBlock version slot (Some (get_or members i 0)) n) mid new → AddsEntries (InSlot version slot (take (i + 1) members) runs) old new
slot-more version slot i n members runs old mid new pairs h e f g =
    Adds-then (InSlot version slot (take i members) runs) (InBlock version slot (Some (get_or members i 0)) n) (InSlot version slot (take (i + 1) members) runs) old mid new f g (slot-before version slot i n members runs pairs h)
    (λ q r. elim (Contains-take_more members i 0 r.2.0 h r.2.2) [ inl m ↦ inl (r.0, r.1, (r.2.0, r.2.1, m, r.2.3)) | inr m ↦ inr (r.0, r.1, r.2.1 ∙ ap Some (sym m), rw e (rw m r.2.3)) ])
    (λ q p. (p.0, p.1, (p.2.0, p.2.1, Contains-take_up members i 0 p.2.0 h p.2.2, p.2.3)))
    (slot-right version slot i n members runs h e)

from-take : (members : List ℕ) (i x : ℕ) → Contains (take i members) x → i ≤ length members → Contains members x
from-take members i x c h = let k : c.0 < i = omega (arith, c.1, length-take-le i members h) in (c.0, omega arith, sym (get_or-take i members c.0 x k) ∙ c.2)

pub slot-over : (version : Option Version) (slot i n : ℕ) (members runs : List ℕ) (old mid : List PlanEntry) → AllPairs (λ a b. a < b) members → i < length members → n ≡ slice_index runs (get_or members i 0)
    → AddsEntries (InSlot version slot (take i members) runs) old mid → Overfills (InBlock version slot (Some (get_or members i 0)) n) mid → Overfills (InSlot version slot members runs) old
slot-over version slot i n members runs old mid pairs h e f g =
    Overfills-then (InSlot version slot (take i members) runs) (InBlock version slot (Some (get_or members i 0)) n) (InSlot version slot members runs) old mid f g (slot-before version slot i n members runs pairs h)
    (λ q p. (p.0, p.1, (p.2.0, p.2.1, from-take members i p.2.0 p.2.2 (omega arith), p.2.3)))
    (λ q p. (p.0, p.1, (get_or members i 0, p.2, Contains-get_or members i 0 h, rw (← e) p.3)))

pub version-more : (version : Option Version) (slot : ℕ) (members runs : List ℕ) (old mid new : List PlanEntry) → AddsEntries (InVersion false version slot members runs) old mid → AddsEntries (InSlot version slot members runs) mid new → AddsEntries (InVersion false version (slot + 1) members runs) old new
version-more version slot members runs old mid new f g =
    Adds-then (InVersion false version slot members runs) (InSlot version slot members runs) (InVersion false version (slot + 1) members runs) old mid new f g
    (λ a b p q. inr (p.0 ∙ sym q.0, inl (omega (arith, p.1, q.1))))
    (λ q r. elim (lt_or_eq q.slot slot r.1) [ inl l ↦ inl (r.0, l, r.2) | inr e ↦ inr (r.0, e, r.2) ])
    (λ q p. (p.0, omega (arith, p.1), p.2))
    (λ q p. (p.0, omega (arith, p.1), p.2))

pub version-over : (version : Option Version) (slot slots : ℕ) (members runs : List ℕ) (old mid : List PlanEntry) → slot < slots → AddsEntries (InVersion false version slot members runs) old mid → Overfills (InSlot version slot members runs) mid → Overfills (InVersion false version slots members runs) old
version-over version slot slots members runs old mid h f g =
    Overfills-then (InVersion false version slot members runs) (InSlot version slot members runs) (InVersion false version slots members runs) old mid f g
    (λ a b p q. inr (p.0 ∙ sym q.0, inl (omega (arith, p.1, q.1))))
    (λ q p. (p.0, omega (arith, p.1), p.2))
    (λ q p. (p.0, omega (arith, p.1), p.2))

pub single-more : (version : Option Version) (slot : ℕ) (old mid new : List PlanEntry) → AddsEntries (InVersion true version slot [] []) old mid → AddsEntries (InBlock version slot None 1) mid new → AddsEntries (InVersion true version (slot + 1) [] []) old new
single-more version slot old mid new f g =
    Adds-then (InVersion true version slot [] []) (InBlock version slot None 1) (InVersion true version (slot + 1) [] []) old mid new f g
    (λ a b p q. inr (p.0 ∙ sym q.0, inl (omega (arith, p.1, q.1))))
    (λ q r. elim (lt_or_eq q.slot slot r.1) [ inl l ↦ inl (r.0, l, r.2) | inr e ↦ inr (r.0, e, r.2.0, omega (arith, r.2.1)) ])
    (λ q p. (p.0, omega (arith, p.1), p.2))
    (λ q p. (p.0, omega (arith, p.1), (p.2, omega (arith, p.3))))

pub single-over : (version : Option Version) (slot slots : ℕ) (old mid : List PlanEntry) → slot < slots → AddsEntries (InVersion true version slot [] []) old mid → Overfills (InBlock version slot None 1) mid → Overfills (InVersion true version slots [] []) old
single-over version slot slots old mid h f g =
    Overfills-then (InVersion true version slot [] []) (InBlock version slot None 1) (InVersion true version slots [] []) old mid f g
    (λ a b p q. inr (p.0 ∙ sym q.0, inl (omega (arith, p.1, q.1))))
    (λ q p. (p.0, omega (arith, p.1), p.2))
    (λ q p. (p.0, omega (arith, p.1), (p.2, omega (arith, p.3))))
