-- The candidates of a set's positions, and sets of marks.
use Rattle.std.proofs.Common.{◌≡◌, ℕ, zero, suc, ◌<◌, List, [], ◌∷◌, length, refl, sym, ◌∙◌, arith, Bool, true, false, inl, inr, ◌⊎◌, ◌↔◌, All, Contains}
use Rattle.std.specs.Prelude.{AllPairs, ◌||◌}
use Rattle.std.proofs.lemmas.Bool.{false≢true, cases_lt, or_cases}
use Rattle.std.proofs.lemmas.List.{get_or_past, get_or_default}
use Rattle.std.proofs.lemmas.List.Elements.{All-nil, All-cons, All-head, All-tail}
use Rattle.std.proofs.lemmas.List.Kept.{AllPairs-cons}
use Rattle.hack_base.proofs.Members.{Contains-nil, Contains-cons_cases, Contains-head, Contains-tail}
use Rattle.hack_conflicts.specs.Sets.{Has}
use Rattle.hack_sets.specs.Sets.{IsSelection}
use Rattle.hack_closures.specs.Closures.{candidate_at, HasCandidate}
use Rattle.hack_closures.specs.Internal.{candidates_of}

-- a member lies below the length
pub has_below : (s : List Bool) (p : ℕ) → Has s p → p < length s
has_below s p h = elim (cases_lt p (length s)) [ inl lt ↦ lt | inr le ↦ absurd (false≢true (sym (get_or_past s p false le) ∙ h)) ]

pub has_none : (p : ℕ) → ¬ Has [] p
has_none p h = false≢true h

-- the position of a candidate
pub position_of : (alone : List ℕ) (p : ℕ) → Contains alone p → (x : ℕ) × (x < length alone) × (candidate_at alone x ≡ p)
position_of alone p (k, lt, is) = (k, lt, sym (get_or_default alone k p 0 lt) ∙ is)

-- the candidates of a set's positions

one_later : (a : ℕ) (alone : List ℕ) (b : Bool) (s : List Bool) (p : ℕ) → HasCandidate alone s p → HasCandidate (a ∷ alone) (b ∷ s) p
one_later a alone b s p (x, lt, has, is) = (suc x, omega arith, has, is)

pub candidates_from : (alone : List ℕ) (s : List Bool) (p : ℕ) → Contains (candidates_of alone s) p → HasCandidate alone s p
candidates_from [] s p h = absurd (Contains-nil p h)
candidates_from (a ∷ alone) [] p h = absurd (Contains-nil p h)
candidates_from (a ∷ alone) (true ∷ s) p h = elim (Contains-cons_cases a (candidates_of alone s) p h) [
  | inl e ↦ (zero, omega arith, refl, e)
  | inr w ↦ one_later a alone true s p (candidates_from alone s p w)
]
candidates_from (a ∷ alone) (false ∷ s) p h = one_later a alone false s p (candidates_from alone s p h)

pub candidates_to : (alone : List ℕ) (s : List Bool) (x : ℕ) → x < length alone → Has s x → Contains (candidates_of alone s) (candidate_at alone x)
candidates_to [] s x lt h = absurd (omega arith)
candidates_to (a ∷ alone) [] x lt h = absurd (has_none x h)
candidates_to (a ∷ alone) (true ∷ s) zero lt h = Contains-head a (candidates_of alone s)
candidates_to (a ∷ alone) (false ∷ s) zero lt h = absurd (false≢true h)
candidates_to (a ∷ alone) (true ∷ s) (suc x) lt h = Contains-tail a (candidates_of alone s) (candidate_at alone x) (candidates_to alone s x (omega arith) h)
candidates_to (a ∷ alone) (false ∷ s) (suc x) lt h = candidates_to alone s x (omega arith) h

candidates_all : (P : ℕ → Type 0) (alone : List ℕ) (s : List Bool) → All P alone → All P (candidates_of alone s)
candidates_all P [] s h = All-nil P
candidates_all P (a ∷ alone) [] h = All-nil P
candidates_all P (a ∷ alone) (true ∷ s) h = All-cons P a (candidates_of alone s) (All-head P a alone h) (candidates_all P alone s (All-tail P a alone h))
candidates_all P (a ∷ alone) (false ∷ s) h = candidates_all P alone s (All-tail P a alone h)

later : (alone : List ℕ) (a : ℕ) → AllPairs (λ p q. p < q) (a ∷ alone) → AllPairs (λ p q. p < q) alone
later alone a h = λ i j d lt le. h (suc i) (suc j) d (omega arith) (omega arith)

candidates_up : (alone : List ℕ) (s : List Bool) → AllPairs (λ p q. p < q) alone → AllPairs (λ p q. p < q) (candidates_of alone s)
candidates_up [] s h = λ i j d lt le. absurd (omega arith)
candidates_up (a ∷ alone) [] h = λ i j d lt le. absurd (omega arith)
candidates_up (a ∷ alone) (true ∷ s) h =
    AllPairs-cons (λ p q. p < q) a (candidates_of alone s) (candidates_all (λ q. a < q) alone s (λ k d lt. h zero (suc k) d (omega arith) (omega arith))) (candidates_up alone s (later alone a h))
candidates_up (a ∷ alone) (false ∷ s) h = candidates_up alone s (later alone a h)

pub candidates_selection : (n : ℕ) (alone : List ℕ) (s : List Bool) → IsSelection n alone → IsSelection n (candidates_of alone s)
candidates_selection n alone s h = record {
  increasing = candidates_up alone s h.increasing;
  below = candidates_all (λ p. p < n) alone s h.below;
}

-- the set of all members of two sets

abbrev either : List Bool → List Bool → List Bool
either [] t = t
either (b ∷ s) [] = b ∷ s
either (b ∷ s) (d ∷ t) = (b || d) ∷ either s t

or_left : (a b : Bool) → a ≡ true → (a || b) ≡ true
or_left true b e = refl
or_left false b e = absurd (false≢true e)

or_right : (a b : Bool) → b ≡ true → (a || b) ≡ true
or_right true b e = refl
or_right false b e = e

either_from : (s t : List Bool) (p : ℕ) → Has (either s t) p → Has s p ⊎ Has t p
either_from [] t p h = inr h
either_from (b ∷ s) [] p h = inl h
either_from (b ∷ s) (d ∷ t) zero h = or_cases b d h
either_from (b ∷ s) (d ∷ t) (suc p) h = either_from s t p h

either_left : (s t : List Bool) (p : ℕ) → Has s p → Has (either s t) p
either_left [] t p h = absurd (has_none p h)
either_left (b ∷ s) [] p h = h
either_left (b ∷ s) (d ∷ t) zero h = or_left b d h
either_left (b ∷ s) (d ∷ t) (suc p) h = either_left s t p h

either_right : (s t : List Bool) (p : ℕ) → Has t p → Has (either s t) p
either_right [] t p h = h
either_right (b ∷ s) [] p h = absurd (has_none p h)
either_right (b ∷ s) (d ∷ t) zero h = or_right b d h
either_right (b ∷ s) (d ∷ t) (suc p) h = either_right s t p h

pub union : (s t : List Bool) → (u : List Bool) × ((p : ℕ) → Has u p ↔ (Has s p ⊎ Has t p))
union s t = (either s t, λ p. (either_from s t p, λ w. elim w [ inl h ↦ either_left s t p h | inr h ↦ either_right s t p h ]))
