-- What the rows of what positions enable say.
use Rattle.std.proofs.Common.{◌≡◌, ℕ, ◌<◌, ◌≤◌, ◌+◌, List, [], length, refl, sym, ap, ◌∙◌, subst, arith, Bool, true, false, cond, inl, inr, ◌⊎◌, ◌↔◌, IsTrue}
use Rattle.std.proofs.lemmas.Bool.{false≢true, cases_lt}
use Rattle.std.proofs.lemmas.List.{get_or_past, length-map}
use Rattle.hack_conflicts.specs.Sets.{mark, rows_of}
use Rattle.hack_conflicts.specs.Rules.{IsPreorder, size_of, enables, row_of}
use Rattle.hack_conflicts.specs.declared.rules.Rules.{Rules as SearchRules}
use Rattle.hack_features.specs.Rules.{Choice}
use Rattle.hack_closures.specs.Closures.{AreEnabling, TurnsOn, candidate_at}
use Rattle.hack_closures.specs.Internal.{AreEnabledRows}
use Rattle.hack_closures.proofs.MemberLemmas.{has_below}
use Rattle.hack_closures.proofs.TurnLemmas.{turns_itself, turns_through, all_through}

module _ (c : Choice) (alone : List ℕ) (all : Bool) (r : SearchRules) (h : AreEnabledRows c alone all (rows_of r.enables.items)) where
  -- a position is one of a candidate, or that of all features
  abbrev Kind : ℕ → Type 0
  Kind x = (x < length alone) ⊎ ((x ≡ length alone) × IsTrue all)

  pub size : size_of r ≡ length alone + cond all 1 0
  size = sym (length-map r.enables.items (λ row. row.items)) ∙ h.count

  kind_by : (b : Bool) (x : ℕ) → x < length alone + cond b 1 0 → (x < length alone) ⊎ ((x ≡ length alone) × IsTrue b)
  kind_by true x lt = elim (cases_lt x (length alone)) [ inl l ↦ inl l | inr le ↦ inr ((let e : x ≡ length alone = omega arith in e), refl) ]
  kind_by false x lt = inl (omega arith)

  pub kind : (x : ℕ) → x < size_of r → Kind x
  kind x lt = kind_by all x (let s = size in omega arith)

  pub low : (x : ℕ) → x < length alone → x < size_of r
  low x lt = let s = size in omega arith

  size_by : (b : Bool) → IsTrue b → length alone + cond b 1 0 ≡ length alone + 1
  size_by true e = refl
  size_by false e = absurd (false≢true e)

  pub last_low : IsTrue all → length alone < size_of r
  last_low is = let s = size in let one = size_by all is in omega arith

  no_row : (x y : ℕ) → size_of r ≤ x → ¬ IsTrue (enables r x y)
  no_row x y le e =
      let none : row_of r x ≡ [] = get_or_past (rows_of r.enables.items) x [] (let n = length-map r.enables.items (λ row. row.items) in omega arith) in
      false≢true (ap (λ row. mark row y) (sym none) ∙ e)

  -- what enables a position is a position
  pub source : (x y : ℕ) → IsTrue (enables r x y) → x < size_of r
  source x y e = elim (cases_lt x (size_of r)) [ inl lt ↦ lt | inr le ↦ absurd (no_row x y le e) ]

  -- what a candidate's position enables is such a position
  pub target : (x y : ℕ) → x < length alone → IsTrue (enables r x y) → y < length alone
  target x y lt e = let l : y < length (row_of r x) = has_below (row_of r x) y e in let n = (h.candidates x lt).count in omega arith

  pub candidates : (x y : ℕ) → x < length alone → y < length alone → IsTrue (enables r x y) ↔ TurnsOn c (candidate_at alone x) (candidate_at alone y)
  candidates x y lx ly = (h.candidates x lx).each y ly

  last_target : IsTrue all → (y : ℕ) → IsTrue (enables r (length alone) y) → Kind y
  last_target is y e =
      let l : y < length (row_of r (length alone)) = has_below (row_of r (length alone)) y e in
      let n = (h.last is).count in
      elim (cases_lt y (length alone)) [ inl lt ↦ inl lt | inr le ↦ inr ((let e : y ≡ length alone = omega arith in e), is) ]

  reflexive_by : (x : ℕ) → Kind x → IsTrue (enables r x x)
  reflexive_by x (inl lt) = (candidates x x lt lt).1 (turns_itself c (candidate_at alone x))
  reflexive_by x (inr (e, is)) = subst (λ z. IsTrue (enables r z z)) (sym e) (h.last is).itself

  below_by : (x y : ℕ) → Kind x → IsTrue (enables r x y) → y < size_of r
  below_by x y (inl lt) e = low y (target x y lt e)
  below_by x y (inr (s, is)) e = elim (last_target is y (subst (λ z. IsTrue (enables r z y)) s e)) [
    | inl lt ↦ low y lt
    | inr w ↦ subst (λ z. z < size_of r) (sym w.0) (last_low is)
  ]

  transitive_by : (x y z : ℕ) → Kind x → IsTrue (enables r x y) → IsTrue (enables r y z) → IsTrue (enables r x z)
  transitive_by x y z (inl lx) e f =
      let ly = target x y lx e in
      let lz = target y z ly f in
      (candidates x z lx lz).1 (turns_through c (candidate_at alone x) (candidate_at alone y) (candidate_at alone z) ((candidates x y lx ly).0 e) ((candidates y z ly lz).0 f))
  transitive_by x y z (inr (s, is)) e f =
      let m : ℕ = length alone in
      let last : IsTrue (enables r m y) = subst (λ v. IsTrue (enables r v y)) s e in
      subst (λ v. IsTrue (enables r v z)) (sym s)
      (elim (last_target is y last) [
        | inl ly ↦ let lz = target y z ly f in
            ((h.last is).each z lz).1 (all_through c (candidate_at alone y) (candidate_at alone z) (((h.last is).each y ly).0 last) ((candidates y z ly lz).0 f))
        | inr w ↦ subst (λ v. IsTrue (enables r v z)) w.0 f
      ])

  pub order : IsPreorder r
  order = record {
    reflexive = λ x lt. reflexive_by x (kind x lt);
    below = λ x y e. below_by x y (kind x (source x y e)) e;
    transitive = λ x y z e f. transitive_by x y z (kind x (source x y e)) e f;
  }

  pub enabling : AreEnabling c alone all r
  enabling = record {
    size = size;
    order = order;
    candidates = candidates;
    to_all = λ x lt e. let l : length alone < length alone = target x (length alone) lt e in omega arith;
    from_all = λ is y lt. (h.last is).each y lt;
  }
