-- The top positions of a set, and the first set that covers their candidates.
use Rattle.std.proofs.Common.{◌≡◌, ◌≢◌, ℕ, ◌<◌, List, [], ◌∷◌, get_or, refl, sym, subst, arith, Bool, inl, inr, ◌↔◌, All, Contains}
use Rattle.std.proofs.lemmas.Bool.{cases_eq, cases_lt}
use Rattle.std.proofs.lemmas.List.Elements.{All-head}
use Rattle.hack_base.specs.Names.{Name}
use Rattle.hack_conflicts.specs.Sets.{Has}
use Rattle.hack_conflicts.specs.declared.rules.Rules.{Rules as SearchRules}
use Rattle.hack_sets.specs.Sets.{IsBefore}
use Rattle.hack_features.specs.Rules.{Choice, Covers, IsEnabledBy}
use Rattle.hack_closures.specs.Closures.{AreTops, HasCandidate, IsFirstFor, IsTop, StandsFor}
use Rattle.hack_closures.specs.Internal.{candidates_of}
use Rattle.hack_closures.proofs.MemberLemmas.{candidates_from, candidates_to}
use Rattle.hack_closures.proofs.TurnLemmas.{by_member, some_member}

-- of two sets not each is before the other
not_both : (s t : List ℕ) → IsBefore s t → IsBefore t s → ⊥
not_both s t a b = elim (cases_lt a.greatest b.greatest) [
  | inl lt ↦ b.absent ((a.above b.greatest lt).0 b.present)
  | inr le ↦ elim (cases_eq b.greatest a.greatest) [
    | inl e ↦ b.absent (subst (Contains t) (sym e) a.present)
    | inr ne ↦
        let other : b.greatest ≢ a.greatest = ne in
        let lt : b.greatest < a.greatest = omega arith in
        a.absent ((b.above a.greatest lt).0 a.present)
  ]
]

some_in : (alone : List ℕ) (s : List Bool) (t : List ℕ) → t ≢ [] → All (HasCandidate alone s) t → (x : ℕ) × Has s x
some_in alone s [] some among = absurd (some refl)
some_in alone s (p ∷ t) some among = let w = All-head (HasCandidate alone s) p t among in (w.0, w.2)

module _ (c : Choice) (alone : List ℕ) (r : SearchRules) (s : List Bool) where
  -- the candidates of a set's top positions
  pub tops_of : (left : List Bool) → ((x : ℕ) → Has left x ↔ IsTop r s x) → AreTops alone r s (candidates_of alone left)
  tops_of left is p = (
    λ there. let x = candidates_from alone left p there in (x.0, x.1, (is x.0).0 x.2, x.3),
    λ w. subst (Contains (candidates_of alone left)) w.3 (candidates_to alone left w.0 w.1 ((is w.0).1 w.2)),
  )

  -- a set that a listed one stands for isn't empty
  pub stands_some : (t : List ℕ) → StandsFor c alone s t → (x : ℕ) × Has s x
  stands_some t stands = some_in alone s t stands.listed.wanted.nonempty stands.among

  members : (ps qs : List ℕ) → AreTops alone r s ps → AreTops alone r s qs → (p : ℕ) → Contains ps p → Contains qs p
  members ps qs a b p there = (b p).1 ((a p).0 there)

  enabled : (ps qs : List ℕ) → ((p : ℕ) → Contains ps p → Contains qs p) → (y : Name) → IsEnabledBy c ps y → IsEnabledBy c qs y
  enabled ps qs among y e = let w = some_member c ps y e in by_member c qs w.0 y (among w.0 w.1) w.2

  -- what covers them covers them in each order
  covers : (ps qs t : List ℕ) → AreTops alone r s ps → AreTops alone r s qs → Covers c ps t → Covers c qs t
  covers ps qs t a b h = record {
    selection = h.selection;
    listed = h.listed;
    inside = λ k d lt. members ps qs a b (get_or t k d) (h.inside k d lt);
    same = λ y. (λ e. (h.same y).0 (enabled qs ps (members qs ps b a) y e), λ e. enabled ps qs (members ps qs a b) y ((h.same y).1 e));
  }

  -- there is one first set at most
  pub first_once : (t u : List ℕ) → IsFirstFor c alone r s t → IsFirstFor c alone r s u → t ≡ u
  first_once t u a b = elim (a.2.first u (covers b.0 a.0 u b.1 a.1 b.2.covers)) [
    | inl before ↦ elim (b.2.first t (covers a.0 b.0 t a.1 b.1 a.2.covers)) [
      | inl after ↦ absurd (not_both t u before after)
      | inr e ↦ sym e
    ]
    | inr e ↦ e
  ]
