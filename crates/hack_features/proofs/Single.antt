use Rattle.std.proofs.Common.{◌≡◌, ◌≢◌, ℕ, ◌<◌, List, [], ◌∷◌, length, get_or, refl, sym, subst, arith, Option, None, Some, true, inl, inr, ◌↔◌, All, Contains, is_some, unwrap_or}
use Rattle.std.specs.Map.{lookup}
use Rattle.std.specs.Str.{bytes_eq}
use Rattle.std.proofs.lemmas.Bool.Decides.{eqb_tells}
use Rattle.std.proofs.lemmas.List.Elements.{All-contains, All-cons, All-nil, Contains-append_cases}
use Rattle.hack_base.proofs.Members.{Contains-nil, Contains-cons_cases, Contains-head, Contains-tail}
use Rattle.hack_features.proofs.Coverage.{Chain-append, named_in}
use Rattle.hack_base.specs.Names.{Name}
use Rattle.hack_routes.specs.FeatureMap.{FeatureMap, IsKey, here, step, Enables}
use Rattle.hack_sets.specs.Sets.{IsSelection}
use Rattle.hack_features.specs.Rules.{Choice, names_at, names_in, IsEnabledBy, IsRedundant, AreSingle}

-- a name of the set is a name of a member
pub member_of : (c : Choice) (s : List ℕ) (x : Name) → Contains (names_in c s) x → (p : ℕ) × Contains s p × Contains (names_at c p) x
member_of c [] x h = absurd (Contains-nil x h)
member_of c (p ∷ s) x h =
    elim (Contains-append_cases (names_at c p) (names_in c s) x h) [
      | inl w ↦ (p, Contains-head p s, w)
      | inr w ↦ let r = member_of c s x w in (r.0, Contains-tail p s r.0 r.1, r.2)
    ]

key-go : (m : FeatureMap) (x v : Name) (o : Option (List Name)) → lookup (bytes_eq x) m ≡ o → Contains (unwrap_or o []) v → is_some o ≡ true
key-go m x v None e h = absurd (Contains-nil v h)
key-go m x v (Some vs) e h = refl

-- what enables another name is a key
pub key_from : (m : FeatureMap) {x y : Name} → Enables m x y → x ≢ y → IsKey m x
key_from m here ne = absurd (ne refl)
key_from m (step {x} {y} {z} e c) ne = key-go m x y (lookup (bytes_eq x) m) refl e.0

-- the one name of each candidate, and that two with names that enable each other are the same
record Named (c : Choice) : Type 0 where
  name : ℕ → Name
  one : (p : ℕ) → p < length c.candidates → names_at c p ≡ name p ∷ []
  apart : (p q : ℕ) → p < length c.candidates → q < length c.candidates → Enables c.map (name p) (name q) → Enables c.map (name q) (name p) → p ≡ q

alone : (names : List Name) → length names ≡ 1 → names ≡ get_or names 0 [] ∷ []
alone [] e = absurd (omega arith)
alone (x ∷ []) e = refl
alone (x ∷ y ∷ names) e = absurd (omega arith)

first_name : (names : List Name) → length names ≡ 1 → Contains names (get_or names 0 [])
first_name [] e = absurd (omega arith)
first_name (x ∷ names) e = Contains-head x names

named_from : (c : Choice) → AreSingle c → Named c
named_from c h = record {
  name = λ p. get_or (names_at c p) 0 [];
  one = λ p lt. alone (names_at c p) (h.one p lt);
  apart = λ p q pl ql there back. elim (eqb_tells p q) [
    | inl e ↦ e.1
    | inr n ↦ absurd ((h.apart p q pl ql n.1 (get_or (names_at c p) 0 []) (get_or (names_at c q) 0 [])
        (first_name (names_at c p) (h.one p pl)) (first_name (names_at c q) (h.one q ql))).1 there back)
  ];
}

module _ (c : Choice) (h : Named c) (s t : List ℕ) (hs : IsSelection (length c.candidates) s) (ht : IsSelection (length c.candidates) t)
    (lean : ¬ IsRedundant c s) (same : (y : Name) → IsEnabledBy c s y ↔ IsEnabledBy c t y) where
  -- the name of a member
  named : (p : ℕ) (x : Name) → p < length c.candidates → Contains (names_at c p) x → h.name p ≡ x
  named p x lt n = elim (Contains-cons_cases (h.name p) [] x (subst (λ l. Contains l x) (h.one p lt) n)) [ inl e ↦ e | inr w ↦ absurd (Contains-nil x w) ]

  has : (p : ℕ) → p < length c.candidates → Contains (names_at c p) (h.name p)
  has p lt = subst (λ l. Contains l (h.name p)) (sym (h.one p lt)) (Contains-head (h.name p) [])

  -- each position of s is one of t
  inside : (p : ℕ) → Contains s p → Contains t p
  inside p ps =
      let pl : p < length c.candidates = All-contains (λ p. p < length c.candidates) s p hs.below ps in
      let e = (same (h.name p)).0 (h.name p, named_in c s p (h.name p) ps (has p pl), here) in
      let q = member_of c t e.0 e.1 in
      let ql : q.0 < length c.candidates = All-contains (λ p. p < length c.candidates) t q.0 ht.below q.1 in
      let f = (same e.0).1 (e.0, e.1, here) in
      let r = member_of c s f.0 f.1 in
      let rl : r.0 < length c.candidates = All-contains (λ p. p < length c.candidates) s r.0 hs.below r.1 in
      let qp : Enables c.map (h.name q.0) (h.name p) = subst (λ y. Enables c.map y (h.name p)) (sym (named q.0 e.0 ql q.2)) e.2 in
      let rq : Enables c.map (h.name r.0) (h.name q.0) = subst (λ z. Enables c.map z (h.name q.0)) (sym (named r.0 f.0 rl r.2)) (subst (λ y. Enables c.map f.0 y) (sym (named q.0 e.0 ql q.2)) f.2) in
      elim (eqb_tells r.0 p) [
        | inl w ↦ subst (λ i. Contains t i) (h.apart q.0 p ql pl qp (subst (λ i. Enables c.map (h.name i) (h.name q.0)) w.1 rq)) q.1
        | inr w ↦
            let rp = Chain-append rq qp in
            let ne : h.name p ≢ h.name r.0 = λ e. w.1 (h.apart r.0 p rl pl rp (subst (λ y. Enables c.map (h.name p) y) e here)) in
            absurd (lean (
              r.0,
              p,
              r.1,
              ps,
              (
                h.name r.0,
                has r.0 rl,
                key_from c.map rp (λ e. ne (sym e)),
                subst (λ l. All (λ y. (y ≢ h.name r.0) × Enables c.map (h.name r.0) y) l) (sym (h.one p pl)) (All-cons (λ y. (y ≢ h.name r.0) × Enables c.map (h.name r.0) y) (h.name p) [] (ne, rp) (All-nil (λ y. (y ≢ h.name r.0) × Enables c.map (h.name r.0) y))),
              ),
            ))
      ]

-- each position of the first is one of the second
pub single_inside : (c : Choice) → AreSingle c → (s t : List ℕ) → IsSelection (length c.candidates) s → IsSelection (length c.candidates) t
    → ¬ IsRedundant c s → ((y : Name) → IsEnabledBy c s y ↔ IsEnabledBy c t y) → (p : ℕ) → Contains s p → Contains t p
single_inside c h s t hs ht lean same = inside c (named_from c h) s t hs ht lean same
