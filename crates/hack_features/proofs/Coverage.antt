use Rattle.std.proofs.Common.{◌≡◌, ◌≢◌, ℕ, zero, suc, ◌<◌, ◌≤◌, List, [], ◌∷◌, ◌++◌, length, get_or, take, drop, refl, sym, ◌∙◌, ap, subst, arith, Option, None, Some, ◌⊎◌, inl, inr, ◌↔◌, All, Contains}
use Rattle.std.specs.List.{remove}
use Rattle.std.proofs.lemmas.List.Elements.{All-append, All-contains, All-contains_itself, All-take, All-drop, Contains-append_left, Contains-append_right, Contains-append_cases, Contains-get_or}
use Rattle.std.proofs.lemmas.List.Concat.{flat_map-append}
use Rattle.std.proofs.lemmas.List.Edits.{length-remove}
use Rattle.std.proofs.lemmas.List.Quantifiers.{all_pairs_remove}
use Rattle.hack_base.proofs.Members.{Contains-nil, Contains-cons_cases}
use Rattle.hack_base.specs.Names.{Name}
use Rattle.hack_routes.specs.FeatureMap.{Chain, here, step, Enables, IsKey}
use Rattle.hack_sets.specs.Sets.{IsSelection, IsWithin, Pairwise}
use Rattle.hack_features.specs.Rules.{Choice, names_at, names_in, IsEnabledBy, IsRedundant, NotBothReach, IsExclusive, IsRequired, Covers, IsWanted}

pub Chain-append : {edge : Name → Name → Type 0} {x y z : Name} → Chain edge x y → Chain edge y z → Chain edge x z
Chain-append here d = d
Chain-append (step e c) d = step e (Chain-append c d)

-- a list is what is before one of its places, the element there, and what is after it
around : {X : Type 0} (s : List X) (i : ℕ) (p : X) → i < length s → p ≡ get_or s i p → s ≡ take i s ++ (p ∷ drop (suc i) s)
around [] i p h e = absurd (omega arith)
around (x ∷ s) zero p h e = ap (λ y. y ∷ s) (sym e)
around (x ∷ s) (suc i) p h e = ap (λ t. x ∷ t) (around s i p (omega arith) e)

All-cut : {X : Type 0} (P : X → Type 0) (xs zs ys : List X) → All P (xs ++ (zs ++ ys)) → All P (xs ++ ys)
All-cut P xs zs ys h = All-append P xs ys (λ k d lt. All-contains P (xs ++ (zs ++ ys)) (get_or xs k d) h (Contains-append_left xs (zs ++ ys) _ (Contains-get_or xs k d lt)))
    (λ k d lt. All-contains P (xs ++ (zs ++ ys)) (get_or ys k d) h (Contains-append_right xs (zs ++ ys) _ (Contains-append_right zs ys _ (Contains-get_or ys k d lt))))

Pairwise-end : {X : Type 0} (R : X → X → Type 0) (zs ys : List X) → Pairwise R (zs ++ ys) → Pairwise R ys
Pairwise-end R [] ys h = h
Pairwise-end R (z ∷ zs) ys h = Pairwise-end R zs ys h.1

pub Pairwise-cut : {X : Type 0} (R : X → X → Type 0) (xs zs ys : List X) → Pairwise R (xs ++ (zs ++ ys)) → Pairwise R (xs ++ ys)
Pairwise-cut R [] zs ys h = Pairwise-end R zs ys h
Pairwise-cut R (x ∷ xs) zs ys h = (All-cut (R x) xs zs ys h.0, Pairwise-cut R xs zs ys h.1)

within_shorter : (depth : Option ℕ) (s t : List ℕ) → length t ≤ length s → IsWithin depth s → IsWithin depth t
within_shorter None s t le h = tt
within_shorter (Some most) s t le h = omega arith

-- a name of a member is a name of the set
pub named_in : (c : Choice) (s : List ℕ) (p : ℕ) (x : Name) → Contains s p → Contains (names_at c p) x → Contains (names_in c s) x
named_in c [] p x h n = absurd (Contains-nil p h)
named_in c (q ∷ s) p x h n =
    elim (Contains-cons_cases q s p h) [
      | inl e ↦ Contains-append_left (names_at c q) (names_in c s) x (subst (λ r. Contains (names_at c r) x) (sym e) n)
      | inr w ↦ Contains-append_right (names_at c q) (names_in c s) x (named_in c s p x w n)
    ]

-- the names of the set without a position
module _ (c : Choice) (s : List ℕ) (i p : ℕ) (at : i < length s) (is : p ≡ get_or s i p) where
  before : List Name
  before = names_in c (take i s)

  behind : List Name
  behind = names_in c (drop (suc i) s)

  names-all : names_in c s ≡ before ++ (names_at c p ++ behind)
  unfolding before behind
  names-all = ap (names_in c) (around s i p at is) ∙ flat_map-append (names_at c) (take i s) (p ∷ drop (suc i) s)

  names-left : names_in c (remove s i) ≡ before ++ behind
  unfolding before behind
  names-left = flat_map-append (names_at c) (take i s) (drop (suc i) s)

  -- a name of the smaller set is one of the set
  pub name_kept : (x : Name) → Contains (names_in c (remove s i)) x → Contains (names_in c s) x
  name_kept x h =
      subst (λ l. Contains l x) (sym names-all)
      (elim (Contains-append_cases before behind x (subst (λ l. Contains l x) names-left h)) [
        | inl w ↦ Contains-append_left before (names_at c p ++ behind) x w
        | inr w ↦ Contains-append_right before (names_at c p ++ behind) x (Contains-append_right (names_at c p) behind x w)
      ])

  -- a name of the set is one of the smaller set or of the member that was taken out
  pub name_left : (x : Name) → Contains (names_in c s) x → Contains (names_at c p) x ⊎ Contains (names_in c (remove s i)) x
  name_left x h =
      elim (Contains-append_cases before (names_at c p ++ behind) x (subst (λ l. Contains l x) names-all h)) [
        | inl w ↦ inr (subst (λ l. Contains l x) (sym names-left) (Contains-append_left before behind x w))
        | inr w ↦ elim (Contains-append_cases (names_at c p) behind x w) [
          | inl v ↦ inl v
          | inr v ↦ inr (subst (λ l. Contains l x) (sym names-left) (Contains-append_right before behind x v))
        ]
      ]

  pub member_kept : (q : ℕ) → Contains (remove s i) q → Contains s q
  member_kept q h = elim (Contains-append_cases (take i s) (drop (suc i) s) q h) [
    | inl w ↦ All-contains (Contains s) (take i s) q (All-take (Contains s) i s (All-contains_itself s)) w
    | inr w ↦ All-contains (Contains s) (drop (suc i) s) q (All-drop (Contains s) (suc i) s (All-contains_itself s)) w
  ]

  pub exclusive_left : IsExclusive c s → IsExclusive c (remove s i)
  exclusive_left h = λ k d lt.
      let R = NotBothReach c.map (get_or c.exclusive k d) in
      subst (λ l. Pairwise R l) (sym names-left) (Pairwise-cut R before (names_at c p) behind (subst (λ l. Pairwise R l) names-all (h k d lt)))

  pub within_left : IsWithin c.depth s → IsWithin c.depth (remove s i)
  within_left h = within_shorter c.depth s (remove s i) (omega (arith, length-remove s i at)) h

  pub selection_left : (n : ℕ) → IsSelection n s → IsSelection n (remove s i)
  selection_left n h = record {
    increasing = all_pairs_remove (λ p q. p < q) s i at h.increasing;
    below = λ k d lt. All-contains (λ p. p < n) s _ h.below (member_kept _ (Contains-get_or (remove s i) k d lt));
  }

  -- the case that another name of the set enables all names of the member that was taken out
  module _ (by : Name) (named : Contains (names_in c s) by) (key : IsKey c.map by) (enabled : All (λ y. (y ≢ by) × Enables c.map by y) (names_at c p)) where
    by_left : Contains (names_in c (remove s i)) by
    by_left = elim (name_left by named) [ inl w ↦ absurd ((All-contains (λ y. (y ≢ by) × Enables c.map by y) (names_at c p) by enabled w).0 refl) | inr w ↦ w ]

    pub enables_left : (y : Name) → IsEnabledBy c s y ↔ IsEnabledBy c (remove s i) y
    enables_left y = (
      λ e. elim (name_left e.0 e.1) [
        | inl w ↦ (by, by_left, Chain-append (All-contains (λ y. (y ≢ by) × Enables c.map by y) (names_at c p) e.0 enabled w).1 e.2)
        | inr w ↦ (e.0, w, e.2)
      ],
      λ e. (e.0, name_kept e.0 e.1, e.2),
    )

    pub required_left : IsRequired c s → IsRequired c (remove s i)
    required_left h = λ k d lt. λ key' can. let w = h k d lt key' can in
        elim (name_left w.0 w.1) [
          | inl v ↦ (
            by,
            by_left,
            (key, w.2.1, w.2.2, Chain-append (All-contains (λ y. (y ≢ by) × Enables c.map by y) (names_at c p) w.0 enabled v).1 w.2.3),
          )
          | inr v ↦ (w.0, v, w.2)
        ]

    pub nonempty_left : remove s i ≢ []
    nonempty_left e = Contains-nil by (subst (λ l. Contains (names_in c l) by) e by_left)

no_items : (s : List ℕ) → length s ≤ 0 → s ≡ []
no_items [] h = refl
no_items (x ∷ s) h = absurd (omega arith)

-- each wanted set is covered, if each set is redundant or isn't
module _ (c : Choice) (tell : (s : List ℕ) → IsSelection (length c.candidates) s → IsRedundant c s ⊎ (¬ IsRedundant c s)) where
  covered_by : (fuel : ℕ) (s : List ℕ) → length s ≤ suc fuel → IsSelection (length c.candidates) s → IsWanted c s → ((t : List ℕ) → length t ≤ fuel → IsSelection (length c.candidates) t → IsWanted c t → (u : List ℕ) × Covers c t u) → IsRedundant c s ⊎ (¬ IsRedundant c s) → (t : List ℕ) × Covers c s t
  covered_by fuel s le sel h again (inr lean) = (
    s,
    record {
      selection = sel;
      listed = record { wanted = h; lean = lean };
      inside = All-contains_itself s;
      same = λ y. (λ e. e, λ e. e);
    },
  )
  covered_by fuel s le sel h again (inl r) =
      let i = r.3.0 in
      let at : i < length s = r.3.1 in
      let is : r.1 ≡ get_or s i r.1 = sym r.3.2 in
      let found = again (remove s i) (omega (arith, length-remove s i at)) (selection_left c s i r.1 at is (length c.candidates) sel)
      (record {
        nonempty = nonempty_left c s i r.1 at is r.4.0 (named_in c s r.0 r.4.0 r.2 r.4.1) r.4.2 r.4.3;
        within = within_left c s i r.1 at is h.within;
        exclusive = exclusive_left c s i r.1 at is h.exclusive;
        required = required_left c s i r.1 at is r.4.0 (named_in c s r.0 r.4.0 r.2 r.4.1) r.4.2 r.4.3 h.required;
      }) in (
        found.0,
        record {
          selection = found.1.selection;
          listed = found.1.listed;
          inside = λ k d lt. member_kept c s i r.1 at is _ (found.1.inside k d lt);
          same = λ y. let one = enables_left c s i r.1 at is r.4.0 (named_in c s r.0 r.4.0 r.2 r.4.1) r.4.2 r.4.3 y in let two = found.1.same y in
              (λ e. two.0 (one.0 e), λ e. one.1 (two.1 e));
        },
      )

  covered_within : (fuel : ℕ) (s : List ℕ) → length s ≤ fuel → IsSelection (length c.candidates) s → IsWanted c s → (t : List ℕ) × Covers c s t
  covered_within zero s le sel h = absurd (h.nonempty (no_items s le))
  covered_within (suc fuel) s le sel h = covered_by fuel s le sel h (covered_within fuel) (tell s sel)

  pub covered : (s : List ℕ) → IsSelection (length c.candidates) s → IsWanted c s → (t : List ℕ) × Covers c s t
  covered s sel h = covered_within (length s) s (omega arith) sel h
