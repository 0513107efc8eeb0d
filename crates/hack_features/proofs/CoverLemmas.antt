-- The first set that covers another: take out, from the greatest position on, each that the others cover.
use Rattle.std.proofs.Common.{◌≡◌, ◌≢◌, ℕ, zero, suc, ◌+◌, ◌<◌, ◌≤◌, List, [], ◌∷◌, ◌++◌, length, get_or, refl, sym, ◌∙◌, ap, subst, arith, Bool, true, false, ◌⊎◌, inl, inr, ◌↔◌, All, Contains, length-append, cond}
use Rattle.std.specs.Prelude.{not, ◌==◌}
use Rattle.std.specs.List.{remove, list_any}
use Rattle.std.specs.Str.{bytes_eq}
use Rattle.std.proofs.lemmas.Slice.Eq.{bytes_eq-Decides}
use Rattle.std.proofs.lemmas.Bool.{and_parts, and_from, cases_eq, cases_lt, cases_order}
use Rattle.std.proofs.lemmas.Bool.Decides.{eqb_tells}
use Rattle.std.proofs.lemmas.List.Elements.{All-contains, All-contains_itself, All-nil, Contains-get_or}
use Rattle.std.proofs.lemmas.List.Edits.{length-remove, get_or-remove_below, get_or-remove_above}
use Rattle.std.proofs.lemmas.List.{get_or_default}
use Rattle.hack_base.proofs.Members.{Contains-nil, Contains-cons_cases, Contains-head, Contains-tail, last_of}
use Rattle.hack_base.proofs.Passes.{all_pass, each_passes, some_passes, any_passes, removed_member}
use Rattle.hack_features.proofs.Coverage.{Chain-append, named_in, within_left, exclusive_left, selection_left, enables_left, nonempty_left, name_left, name_kept}
use Rattle.hack_features.proofs.Single.{member_of, key_from}
use Rattle.hack_sets.proofs.Listing.{selection_pop, selection_push, selection_up, before_new, before_push}
use Rattle.hack_base.specs.Names.{Name}
use Rattle.hack_routes.specs.FeatureMap.{IsKey, here, Enables}
use Rattle.hack_routes.specs.Rows.{leads}
use Rattle.hack_routes.specs.Places.{name_at, ArePlaced}
use Rattle.hack_routes.specs.declared.reach.Edges.TheVariants.{Enabling}
use Rattle.hack_features.proofs.TableLemmas.{placed, shown_at, low_at}
use Rattle.hack_sets.specs.Sets.{IsSelection, IsBefore}
use Rattle.hack_features.specs.Rules.{Choice, names_at, IsEnabledBy, EnableTheSame, IsRedundant, Serves, IsRequired, IsWanted, IsFirstCover}
use Rattle.hack_features.specs.InternalCover.{set_enables_test, covers_test}

-- a number is a member of a list, or it isn't

member_by : (p : ℕ) (x : ℕ) (s : List ℕ) → (x ≡ p) ⊎ (x ≢ p) → Contains s p ⊎ (¬ Contains s p) → Contains (x ∷ s) p ⊎ (¬ Contains (x ∷ s) p)
member_by p x s (inl e) rest = inl (subst (λ y. Contains (x ∷ s) y) e (Contains-head x s))
member_by p x s (inr n) (inl c) = inl (Contains-tail x s p c)
member_by p x s (inr n) (inr m) = inr (λ c. elim (Contains-cons_cases x s p c) [ inl e ↦ n e | inr w ↦ m w ])

pub member : (s : List ℕ) (p : ℕ) → Contains s p ⊎ (¬ Contains s p)
member [] p = inr (Contains-nil p)
member (x ∷ s) p = member_by p x s (cases_eq x p) (member s p)

-- one set is before another, the same, or after it
abbrev pub Ordered : List ℕ → List ℕ → Type 0
Ordered s t = IsBefore s t ⊎ ((s ≡ t) ⊎ IsBefore t s)

ordered_push : (p : ℕ) (s t : List ℕ) → IsSelection p s → IsSelection p t → Ordered s t → Ordered (s ++ p ∷ []) (t ++ p ∷ [])
ordered_push p s t hs ht (inl b) = inl (before_push p s t ht.below b)
ordered_push p s t hs ht (inr (inl e)) = inr (inl (ap (λ l. l ++ p ∷ []) e))
ordered_push p s t hs ht (inr (inr b)) = inr (inr (before_push p t s hs.below b))

selection_last : (n p : ℕ) (t : List ℕ) → IsSelection n (t ++ p ∷ []) → IsSelection (suc p) (t ++ p ∷ [])
selection_last n p t h = selection_push p t (selection_pop n p t h).0

ordered_ends : (n p q : ℕ) (s t : List ℕ) → IsSelection n (s ++ p ∷ []) → IsSelection n (t ++ q ∷ []) → (IsSelection p s → IsSelection p t → Ordered s t) → (p ≡ q) ⊎ ((p < q) ⊎ (q < p)) → Ordered (s ++ p ∷ []) (t ++ q ∷ [])
ordered_ends n p q s t hs ht again (inl e) =
    let ps : IsSelection p s = (selection_pop n p s hs).0 in
    let pt : IsSelection p t = subst (λ r. IsSelection r t) (sym e) (selection_pop n q t ht).0 in
    subst (λ r. Ordered (s ++ p ∷ []) (t ++ r ∷ [])) e (ordered_push p s t ps pt (again ps pt))
ordered_ends n p q s t hs ht again (inr (inl lt)) =
    inl (before_new q (s ++ p ∷ []) t (selection_up (suc p) q (s ++ p ∷ []) (omega arith) (selection_last n p s hs)).below ((selection_pop n q t ht).0).below)
ordered_ends n p q s t hs ht again (inr (inr lt)) =
    inr (inr (before_new p (t ++ q ∷ []) s (selection_up (suc q) p (t ++ q ∷ []) (omega arith) (selection_last n q t ht)).below ((selection_pop n p s hs).0).below))

ordered_cases : (n : ℕ) (s t : List ℕ) → IsSelection n s → IsSelection n t
    → (s ≡ []) ⊎ ((a : List ℕ) × (p : ℕ) × (s ≡ a ++ p ∷ [])) → (t ≡ []) ⊎ ((b : List ℕ) × (q : ℕ) × (t ≡ b ++ q ∷ []))
    → ((m : ℕ) (a b : List ℕ) → length a + 1 ≤ length s → IsSelection m a → IsSelection m b → Ordered a b) → Ordered s t
ordered_cases n s t hs ht (inl e) (inl f) again = inr (inl (e ∙ sym f))
ordered_cases n s t hs ht (inl e) (inr w) again =
    inl (subst (λ l. IsBefore l t) (sym e) (subst (λ l. IsBefore [] l) (sym w.2)
    (before_new w.1 [] w.0 (All-nil (λ p. p < w.1)) ((selection_pop n w.1 w.0 (subst (IsSelection n) w.2 ht)).0).below)))
ordered_cases n s t hs ht (inr v) (inl f) again =
    inr (inr (subst (λ l. IsBefore l s) (sym f) (subst (λ l. IsBefore [] l) (sym v.2)
    (before_new v.1 [] v.0 (All-nil (λ p. p < v.1)) ((selection_pop n v.1 v.0 (subst (IsSelection n) v.2 hs)).0).below))))
ordered_cases n s t hs ht (inr v) (inr w) again =
    subst (λ l. Ordered l t) (sym v.2) (subst (λ l. Ordered (v.0 ++ v.1 ∷ []) l) (sym w.2)
    (ordered_ends n v.1 w.1 v.0 w.0 (subst (IsSelection n) v.2 hs) (subst (IsSelection n) w.2 ht)
    (λ ps pt. again v.1 v.0 w.0 (omega (arith, ap length v.2, length-append v.0 (v.1 ∷ []))) ps pt) (cases_order v.1 w.1)))

ordered_within : (fuel n : ℕ) (s t : List ℕ) → length s ≤ fuel → IsSelection n s → IsSelection n t → Ordered s t
ordered_within zero n s t le hs ht = ordered_cases n s t hs ht (last_of s) (last_of t) (λ m a b lt. absurd (omega arith))
ordered_within (suc fuel) n s t le hs ht = ordered_cases n s t hs ht (last_of s) (last_of t) (λ m a b lt. ordered_within fuel m a b (omega arith))

-- of two selections one is before the other, or they are the same
pub ordered : (n : ℕ) (s t : List ℕ) → IsSelection n s → IsSelection n t → Ordered s t
ordered n s t hs ht = ordered_within (length s) n s t (omega arith) hs ht

-- what marks say of enabling
module _ (c : Choice) (names : List Name) (keys : List Bool) (marks : List (List Bool)) (all each : List (List ℕ)) (h : ArePlaced Enabling c.map c.candidates c.at_least_one_of names keys marks all each) where
  pub set_enables_iff : (s : List ℕ) → All (λ p. p < length c.candidates) s → (y : ℕ) → y < length names → (set_enables_test marks all s y ≡ true) ↔ IsEnabledBy c s (name_at names y)
  set_enables_iff s low y ly =
      let test : ℕ → Bool = λ p. list_any (λ x. leads marks x y) (get_or all p []) in (
        λ t.
            let p = some_passes test s t in
            let x = some_passes (λ x. leads marks x y) (get_or all p.0 []) p.2 in
            let at = h.candidates_at.each p.0 (All-contains (λ p. p < length c.candidates) s p.0 low p.1) in
            let lx = low_at Enabling c.map names keys marks h.routes (get_or all p.0 []) (names_at c p.0) at x.0 x.1 in (
              name_at names x.0,
              named_in c s p.0 (name_at names x.0) p.1 (shown_at Enabling c.map names keys marks h.routes (get_or all p.0 []) (names_at c p.0) at x.0 x.1),
              (h.routes.led x.0 y lx ly).0 x.2,
            ),
        λ e.
            let p = member_of c s e.0 e.1 in
            let at = h.candidates_at.each p.0 (All-contains (λ p. p < length c.candidates) s p.0 low p.1) in
            let x = placed Enabling c.map names keys marks h.routes (get_or all p.0 []) (names_at c p.0) at e.0 p.2 in
            any_passes test s p.0 p.1 (any_passes (λ x. leads marks x y) (get_or all p.0 []) x.0 x.1
            ((h.routes.led x.0 y x.2 ly).1 (subst (λ b. Enables c.map b (name_at names y)) (sym x.3) e.2))),
      )

-- the set is not empty and enables each of the names
pub record EnablesAll (c : Choice) (s : List ℕ) (names : List Name) : Type 0 where
  pub nonempty : s ≢ []
  pub all : All (IsEnabledBy c s) names

pub not_empty : (s : List ℕ) → not (length s == 0) ≡ true → s ≢ []
not_empty [] e = absurd (let z : false ≡ true = e in cc)
not_empty (x ∷ s) e = λ f. (cc)

pub is_not_empty : (s : List ℕ) → s ≢ [] → not (length s == 0) ≡ true
is_not_empty [] n = absurd (n refl)
is_not_empty (x ∷ s) n = elim (eqb_tells (length (x ∷ s)) 0) [ inl e ↦ absurd (let z : length (x ∷ s) ≡ 0 = e.1 in omega arith) | inr w ↦ ap not w.0 ]

module _ (c : Choice) (names : List Name) (keys : List Bool) (marks : List (List Bool)) (all each : List (List ℕ)) (h : ArePlaced Enabling c.map c.candidates c.at_least_one_of names keys marks all each) where
  pub covers_iff : (s : List ℕ) → All (λ p. p < length c.candidates) s → (q : ℕ) → q < length c.candidates → (covers_test marks all s (get_or all q []) ≡ true) ↔ EnablesAll c s (names_at c q)
  covers_iff s low q lq =
      let at = h.candidates_at.each q lq in
      let group = get_or all q [] in (
        λ t. let w = and_parts (not (length s == 0)) _ t in record {
          nonempty = not_empty s w.0;
          all = λ k d lt.
              let y = placed Enabling c.map names keys marks h.routes group (names_at c q) at (get_or (names_at c q) k d) (Contains-get_or (names_at c q) k d lt) in
              subst (IsEnabledBy c s) y.3 ((set_enables_iff c names keys marks all each h s low y.0 y.2).0 (each_passes (set_enables_test marks all s) group w.1 y.0 y.1));
        },
        λ e. and_from (not (length s == 0)) _ (is_not_empty s e.nonempty)
            (all_pass (set_enables_test marks all s) group (λ y cy.
            (set_enables_iff c names keys marks all each h s low y (low_at Enabling c.map names keys marks h.routes group (names_at c q) at y cy)).1
            (All-contains (IsEnabledBy c s) (names_at c q) (name_at names y) e.all (shown_at Enabling c.map names keys marks h.routes group (names_at c q) at y cy)))),
      )

-- taking out one position

at_default : (s : List ℕ) (i d : ℕ) → i < length s → get_or s i d ≡ get_or s i 0
at_default s i d lt = get_or_default s i d 0 lt

-- places of an increasing list
module _ (n : ℕ) (s : List ℕ) (h : IsSelection n s) where
  pub rises : (i j : ℕ) → i < j → j < length s → get_or s i 0 < get_or s j 0
  rises i j lt in' = h.increasing i j 0 lt in'

  -- a greater element is at a later place
  pub later : (k j : ℕ) → k < length s → j < length s → get_or s k 0 < get_or s j 0 → k < j
  later k j kl jl lt = elim (cases_order k j) [
    | inl e ↦ absurd (let same : get_or s k 0 ≡ get_or s j 0 = ap (λ i. get_or s i 0) e in omega arith)
    | inr w ↦ elim w [ inl l ↦ l | inr g ↦ absurd (let r = rises j k g kl in omega arith) ]
  ]

  -- the one that is taken out is gone
  pub removed_gone : (k : ℕ) → k < length s → ¬ Contains (remove s k) (get_or s k 0)
  removed_gone k kl c =
      let is : get_or (remove s k) c.0 0 ≡ get_or s k 0 = sym (at_default (remove s k) c.0 (get_or s k 0) c.1) ∙ c.2 in
      let fewer = length-remove s k kl in
      elim (cases_lt c.0 k) [
        | inl l ↦ (let same = get_or-remove_below s k 0 c.0 l kl in let r = rises c.0 k l kl in omega arith)
        | inr g ↦ (let same = get_or-remove_above s k 0 c.0 g kl in let r = rises k (c.0 + 1) (omega arith) (omega (arith, c.1)) in omega arith)
      ]

-- any other stays
pub removed_other : (s : List ℕ) (k : ℕ) (q : ℕ) → k < length s → Contains s q → q ≢ get_or s k 0 → Contains (remove s k) q
removed_other [] k q kl c ne = absurd (Contains-nil q c)
removed_other (x ∷ s) zero q kl c ne = elim (Contains-cons_cases x s q c) [ inl e ↦ absurd (ne (sym e)) | inr w ↦ w ]
removed_other (x ∷ s) (suc k) q kl c ne =
    elim (Contains-cons_cases x s q c) [
      | inl e ↦ subst (λ y. Contains (x ∷ remove s k) y) e (Contains-head x (remove s k))
      | inr w ↦ Contains-tail x (remove s k) q (removed_other s k q (omega arith) w ne)
    ]

bytes_tell-by : (x y : Name) (b : Bool) → bytes_eq x y ≡ b → (x ≡ y) ⊎ (x ≢ y)
bytes_tell-by x y true e = inl ((bytes_eq-Decides x y).0 e)
bytes_tell-by x y false e = inr (λ s. let t : bytes_eq x y ≡ true = (bytes_eq-Decides x y).1 s in let z : true ≡ false = sym t ∙ e in cc)

-- two names are the same, or they aren't
bytes_tell : (x y : Name) → (x ≡ y) ⊎ (x ≢ y)
bytes_tell x y = bytes_tell-by x y (bytes_eq x y) refl

-- a set that enables the same names serves the same groups
serves_same : (c : Choice) (s t : List ℕ) → EnableTheSame c s t → (group : List Name) → Serves c group s → Serves c group t
serves_same c s t same group v =
    let e = (same v.0).0 (v.0, v.1, here) in (
      e.0,
      e.1,
      (
        elim (bytes_tell e.0 v.0) [ inl q ↦ subst (IsKey c.map) (sym q) v.2.0 | inr n ↦ key_from c.map e.2 n ],
        v.2.1,
        v.2.2,
        Chain-append e.2 v.2.3,
      ),
    )

pub required_same : (c : Choice) (s t : List ℕ) → EnableTheSame c s t → IsRequired c s → IsRequired c t
required_same c s t same r = λ k d lt key can. serves_same c s t same (get_or c.at_least_one_of k d) (r k d lt key can)

-- t and u agree on the members of s from the place k on
abbrev pub AgreeFrom : ℕ → List ℕ → List ℕ → List ℕ → Type 0
AgreeFrom k s t u = (j : ℕ) → k ≤ j → j < length s → Contains t (get_or s j 0) ↔ Contains u (get_or s j 0)

-- u is a nonempty set inside s that enables the same names
pub record IsRival (c : Choice) (s u : List ℕ) : Type 0 where
  pub nonempty : u ≢ []
  pub inside : All (Contains s) u
  pub same : EnableTheSame c s u

-- kept is s without those members from the place k on whose names the others enable
pub record Greedy (c : Choice) (s : List ℕ) (k : ℕ) (kept : List ℕ) : Type 0 where
  pub selection : IsSelection (length c.candidates) kept
  pub wanted : IsWanted c kept
  pub rival : IsRival c s kept
  pub front : (j : ℕ) → j < k → get_or kept j 0 ≡ get_or s j 0
  pub room : k ≤ length kept
  pub least : (u : List ℕ) → IsRival c s u → IsBefore kept u ⊎ AgreeFrom k s kept u

pub greedy_start : (c : Choice) (s : List ℕ) → IsSelection (length c.candidates) s → IsWanted c s → Greedy c s (length s) s
greedy_start c s sel w = record {
  selection = sel;
  wanted = w;
  rival = record { nonempty = w.nonempty; inside = All-contains_itself s; same = λ y. (λ e. e, λ e. e) };
  front = λ j lt. refl;
  room = omega arith;
  least = λ u r. inr (λ j ge lt. absurd (omega arith));
}

-- a set that is not empty has a member
first_member : (s : List ℕ) → s ≢ [] → (p : ℕ) × Contains s p
first_member [] n = absurd (n refl)
first_member (x ∷ s) n = (x, Contains-head x s)

-- one turn at the place k: kept without it, if that isn't empty and enables its names, else kept
module _ (c : Choice) (s : List ℕ) (hs : IsSelection (length c.candidates) s) (k : ℕ) (kl : k < length s) (kept : List ℕ) (h : Greedy c s (k + 1) kept) where
  at : k < length kept
  at = let r = h.room in omega arith

  pub same_place : get_or kept k 0 ≡ get_or s k 0
  same_place = h.front k (omega arith)

  is : get_or s k 0 ≡ get_or kept k (get_or s k 0)
  is = sym (at_default kept k (get_or s k 0) at ∙ same_place)

  -- each member of s has a place in it
  place_of : (q : ℕ) → Contains s q → (j : ℕ) × (j < length s) × (get_or s j 0 ≡ q)
  place_of q w = (w.0, w.1, sym (at_default s w.0 q w.1) ∙ w.2)

  -- above the place both sets have the same members
  above_same : (u : List ℕ) → All (Contains s) u → AgreeFrom (k + 1) s kept u → (q : ℕ) → get_or s k 0 < q → Contains kept q ↔ Contains u q
  above_same u iu agree q gt = (
    λ w. let j = place_of q (All-contains (Contains s) kept q h.rival.inside w) in
        let on : k < j.0 = later (length c.candidates) s hs k j.0 kl j.1 (rw j.2 gt) in
        subst (λ x. Contains u x) j.2 ((agree j.0 (omega arith) j.1).0 (subst (λ x. Contains kept x) (sym j.2) w)),
    λ w. let j = place_of q (All-contains (Contains s) u q iu w) in
        let on : k < j.0 = later (length c.candidates) s hs k j.0 kl j.1 (rw j.2 gt) in
        subst (λ x. Contains kept x) j.2 ((agree j.0 (omega arith) j.1).1 (subst (λ x. Contains u x) (sym j.2) w)),
  )

  gone : ¬ Contains (remove kept k) (get_or s k 0)
  gone w = removed_gone (length c.candidates) kept h.selection k at (subst (λ x. Contains (remove kept k) x) (sym same_place) w)

  other : (q : ℕ) → Contains kept q → q ≢ get_or s k 0 → Contains (remove kept k) q
  other q w ne = removed_other kept k q at w (λ e. ne (e ∙ same_place))

  -- the case that the others enable the names at the place
  module _ (covered : EnablesAll c (remove kept k) (names_at c (get_or s k 0))) where
    same_without : EnableTheSame c kept (remove kept k)
    same_without y = (
      λ e. elim (name_left c kept k (get_or s k 0) at is e.0 e.1) [
        | inl w ↦ let f = All-contains (IsEnabledBy c (remove kept k)) (names_at c (get_or s k 0)) e.0 covered.all w in (f.0, f.1, Chain-append f.2 e.2)
        | inr w ↦ (e.0, w, e.2)
      ],
      λ e. (e.0, name_kept c kept k (get_or s k 0) at is e.0 e.1, e.2),
    )

    before_without : (u : List ℕ) → All (Contains s) u → Contains u (get_or s k 0) → ((q : ℕ) → get_or s k 0 < q → Contains kept q ↔ Contains u q) → IsBefore (remove kept k) u
    before_without u iu w up = record {
      greatest = get_or s k 0;
      absent = gone;
      present = w;
      above = λ q gt. (λ v. (up q gt).0 (removed_member kept k q v), λ v. other q ((up q gt).1 v) (λ e. (omega (arith, e))));
    }

    least_without : (u : List ℕ) → IsRival c s u → IsBefore kept u ⊎ AgreeFrom (k + 1) s kept u → Contains u (get_or s k 0) ⊎ (¬ Contains u (get_or s k 0)) → IsBefore (remove kept k) u ⊎ AgreeFrom k s (remove kept k) u
    least_without u r (inl b) tell =
        elim (cases_order b.greatest (get_or s k 0)) [
          | inl e ↦ absurd (b.absent (subst (λ x. Contains kept x) (sym e) (k, at, sym is)))
          | inr w ↦ elim w [
            | inl lt ↦ inl (before_without u r.inside ((b.above (get_or s k 0) lt).0 (k, at, sym is)) (λ q gt. b.above q (omega arith)))
            | inr gt ↦ inl (record {
              greatest = b.greatest;
              absent = λ v. b.absent (removed_member kept k b.greatest v);
              present = b.present;
              above = λ q up. (λ v. (b.above q up).0 (removed_member kept k q v), λ v. other q ((b.above q up).1 v) (λ e. (omega (arith, e))));
            })
          ]
        ]
    least_without u r (inr agree) (inl w) = inl (before_without u r.inside w (above_same u r.inside agree))
    least_without u r (inr agree) (inr n) = inr (λ j ge lt.
        elim (cases_order k j) [
          | inl e ↦ (λ v. absurd (gone (subst (λ i. Contains (remove kept k) (get_or s i 0)) (sym e) v)), λ v. absurd (n (subst (λ i. Contains u (get_or s i 0)) (sym e) v)))
          | inr w ↦ elim w [
            | inl on ↦
                let up : get_or s k 0 < get_or s j 0 = rises (length c.candidates) s hs k j on lt in
                (λ v. (agree j (omega arith) lt).0 (removed_member kept k (get_or s j 0) v), λ v. other (get_or s j 0) ((agree j (omega arith) lt).1 v) (λ e. omega (arith, e)))
            | inr before ↦ absurd (omega arith)
          ]
        ])

    pub greedy_without : Greedy c s k (remove kept k)
    greedy_without = record {
      selection = selection_left c kept k (get_or s k 0) at is (length c.candidates) h.selection;
      wanted = record {
        nonempty = covered.nonempty;
        within = within_left c kept k (get_or s k 0) at is h.wanted.within;
        exclusive = exclusive_left c kept k (get_or s k 0) at is h.wanted.exclusive;
        required = required_same c kept (remove kept k) same_without h.wanted.required;
      };
      rival = record {
        nonempty = covered.nonempty;
        inside = λ i d lt. All-contains (Contains s) kept (get_or (remove kept k) i d) h.rival.inside (removed_member kept k _ (Contains-get_or (remove kept k) i d lt));
        same = λ y. (λ e. (same_without y).0 ((h.rival.same y).0 e), λ e. (h.rival.same y).1 ((same_without y).1 e));
      };
      front = λ j lt. get_or-remove_below kept k 0 j lt at ∙ h.front j (omega arith);
      room = let r = h.room in let fewer = length-remove kept k at in omega arith;
      least = λ u r. least_without u r (h.least u r) (member u (get_or s k 0));
    }

  -- the case that they don't
  module _ (uncovered : ¬ EnablesAll c (remove kept k) (names_at c (get_or s k 0))) where
    -- a rival without the place, that agrees above it, lies in what is left
    inside_rest : (u : List ℕ) → IsRival c s u → AgreeFrom (k + 1) s kept u → ¬ Contains u (get_or s k 0) → (q : ℕ) → Contains u q → Contains (remove kept k) q
    inside_rest u r agree n q w =
        let ne : q ≢ get_or s k 0 = λ e. n (subst (λ x. Contains u x) e w) in
        elim (cases_order q (get_or s k 0)) [
          | inl e ↦ absurd (ne e)
          | inr v ↦ elim v [
            | inl lt ↦
                let j = place_of q (All-contains (Contains s) u q r.inside w) in
                let low : j.0 < k = later (length c.candidates) s hs j.0 k j.1 kl (rw j.2 lt) in
                other q (subst (λ x. Contains kept x) (h.front j.0 (omega arith) ∙ j.2) (j.0, (let a = at in omega arith), at_default kept j.0 (get_or kept j.0 0) (let a = at in omega arith))) ne
            | inr gt ↦ other q ((above_same u r.inside agree q gt).1 w) ne
          ]
        ]

    covers_all : (u : List ℕ) → IsRival c s u → AgreeFrom (k + 1) s kept u → ¬ Contains u (get_or s k 0) → EnablesAll c (remove kept k) (names_at c (get_or s k 0))
    covers_all u r agree n = record {
      nonempty = λ e. let some = first_member u r.nonempty in Contains-nil some.0 (subst (λ l. Contains l some.0) e (inside_rest u r agree n some.0 some.1));
      all = λ i d lt.
          let y = get_or (names_at c (get_or s k 0)) i d in
          let named = named_in c kept (get_or s k 0) y (k, at, sym is) (Contains-get_or (names_at c (get_or s k 0)) i d lt) in
          let e = (r.same y).0 ((h.rival.same y).1 (y, named, here)) in
          let q = member_of c u e.0 e.1 in
          (e.0, named_in c (remove kept k) q.0 e.0 (inside_rest u r agree n q.0 q.1) q.2, e.2);
    }

    agree_on : (u : List ℕ) → IsRival c s u → AgreeFrom (k + 1) s kept u → Contains u (get_or s k 0) ⊎ (¬ Contains u (get_or s k 0)) → AgreeFrom k s kept u
    agree_on u r agree (inr n) = absurd (uncovered (covers_all u r agree n))
    agree_on u r agree (inl w) = λ j ge lt.
        elim (cases_order k j) [
          | inl e ↦ (λ v. subst (λ i. Contains u (get_or s i 0)) e w, λ v. subst (λ i. Contains kept (get_or s i 0)) e (k, at, sym is))
          | inr v ↦ elim v [ inl on ↦ agree j (omega arith) lt | inr before ↦ absurd (omega arith) ]
        ]

    pub greedy_with : Greedy c s k kept
    greedy_with = record {
      selection = h.selection;
      wanted = h.wanted;
      rival = h.rival;
      front = λ j lt. h.front j (omega arith);
      room = let r = h.room in omega arith;
      least = λ u r. elim (h.least u r) [ inl b ↦ inl b | inr agree ↦ inr (agree_on u r agree (member u (get_or s k 0))) ];
    }

-- after the last turn

module _ (c : Choice) (s : List ℕ) (hs : IsSelection (length c.candidates) s) (kept : List ℕ) (h : Greedy c s 0 kept) where
  -- any rival is the same, or comes after
  first : (u : List ℕ) → IsSelection (length c.candidates) u → IsRival c s u → IsBefore kept u ⊎ (kept ≡ u)
  first u hu r =
      elim (h.least u r) [
        | inl b ↦ inl b
        | inr agree ↦ elim (ordered (length c.candidates) kept u h.selection hu) [
          | inl b ↦ inl b
          | inr w ↦ elim w [
            | inl e ↦ inr e
            | inr b ↦
                let m = All-contains (Contains s) kept b.greatest h.rival.inside b.present in
                let e : get_or s m.0 0 ≡ b.greatest = sym (at_default s m.0 b.greatest m.1) ∙ m.2 in
                absurd (b.absent (subst (λ x. Contains u x) e ((agree m.0 (omega arith) m.1).0 (subst (λ x. Contains kept x) (sym e) b.present))))
          ]
        ]
      ]

  -- nothing in it is redundant
  lean : ¬ IsRedundant c kept
  lean r =
      let i = r.3.0 in
      let at : i < length kept = r.3.1 in
      let is : r.1 ≡ get_or kept i r.1 = sym r.3.2 in
      let named = named_in c kept r.0 r.4.0 r.2 r.4.1 in
      let u = remove kept i in
      let rival : IsRival c s u = record {
        nonempty = nonempty_left c kept i r.1 at is r.4.0 named r.4.2 r.4.3;
        inside = λ k d lt. All-contains (Contains s) kept (get_or u k d) h.rival.inside (removed_member kept i _ (Contains-get_or u k d lt));
        same = λ y. let one = enables_left c kept i r.1 at is r.4.0 named r.4.2 r.4.3 y in let two = h.rival.same y in (λ e. one.0 (two.0 e), λ e. two.1 (one.1 e));
      } in
      elim (first u (selection_left c kept i r.1 at is (length c.candidates) h.selection) rival) [
        | inl b ↦ b.absent (removed_member kept i b.greatest b.present)
        | inr e ↦ (let fewer = length-remove kept i at in let longer : length kept ≡ length u = ap length e in omega arith)
      ]

  pub greedy_end : IsFirstCover c s kept
  greedy_end = record {
    covers = record {
      selection = h.selection;
      listed = record { wanted = h.wanted; lean = lean };
      inside = h.rival.inside;
      same = h.rival.same;
    };
    first = λ u v. first u v.selection (record { nonempty = v.listed.wanted.nonempty; inside = v.inside; same = v.same });
  }

pub kept_room : (b : Bool) (kept : List ℕ) (k : ℕ) → k < length kept → (next : List ℕ) → next ≡ cond b (remove kept k) kept → k ≤ length next
kept_room true kept k at next e = omega (arith, ap length e, length-remove kept k at)
kept_room false kept k at next e = omega (arith, ap length e)

-- one turn, by the test
module _ (c : Choice) (names : List Name) (keys : List Bool) (marks : List (List Bool)) (all each : List (List ℕ)) (are : ArePlaced Enabling c.map c.candidates c.at_least_one_of names keys marks all each)
    (s : List ℕ) (hs : IsSelection (length c.candidates) s) (k : ℕ) (kl : k < length s) (kept : List ℕ) (h : Greedy c s (k + 1) kept) where
  test_at : get_or kept k 0 ≡ get_or s k 0
  test_at = same_place c s hs k kl kept h

  low : All (λ p. p < length c.candidates) (remove kept k)
  low = λ i d lt. All-contains (λ p. p < length c.candidates) kept (get_or (remove kept k) i d) h.selection.below (removed_member kept k _ (Contains-get_or (remove kept k) i d lt))

  tells : (covers_test marks all (remove kept k) (get_or all (get_or s k 0) []) ≡ true) ↔ EnablesAll c (remove kept k) (names_at c (get_or s k 0))
  tells = covers_iff c names keys marks all each are (remove kept k) low (get_or s k 0) (hs.below k 0 kl)

  turn_by : (b : Bool) (next : List ℕ) → covers_test marks all (remove kept k) (get_or all (get_or kept k 0) []) ≡ b → next ≡ cond b (remove kept k) kept → Greedy c s k next
  turn_by true next e f =
      subst (Greedy c s k) (sym f) (greedy_without c s hs k kl kept h (tells.0 (subst (λ p. covers_test marks all (remove kept k) (get_or all p []) ≡ true) test_at e)))
  turn_by false next e f =
      subst (Greedy c s k) (sym f) (greedy_with c s hs k kl kept h (λ enables.
      let t = tells.1 enables in
      let g = subst (λ p. covers_test marks all (remove kept k) (get_or all p []) ≡ false) test_at e in
      let z : true ≡ false = sym t ∙ g in cc))

  pub greedy_turn : (next : List ℕ) → next ≡ cond (covers_test marks all (remove kept k) (get_or all (get_or kept k 0) [])) (remove kept k) kept → Greedy c s k next
  greedy_turn next f = turn_by (covers_test marks all (remove kept k) (get_or all (get_or kept k 0) [])) next refl f
