-- What is built for a set that the search may choose.
use Rattle.std.proofs.Common.{◌≡◌, ℕ, ◌<◌, List, [], ◌∷◌, length, get_or, refl, sym, ap, ◌∙◌, subst, arith, Bool, true, false, inl, inr, ◌⊎◌, Contains, IsTrue, Option, None, Some}
use Rattle.std.specs.List.{list_any}
use Rattle.std.proofs.Math.Logic.{∥∥₁_map, ∥∥₁_elim}
use Rattle.std.proofs.lemmas.Bool.{false≢true, cases_lt, cases_Bool}
use Rattle.std.proofs.lemmas.List.{get_or_default}
use Rattle.std.proofs.lemmas.List.Elements.{All-contains, Contains-get_or}
use Rattle.hack_base.proofs.Members.{Contains-nil}
use Rattle.hack_base.proofs.Passes.{all_pass, any_passes}
use Rattle.hack_base.specs.Names.{Name}
use Rattle.hack_conflicts.specs.Sets.{Has, mark, rows_of}
use Rattle.hack_conflicts.specs.Rules.{IsPreorder, IsChoice, HasOneOf, Meets, size_of, enables}
use Rattle.hack_conflicts.specs.declared.rules.Rules.{Rules as SearchRules}
use Rattle.hack_routes.specs.FeatureMap.{Reaches}
use Rattle.hack_sets.specs.Sets.{IsSelection, IsWithin}
use Rattle.hack_features.specs.Rules.{Choice, names_at, CandidateReaches, IsExclusive, IsRequired, IsWanted, IsEnabledBy, EnableTheSame, IsFirstCover}
use Rattle.hack_features.specs.Samples.{IsOn}
use Rattle.hack_routes.specs.Rows.{bit}
use Rattle.hack_features.proofs.CoverLemmas.{required_same}
use Rattle.hack_features.proofs.Decided.{Told, had, bool_told}
use Rattle.hack_features.proofs.MemberLemmas.{both_told}
use Rattle.hack_closures.specs.Closures.{AreAlone, StandsFor, candidate_at}
use Rattle.hack_closures.specs.Internal.{AreRows, AreGreatest, IsTold, candidates_of}
use Rattle.hack_closures.proofs.PairLemmas.{all_apart}
use Rattle.hack_closures.proofs.MemberLemmas.{candidates_from, candidates_to, candidates_selection}
use Rattle.hack_closures.proofs.TurnLemmas.{by_member, some_member, enabled_through, on_told}
use Rattle.hack_closures.proofs.OrderLemmas.{kind, last_low, candidates, order, enabling}
use Rattle.hack_closures.proofs.RowLemmas.{marked, marked_at, needed_serving}

within_none : (depth : Option ℕ) (s : List ℕ) → depth ≡ None → IsWithin depth s
within_none None s e = tt
within_none (Some most) s e = absurd (let z : Some most ≡ None = e in cc)

-- the candidates of the greatest members of a set without the position of all features
module _ (c : Choice) (alone : List ℕ) (r : SearchRules) (s left : List Bool)
    (chosen : IsChoice r s) (low_s : (x : ℕ) → Has s x → x < length alone) (g : AreGreatest r s left)
    (on : (x y : ℕ) → x < length alone → y < length alone → IsTrue (enables r x y) → IsOn c (candidate_at alone x ∷ []) (candidate_at alone y)) where
  abbrev whole : List ℕ
  whole = candidates_of alone s

  abbrev kept : List ℕ
  kept = candidates_of alone left

  low_left : (x : ℕ) → Has left x → x < length alone
  low_left x has = low_s x (g.within x has)

  -- a kept candidate enables what a candidate of the set enables
  up_to : (x : ℕ) (y : Name) → Has s x → IsEnabledBy c (candidate_at alone x ∷ []) y → IsEnabledBy c kept y
  up_to x y has e =
      let z = g.above x has in
      let lz = low_left z.0 z.1 in
      by_member c kept (candidate_at alone z.0) y (candidates_to alone left z.0 lz z.1) (enabled_through c (candidate_at alone z.0) (candidate_at alone x) y (on z.0 x lz (low_s x has) z.2) e)

  kept_same : EnableTheSame c whole kept
  kept_same y = (
    λ e.
        let w = some_member c whole y e in
        let x = candidates_from alone s w.0 w.1 in
        up_to x.0 y x.2 (subst (λ p. IsEnabledBy c (p ∷ []) y) (sym x.3) w.2),
    λ e.
        let w = some_member c kept y e in
        let x = candidates_from alone left w.0 w.1 in
        by_member c whole w.0 y (subst (Contains whole) x.3 (candidates_to alone s x.0 x.1 (g.within x.0 x.2))) w.2,
  )

  -- a listed set that covers them stands for the set
  pub stands : (t : List ℕ) → IsFirstCover c kept t → StandsFor c alone s t
  stands t cover = record {
    selection = cover.covers.selection;
    listed = cover.covers.listed;
    among = λ k d lt.
        let x = candidates_from alone left (get_or t k d) (cover.covers.inside k d lt) in
        (x.0, x.1, g.within x.0 x.2, x.3);
    same = λ y. (
      λ e.
          let w = some_member c whole y ((kept_same y).1 ((cover.covers.same y).1 e)) in
          (w.0, candidates_from alone s w.0 w.1, w.2),
      λ w.
          let x = w.1 in
          (cover.covers.same y).0 (up_to x.0 y x.2 (subst (λ p. IsEnabledBy c (p ∷ []) y) (sym x.3) w.2)),
    );
  }

  module _ (with_empty all : Bool) (a : AreAlone c alone) (h : AreRows c alone with_empty all r) (bare : IsTrue all → c.exclusive ≡ []) (free : c.depth ≡ None) where
    -- two kept candidates that reach one group are one
    one_of_group : (k : ℕ) → k < length c.exclusive → (all ≡ true) ⊎ (all ≡ false) → (x y : ℕ) → Has left x → Has left y → CandidateReaches c (get_or c.exclusive k []) (candidate_at alone x) → CandidateReaches c (get_or c.exclusive k []) (candidate_at alone y) → x ≡ y
    one_of_group k lt (inl e) x y hx hy rx ry = absurd (let none : length c.exclusive ≡ 0 = ap length (bare e) in omega (arith, lt))
    one_of_group k lt (inr e) x y hx hy rx ry =
        let groups = h.excluding.groups e in
        let lr : k < length (rows_of r.exclusive.items) = (let n = groups.count in omega (arith, lt)) in
        let marks = groups.each k lt in
        let both = chosen.exclusive k [] lr x y (g.within x hx) (g.within y hy) ((marks.each x (low_left x hx)).1 rx) ((marks.each y (low_left y hy)).1 ry) in
        let z = g.above both.0 both.1 in
        let up = order c alone all r h.enabled in
        let first : z.0 ≡ x = g.apart x z.0 hx z.1 (up.transitive z.0 both.0 x z.2 both.2) in
        let second : z.0 ≡ y = g.apart y z.0 hy z.1 (up.transitive z.0 both.0 y z.2 both.3) in
        sym first ∙ second

    kept_exclusive : IsExclusive c kept
    kept_exclusive k d lt =
        let group : List Name = get_or c.exclusive k d in
        let sel = candidates_selection (length c.candidates) alone left a.selection in
        let same : group ≡ get_or c.exclusive k [] = get_or_default c.exclusive k d [] lt in
        all_apart c (Reaches c.map group) kept sel.increasing
        (λ p there.
        let x = candidates_from alone left p there in
        let low_p : p < length c.candidates = All-contains (λ p. p < length c.candidates) kept p sel.below there in
        let in_alone : Contains alone p = subst (Contains alone) x.3 (Contains-get_or alone x.0 0 x.1) in
        (a.exact p low_p).0 in_alone k d lt)
        (λ p q x y cp cq less cx cy rx ry.
        let u = candidates_from alone left p cp in
        let v = candidates_from alone left q cq in
        let reach_u : CandidateReaches c (get_or c.exclusive k []) (candidate_at alone u.0) = subst (λ g. CandidateReaches c g (candidate_at alone u.0)) same (x, subst (λ p. Contains (names_at c p) x) (sym u.3) cx, rx) in
        let reach_v : CandidateReaches c (get_or c.exclusive k []) (candidate_at alone v.0) = subst (λ g. CandidateReaches c g (candidate_at alone v.0)) same (y, subst (λ p. Contains (names_at c p) y) (sym v.3) cy, ry) in
        let e : u.0 ≡ v.0 = one_of_group k lt (cases_Bool all) u.0 v.0 u.2 v.2 reach_u reach_v in
        let equal : p ≡ q = sym u.3 ∙ ap (candidate_at alone) e ∙ v.3 in
        omega arith)

    whole_required : IsRequired c whole
    whole_required =
        (h.needed.served whole (candidates_selection (length c.candidates) alone s a.selection)).0
        (all_pass (λ row. list_any (bit row) whole) h.needed.serving (λ from there.
        let row : List Bool = marked alone all from in
        let w = All-contains (Meets s) (rows_of r.needed.items) row chosen.required (subst (λ rows. Contains rows row) (sym h.needed.made) (needed_serving alone with_empty all h.needed.serving from there)) in
        let lt = low_s w.0 w.2 in
        any_passes (bit from) whole (candidate_at alone w.0) (candidates_to alone s w.0 lt w.2) (sym (marked_at alone all from w.0 lt) ∙ w.1)))

    pub kept_wanted : (x : ℕ) → Has s x → IsWanted c kept
    kept_wanted x has = record {
      nonempty = λ e. let z = g.above x has in Contains-nil (candidate_at alone z.0) (subst (λ l. Contains l (candidate_at alone z.0)) e (candidates_to alone left z.0 (low_left z.0 z.1) z.1));
      within = within_none c.depth kept free;
      exclusive = kept_exclusive;
      required = required_same c whole kept kept_same whole_required;
    }

-- a set with the position of all features has just what it enables
module _ (c : Choice) (alone : List ℕ) (with_empty all : Bool) (r : SearchRules) (h : AreRows c alone with_empty all r) (s : List Bool) (chosen : IsChoice r s) (is : IsTrue all) (has : Has s (length alone)) where
  all_enables : (x : ℕ) → x < length alone → Has s x → (enables r (length alone) x ≡ true) ⊎ (enables r (length alone) x ≡ false) → IsTrue (enables r (length alone) x)
  all_enables x lt hx (inl e) = e
  all_enables x lt hx (inr e) =
      let last : ℕ = length alone in
      let pair = (h.excluding.pairs is).each x lt (λ t. false≢true (sym e ∙ t)) in
      let both = All-contains (HasOneOf r s) (rows_of r.exclusive.items) pair.0 chosen.exclusive pair.1 x last hx has ((pair.2 x).1 (inl refl)) ((pair.2 last).1 (inr refl)) in
      elim (kind c alone all r h.enabled both.0 (chosen.closed.below both.0 both.1)) [
        | inl l ↦ absurd ((enabling c alone all r h.enabled).to_all both.0 l both.3)
        | inr w ↦ subst (λ z. IsTrue (enables r z x)) w.0 both.2
      ]

  all_from : (x : ℕ) → Has s x → IsTrue (enables r (length alone) x)
  all_from x hx = elim (kind c alone all r h.enabled x (chosen.closed.below x hx)) [
    | inl lt ↦ all_enables x lt hx (cases_Bool (enables r (length alone) x))
    | inr w ↦ subst (λ z. IsTrue (enables r (length alone) z)) (sym w.0) ((order c alone all r h.enabled).reflexive (length alone) (last_low c alone all r h.enabled is))
  ]

  pub all_same : (x : ℕ) → mark s x ≡ enables r (length alone) x
  all_same x = both_told (mark s x) (enables r (length alone) x) (all_from x) (λ e. chosen.closed.whole (length alone) x has e)

-- what follows from what closures are told of
never : IsProp ⊥
never a b = absurd a

low_told : (i n : ℕ) → Told (i < n)
low_told i n = elim (cases_lt i n) [ inl lt ↦ inl lt | inr le ↦ inr (λ lt. omega arith) ]

module _ (c : Choice) (alone : List ℕ) (all : Bool) (r : SearchRules) (told : ∥ IsTold c alone all r ∥₁) where
  pub told_order : IsPreorder r
  told_order = record {
    reflexive = λ x lt. had (bool_told (enables r x x)) (∥∥₁_map told (λ k. (order c alone all r k.rows.enabled).reflexive x lt));
    below = λ x y e. had (low_told y (size_of r)) (∥∥₁_map told (λ k. (order c alone all r k.rows.enabled).below x y e));
    transitive = λ x y z e f. had (bool_told (enables r x z)) (∥∥₁_map told (λ k. (order c alone all r k.rows.enabled).transitive x y z e f));
  }

  pub told_selection : IsSelection (length c.candidates) alone
  told_selection = record {
    increasing = λ i j d lt le. had (low_told (get_or alone i d) (get_or alone j d)) (∥∥₁_map told (λ k. k.are_alone.selection.increasing i j d lt le));
    below = λ i d lt. had (low_told (get_or alone i d) (length c.candidates)) (∥∥₁_map told (λ k. k.are_alone.selection.below i d lt));
  }

  told_on : (x y : ℕ) → x < length alone → y < length alone → IsTrue (enables r x y) → IsOn c (candidate_at alone x ∷ []) (candidate_at alone y)
  told_on x y lx ly e = had (on_told c (candidate_at alone x ∷ []) (candidate_at alone y)) (∥∥₁_map told (λ k. ((candidates c alone all r k.rows.enabled x y lx ly).0 e).on))

  module _ (s : List Bool) (chosen : IsChoice r s) where
    -- a set with the position of all features
    pub told_all : IsTrue all → Has s (length alone) → (x : ℕ) → mark s x ≡ enables r (length alone) x
    told_all is has x =
        let same = ∥∥₁_map told (λ k. all_same c alone k.with_empty all r k.rows s chosen is has x) in
        both_told (mark s x) (enables r (length alone) x)
        (λ e. had (bool_told (enables r (length alone) x)) (∥∥₁_map same (λ f. sym f ∙ e)))
        (λ e. had (bool_told (mark s x)) (∥∥₁_map same (λ f. f ∙ e)))

    -- one without it
    module _ (plain : IsTrue all → ¬ Has s (length alone)) where
      low_set : (x : ℕ) → Has s x → x < length alone
      low_set x has = had (low_told x (length alone)) (∥∥₁_map told (λ k.
          elim (kind c alone all r k.rows.enabled x (chosen.closed.below x has)) [
            | inl lt ↦ lt
            | inr w ↦ absurd (plain w.1 (subst (Has s) w.0 has))
          ]))

      pub told_last : ¬ Has s (length alone)
      told_last has = let lt : length alone < length alone = low_set (length alone) has in omega arith

      pub told_stands : (left : List Bool) → AreGreatest r s left → (t : List ℕ) → IsFirstCover c (candidates_of alone left) t → StandsFor c alone s t
      told_stands left g t cover = stands c alone r s left chosen low_set g told_on t cover

      pub told_empty : (left : List Bool) → AreGreatest r s left → ¬ IsWanted c (candidates_of alone left) → (x : ℕ) → ¬ Has s x
      told_empty left g unwanted x has =
          ∥∥₁_elim told never (λ k. unwanted (kept_wanted c alone r s left chosen low_set g told_on k.with_empty all k.are_alone k.rows k.bare k.depth x has))
