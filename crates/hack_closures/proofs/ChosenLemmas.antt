-- The sets that the search may choose: what listed sets turn on, the empty set, what all features turn on.
use Rattle.std.proofs.Common.{◌≡◌, ◌≢◌, ℕ, ◌<◌, List, [], ◌∷◌, length, get_or, refl, sym, ap, ◌∙◌, subst, arith, Bool, true, false, inl, inr, ◌⊎◌, ◌↔◌, Contains, IsTrue}
use Rattle.std.specs.Prelude.{◌==◌}
use Rattle.std.specs.List.{list_any}
use Rattle.std.proofs.lemmas.Bool.{false≢true, cases_eq, cases_Bool, eqb-true, eq-eqb}
use Rattle.std.proofs.lemmas.List.{get_or_default}
use Rattle.std.proofs.lemmas.List.Elements.{All-contains, Contains-get_or}
use Rattle.hack_base.proofs.Members.{Contains-nil, Contains-cons_cases, Contains-head, Contains-tail}
use Rattle.hack_base.proofs.Passes.{all_pass, each_passes, some_passes}
use Rattle.hack_base.specs.Names.{Name}
use Rattle.hack_conflicts.specs.Sets.{Has, mark, rows_of}
use Rattle.hack_conflicts.specs.Rules.{IsPreorder, IsChoice, IsClosed, IsExclusive as IsSearchExclusive, HasOneOf, HasAbove, Meets, IsRequired as IsSearchRequired, enables, row_of}
use Rattle.hack_conflicts.specs.declared.rules.Rules.{Rules as SearchRules}
use Rattle.hack_routes.specs.FeatureMap.{Reaches}
use Rattle.hack_sets.specs.Sets.{IsSelection}
use Rattle.hack_features.specs.Rules.{Choice, CandidateReaches, IsRequired, IsWanted}
use Rattle.hack_routes.specs.Rows.{bit}
use Rattle.hack_sets.proofs.Listing.{selection_none}
use Rattle.hack_closures.specs.Closures.{AreAlone, AreChosen, IsClosureOf, TurnsOn, candidate_at}
use Rattle.hack_closures.specs.Internal.{AreRows, IsPair}
use Rattle.hack_closures.proofs.PairLemmas.{one_alone, not_two}
use Rattle.hack_closures.proofs.MemberLemmas.{has_none, position_of, union}
use Rattle.hack_closures.proofs.TurnLemmas.{turns_itself, turns_through}
use Rattle.hack_closures.proofs.OrderLemmas.{low, target, candidates, order}
use Rattle.hack_closures.proofs.RowLemmas.{marked, every, marked_at, marked_last, every_at, every_last, needed_rows, needed_from, needed_serving, needed_every}

-- all of two positions that are one
same_of_pair : (x last p : ℕ) (row : List Bool) → IsPair x last row → Has row p → p ≢ last → p ≡ x
same_of_pair x last p row is has ne = elim ((is p).0 has) [ inl e ↦ e | inr e ↦ absurd (ne e) ]

module _ (c : Choice) (alone : List ℕ) (with_empty all : Bool) (r : SearchRules) (a : AreAlone c alone) (h : AreRows c alone with_empty all r) where
  abbrev m : ℕ
  m = length alone

  abbrev up : IsPreorder r
  up = order c alone all r h.enabled

  row_in : (row : List Bool) → Contains (rows_of r.needed.items) row → Contains (needed_rows alone with_empty all h.needed.serving) row
  row_in row there = subst (λ rows. Contains rows row) h.needed.made there

  -- what a set of candidates that have positions turns on
  closure : (t : List ℕ) → ((p : ℕ) → Contains t p → Contains alone p) → (s : List Bool) × IsClosureOf c alone t s
  closure [] have = ([], λ x. (λ has. absurd (has_none x has), λ w. absurd (Contains-nil w.1 w.2)))
  closure (p ∷ t) have =
      let rest = closure t (λ q there. have q (Contains-tail p t q there)) in
      let at = position_of alone p (have p (Contains-head p t)) in
      let row : List Bool = row_of r at.0 in
      let both = union row rest.0 in (
        both.0,
        λ x. (
          λ has. elim ((both.1 x).0 has) [
            | inl on ↦ let lx = target c alone all r h.enabled at.0 x at.1 on in
                (lx, p, Contains-head p t, subst (λ q. TurnsOn c q (candidate_at alone x)) at.2 ((candidates c alone all r h.enabled at.0 x at.1 lx).0 on))
            | inr w ↦ let v = (rest.1 x).0 w in (v.0, v.1, Contains-tail p t v.1 v.2, v.3)
          ],
          λ w. (both.1 x).1 (elim (Contains-cons_cases p t w.1 w.2) [
            | inl e ↦ inl ((candidates c alone all r h.enabled at.0 x at.1 w.0).1 (subst (λ q. TurnsOn c q (candidate_at alone x)) (sym (at.2 ∙ e)) w.3))
            | inr there ↦ inr ((rest.1 x).1 (w.0, w.1, there, w.3))
          ]),
        ),
      )

  module _ (t : List ℕ) (sel : IsSelection (length c.candidates) t) (wanted : IsWanted c t) (s : List Bool) (is : IsClosureOf c alone t s) where
    -- each candidate of the set has a position
    pub have_alone : (p : ℕ) → Contains t p → Contains alone p
    have_alone p there =
        (a.exact p (All-contains (λ p. p < length c.candidates) t p sel.below there)).1
        (λ k d lt. one_alone c (Reaches c.map (get_or c.exclusive k d)) t p there (wanted.exclusive k d lt))

    -- which is in what the set turns on
    place : (p : ℕ) → Contains t p → (x : ℕ) × (x < m) × (candidate_at alone x ≡ p) × Has s x
    place p there =
        let at = position_of alone p (have_alone p there) in
        (at.0, at.1, at.2, (is at.0).1 (at.1, p, there, subst (TurnsOn c p) (sym at.2) (turns_itself c p)))

    closed : IsClosed r s
    closed = record {
      below = λ x has. low c alone all r h.enabled x ((is x).0 has).0;
      whole = λ x y has e.
          let v = (is x).0 has in
          let ly = target c alone all r h.enabled x y v.0 e in
          (is y).1 (ly, v.1, v.2, turns_through c v.1 (candidate_at alone x) (candidate_at alone y) v.3 ((candidates c alone all r h.enabled x y v.0 ly).0 e));
    }

    -- a member that turns on both
    above : (p x y : ℕ) → Contains t p → x < m → y < m → TurnsOn c p (candidate_at alone x) → TurnsOn c p (candidate_at alone y) → HasAbove r s x y
    above p x y there lx ly ex ey =
        let at = place p there in (
          at.0,
          at.3,
          (candidates c alone all r h.enabled at.0 x at.1 lx).1 (subst (λ q. TurnsOn c q (candidate_at alone x)) (sym at.2) ex),
          (candidates c alone all r h.enabled at.0 y at.1 ly).1 (subst (λ q. TurnsOn c q (candidate_at alone y)) (sym at.2) ey),
        )

    one_of_group : (k : ℕ) → k < length c.exclusive → (row : List Bool) → ((y : ℕ) → y < m → Has row y → CandidateReaches c (get_or c.exclusive k []) (candidate_at alone y)) → HasOneOf r s row
    one_of_group k lt row reach x y hx hy gx gy =
        let group : List Name = get_or c.exclusive k [] in
        let v = (is x).0 hx in
        let w = (is y).0 hy in
        let fst : CandidateReaches c group v.1 = v.3.reaches k [] lt (reach x v.0 gx) in
        let snd : CandidateReaches c group w.1 = w.3.reaches k [] lt (reach y w.0 gy) in
        elim (cases_eq v.1 w.1) [
          | inl e ↦ above v.1 x y v.2 v.0 w.0 v.3 (subst (λ q. TurnsOn c q (candidate_at alone y)) (sym e) w.3)
          | inr ne ↦ absurd (not_two c (Reaches c.map group) t v.1 w.1 fst.0 snd.0 (wanted.exclusive k [] lt) v.2 w.2 ne fst.1 snd.1 fst.2 snd.2)
        ]

    exclusive_by : (all ≡ true) ⊎ (all ≡ false) → IsSearchExclusive r s
    exclusive_by (inl e) = λ k d lt x y hx hy gx gy.
        let pair = (h.excluding.pairs e).only k d lt in
        let row : List Bool = get_or (rows_of r.exclusive.items) k d in
        let lx = ((is x).0 hx).0 in
        let ly = ((is y).0 hy).0 in
        let first : x ≡ pair.0 = same_of_pair pair.0 m x row pair.3 gx (λ q. (let z : x ≡ m = q in omega arith)) in
        let second : y ≡ pair.0 = same_of_pair pair.0 m y row pair.3 gy (λ q. (let z : y ≡ m = q in omega arith)) in
        let itself = up.reflexive x (low c alone all r h.enabled x lx) in
        (x, hx, itself, subst (λ z. IsTrue (enables r x z)) (first ∙ sym second) itself)
    exclusive_by (inr e) = λ k d lt.
        let groups = h.excluding.groups e in
        let l : k < length c.exclusive = (let n = groups.count in omega (arith, lt)) in
        one_of_group k l (get_or (rows_of r.exclusive.items) k d) (λ y ly has. ((groups.each k l).each y ly).0 (subst (λ row. Has row y) (get_or_default (rows_of r.exclusive.items) k d [] lt) has))

    meets : (row : List Bool) → Contains (rows_of r.needed.items) row → Meets s row
    meets row there = elim (needed_from alone with_empty all h.needed.serving row (row_in row there)) [
      | inl w ↦
          let test = (h.needed.served t sel).1 wanted.required in
          let q = some_passes (bit w.0) t (each_passes (λ row. list_any (bit row) t) h.needed.serving test w.0 w.1) in
          let at = place q.0 q.1 in
          (at.0, subst (λ row. Has row at.0) w.2 (marked_at alone all w.0 at.0 at.1 ∙ ap (mark w.0) at.2 ∙ q.2), at.3)
      | inr w ↦ let at = place_some t wanted.nonempty place in (at.0, subst (λ row. Has row at.0) w.1 (every_at alone all at.0 at.1), at.2)
    ]
      where
        place_some : (u : List ℕ) → u ≢ [] → ((p : ℕ) → Contains u p → (x : ℕ) × (x < m) × (candidate_at alone x ≡ p) × Has s x) → (x : ℕ) × (x < m) × Has s x
        place_some [] some at = absurd (some refl)
        place_some (p ∷ u) some at = let w = at p (Contains-head p u) in (w.0, w.1, w.3)

    pub chosen_of : IsChoice r s
    chosen_of = record {
      closed = closed;
      exclusive = exclusive_by (cases_Bool all);
      required = λ k d lt. meets (get_or (rows_of r.needed.items) k d) (Contains-get_or (rows_of r.needed.items) k d lt);
    }

  pub chosen : AreChosen c alone r
  chosen t sel wanted =
      let s = closure t (λ p there. (a.exact p (All-contains (λ p. p < length c.candidates) t p sel.below there)).1 (λ k d lt. one_alone c (Reaches c.map (get_or c.exclusive k d)) t p there (wanted.exclusive k d lt))) in
      (s.0, s.1, chosen_of t sel wanted s.0 s.1)

  -- the empty set

  module _ (s : List Bool) (none : (x : ℕ) → ¬ Has s x) where
    none_needed : IsSearchRequired r s → (row : List Bool) → Contains (rows_of r.needed.items) row → ⊥
    none_needed required row there = let w = All-contains (Meets s) (rows_of r.needed.items) row required there in none w.0 w.2

    row_back : (row : List Bool) → Contains (needed_rows alone with_empty all h.needed.serving) row → Contains (rows_of r.needed.items) row
    row_back row there = subst (λ rows. Contains rows row) (sym h.needed.made) there

    with_empty_from : IsSearchRequired r s → (with_empty ≡ true) ⊎ (with_empty ≡ false) → IsTrue with_empty
    with_empty_from required (inl e) = e
    with_empty_from required (inr e) = absurd (none_needed required (every alone all) (row_back (every alone all) (needed_every alone with_empty all h.needed.serving e)))

    empty_from : IsChoice r s → IsTrue with_empty × IsRequired c []
    empty_from chosen = (
      with_empty_from chosen.required (cases_Bool with_empty),
      (h.needed.served [] (selection_none (length c.candidates))).0
          (all_pass (λ row. list_any (bit row) []) h.needed.serving (λ from there. absurd (none_needed chosen.required (marked alone all from) (row_back (marked alone all from) (needed_serving alone with_empty all h.needed.serving from there))))),
    )

    empty_to : IsTrue with_empty × IsRequired c [] → IsChoice r s
    empty_to w = record {
      closed = record { below = λ p has. absurd (none p has); whole = λ p q has e. absurd (none p has) };
      exclusive = λ k d lt p q hp hq gp gq. absurd (none p hp);
      required = λ k d lt.
          let row : List Bool = get_or (rows_of r.needed.items) k d in
          elim (needed_from alone with_empty all h.needed.serving row (row_in row (Contains-get_or (rows_of r.needed.items) k d lt))) [
            | inl v ↦ absurd (false≢true (each_passes (λ row. list_any (bit row) []) h.needed.serving ((h.needed.served [] (selection_none (length c.candidates))).1 w.1) v.0 v.1))
            | inr v ↦ absurd (false≢true (sym v.0 ∙ w.0))
          ];
    }

    pub empty : IsChoice r s ↔ (IsTrue with_empty × IsRequired c [])
    empty = (empty_from, empty_to)

  -- all features

  module _ (is : IsTrue all) where
    itself : Has (row_of r m) m
    itself = (h.enabled.last is).itself

    all_one : (k : ℕ) (d : List Bool) → k < length (rows_of r.exclusive.items) → HasOneOf r (row_of r m) (get_or (rows_of r.exclusive.items) k d)
    all_one k d lt p q hp hq gp gq =
        let pair = (h.excluding.pairs is).only k d lt in
        let unmarked : (z : ℕ) → Has (row_of r m) z → ((z ≡ pair.0) ⊎ (z ≡ m)) → z ≡ m = λ z has e. elim e [ inl f ↦ absurd (pair.2 (subst (Has (row_of r m)) f has)) | inr f ↦ f ] in
        let first = unmarked p hp ((pair.3 p).0 gp) in
        let second = unmarked q hq ((pair.3 q).0 gq) in
        (m, itself, subst (λ z. IsTrue (enables r m z)) (sym first) itself, subst (λ z. IsTrue (enables r m z)) (sym second) itself)

    pub with_all : IsChoice r (row_of r m)
    with_all = record {
      closed = record { below = λ p has. up.below m p has; whole = λ p q has e. up.transitive m p q has e };
      exclusive = all_one;
      required = λ k d lt.
          let row : List Bool = get_or (rows_of r.needed.items) k d in
          elim (needed_from alone with_empty all h.needed.serving row (row_in row (Contains-get_or (rows_of r.needed.items) k d lt))) [
            | inl v ↦ (m, subst (λ row. Has row m) v.2 (marked_last alone all v.0 is), itself)
            | inr v ↦ (m, subst (λ row. Has row m) v.1 (every_last alone all is), itself)
          ];
    }

-- where there is a position of all features

length_none : {X : Type 0} (xs : List X) → length xs ≡ 0 → xs ≡ []
length_none [] e = refl
length_none (x ∷ xs) e = absurd (omega arith)

pub all_asked : {X : Type 0} (asked all : Bool) (n : ℕ) (groups : List X) → n ≡ length groups → asked ≡ true → all ≡ (n == 0) → IsTrue all ↔ (IsTrue asked × (groups ≡ []))
all_asked asked all n groups count e is = (
  λ t. (e, length_none groups (sym count ∙ eqb-true n 0 (sym is ∙ t))),
  λ w. is ∙ eq-eqb n 0 (count ∙ ap length w.1),
)

pub all_unasked : {X : Type 0} (asked all : Bool) (groups : List X) → asked ≡ false → all ≡ false → IsTrue all ↔ (IsTrue asked × (groups ≡ []))
all_unasked asked all groups e is = (λ t. absurd (false≢true (sym is ∙ t)), λ w. absurd (false≢true (sym e ∙ w.0)))
