-- What a sample of sets, as truth values, says of sets of positions.
use Rattle.std.proofs.Common.{◌≡◌, ◌≢◌, ℕ, zero, suc, ◌+◌, ◌<◌, ◌≤◌, List, [], ◌∷◌, ◌++◌, length, get_or, map, take, replicate, refl, sym, ◌∙◌, ap, subst, arith, Bool, true, false, inl, inr, ◌↔◌, IsTrue, All, AllPairs, Contains}
use Rattle.std.specs.Prelude.{◌&&◌, ◌||◌, ◌==◌}
use Rattle.std.specs.List.{list_all, list_any, range_with_len}
use Rattle.std.proofs.lemmas.Bool.{and_parts, and_from}
use Rattle.std.proofs.lemmas.Bool.Decides.{eqb_tells}
use Rattle.std.proofs.lemmas.List.{take_all, get_or-replicate}
use Rattle.std.proofs.Math.ListN.{get_or-map}
use Rattle.std.proofs.lemmas.List.FromFn.{get_or-map-range_with_len, length-map-range_with_len}
use Rattle.std.proofs.lemmas.List.Folds.{list_all-append, list_all-map}
use Rattle.std.proofs.lemmas.List.Elements.{All-map, All-weaker, All-contains, Contains-get_or}
use Rattle.hack_base.proofs.Members.{Contains-nil, Contains-head, Contains-map, Contains-map_from}
use Rattle.hack_base.proofs.Passes.{some_passes, any_passes, all_pass, each_passes}
use Rattle.hack_samples.specs.Sets.{has, has_one_of, has_each, is_on, rows_of}
use Rattle.hack_samples.specs.Samples as samples
use Rattle.hack_samples.specs.Order as orders
use Rattle.hack_samples.specs.declared.sets.Setting.{Setting}
use Rattle.hack_base.specs.Names.{Name}
use Rattle.hack_features.specs.declared.rules.Rules.{Rules}
use Rattle.hack_sets.specs.Sets.{IsSelection, IsBefore, Pairwise}
use Rattle.hack_features.specs.Rules.{Choice, names_at, IsEnabledBy, IsListed}
use Rattle.hack_features.specs.InternalCover.{set_enables_test}
use Rattle.hack_routes.specs.Rows.{bit}
use Rattle.hack_routes.specs.Places.{name_at, AreAt}
use Rattle.hack_routes.specs.RoutesView.{routed_names}
use Rattle.hack_features.specs.View.{choice_of, size_of, may_of, whole_of}
use Rattle.hack_features.specs.Samples.{positions_of, IsOn, SetShows, CoversPatterns, IsSample, IsNeeded, IsLean}
use Rattle.hack_features.specs.InternalSamples.{one_leads, providers_of, all_providers}
use Rattle.hack_features.proofs.FrontLemmas.{all-same}
use Rattle.hack_features.proofs.CandidateLemmas.{length-candidates_of}
use Rattle.hack_sets.proofs.Listing.{selection_none, selection_push, selection_up}
use Rattle.hack_features.proofs.CoverLemmas.{ordered, set_enables_iff}
use Rattle.hack_features.proofs.MemberLemmas.{seen-hit, seen-missed, member_iff, meet-either, both_told}
use Rattle.hack_features.proofs.RuleLemmas.{tables_of, placed_of, listed_by, listed_permitted, permitted_iff, required_iff_whole}
use Rattle.hack_features.proofs.SettingLemmas.{at_any}

selection-by : (s : List Bool) (k : ℕ) → k < length s → (b : Bool) → has s k ≡ b → IsSelection k (positions_of (take k s)) → IsSelection (suc k) (positions_of (take (k + 1) s))
selection-by s k lt true e h = subst (IsSelection (suc k)) (sym (seen-hit s k lt e)) (selection_push k (positions_of (take k s)) h)
selection-by s k lt false e h = subst (IsSelection (suc k)) (sym (seen-missed s k lt e)) (selection_up k (suc k) (positions_of (take k s)) (omega arith) h)

selection-take : (s : List Bool) (k : ℕ) → k ≤ length s → IsSelection k (positions_of (take k s))
selection-take s zero le = selection_none 0
selection-take s (suc k) le = subst (λ j. IsSelection (suc k) (positions_of (take j s))) (let e : k + 1 ≡ suc k = omega arith in e) (selection-by s k (omega arith) (has s k) refl (selection-take s k (omega arith)))

-- the members of a set are a selection
pub selected : (n : ℕ) (s : List Bool) → length s ≡ n → IsSelection n (positions_of s)
selected n s e = subst (λ l. IsSelection n (positions_of l)) (take_all n s (omega (arith, e))) (selection-take s n (omega (arith, e)))

-- the order of sets is the same
pub before_of : (s t : List Bool) → orders.IsMaskBefore s t → IsBefore (positions_of s) (positions_of t)
before_of s t h = record {
  greatest = h.greatest;
  absent = λ c. (let e : true ≡ false = sym ((member_iff s h.greatest).0 c) ∙ h.absent in cc);
  present = (member_iff t h.greatest).1 h.present;
  above = λ p lt. (
    λ c. (member_iff t p).1 (sym (h.above p lt) ∙ (member_iff s p).0 c),
    λ c. (member_iff s p).1 (h.above p lt ∙ (member_iff t p).0 c),
  );
}

-- the set of a selection
abbrev flags : ℕ → List ℕ → List Bool
flags n u = map (λ p. list_any (λ q. p == q) u) (range_with_len 0 n)

same_number : (p : ℕ) → (p == p) ≡ true
same_number p = elim (eqb_tells p p) [ inl e ↦ e.0 | inr w ↦ absurd (w.1 refl) ]

number_from : (p q : ℕ) → (p == q) ≡ true → p ≡ q
number_from p q h = elim (eqb_tells p q) [ inl e ↦ e.1 | inr w ↦ absurd (let e : true ≡ false = sym h ∙ w.0 in cc) ]

length-flags : (n : ℕ) (u : List ℕ) → length (flags n u) ≡ n
length-flags n u = length-map-range_with_len (λ p. list_any (λ q. p == q) u) 0 n

flag_at : (n : ℕ) (u : List ℕ) (p : ℕ) → p < n → has (flags n u) p ≡ list_any (λ q. p == q) u
flag_at n u p lt = get_or-map-range_with_len (λ p. list_any (λ q. p == q) u) 0 n p p false lt (omega arith)

in_flags : (n : ℕ) (u : List ℕ) → IsSelection n u → (p : ℕ) → Contains u p → Contains (positions_of (flags n u)) p
in_flags n u sel p c = (member_iff (flags n u) p).1 (flag_at n u p (All-contains (λ p. p < n) u p sel.below c) ∙ any_passes (λ q. p == q) u p c (same_number p))

from_flags : (n : ℕ) (u : List ℕ) → (p : ℕ) → Contains (positions_of (flags n u)) p → Contains u p
from_flags n u p c =
    let lt : p < n = All-contains (λ p. p < n) (positions_of (flags n u)) p (selected n (flags n u) (length-flags n u)).below c in
    let q = some_passes (λ q. p == q) u (sym (flag_at n u p lt) ∙ (member_iff (flags n u) p).0 c) in
    subst (Contains u) (sym (number_from p q.0 q.2)) q.1

flags-back : (n : ℕ) (u : List ℕ) → IsSelection n u → positions_of (flags n u) ≡ u
flags-back n u sel =
    elim (ordered n (positions_of (flags n u)) u (selected n (flags n u) (length-flags n u)) sel) [
      | inl b ↦ absurd (b.absent (in_flags n u sel b.greatest b.present))
      | inr w ↦ elim w [ inl e ↦ e | inr b ↦ absurd (b.absent (from_flags n u b.greatest b.present)) ]
    ]

any-same : {X : Type 0} (f g : X → Bool) (xs : List X) → ((x : X) → f x ≡ g x) → list_any f xs ≡ list_any g xs
any-same f g [] h = refl
any-same f g (x ∷ xs) h = ap (λ b. b || list_any f xs) (h x) ∙ ap (λ b. g x || b) (any-same f g xs h)

-- a set that has one of all positions isn't empty
some_member : (n : ℕ) (s : List Bool) → has_one_of s (positions_of (replicate n true)) ≡ true → positions_of s ≢ []
some_member n s h e =
    let p = some_passes (bit (replicate n true)) (positions_of s) (sym (meet-either s (replicate n true)) ∙ h) in
    Contains-nil p.0 (subst (λ l. Contains l p.0) e p.1)

first_member : (n : ℕ) (l : List ℕ) → All (λ p. p < n) l → l ≢ [] → list_any (bit (replicate n true)) l ≡ true
first_member n [] low ne = absurd (ne refl)
first_member n (p ∷ l) low ne = any_passes (bit (replicate n true)) (p ∷ l) p (Contains-head p l) (get_or-replicate n p true false (All-contains (λ p. p < n) (p ∷ l) p low (Contains-head p l)))

module _ (r : Rules) where
  abbrev pub c : Choice
  c = choice_of r

  abbrev pub n : ℕ
  n = size_of r

  abbrev pub marks : List (List Bool)
  marks = rows_of r.enabled.routes.marks.items

  abbrev pub cands : List (List ℕ)
  cands = rows_of r.enabled.candidates.items

  abbrev pub serves : List (List Bool)
  serves = rows_of r.tables.serves.items

  abbrev pub may : List Bool → Bool
  may s = may_of r (positions_of s)

  abbrev pub required : List (List ℕ)
  required = map positions_of serves ++ positions_of (replicate n true) ∷ []

  abbrev pub providers : List (List (List ℕ))
  providers = all_providers marks cands

  abbrev pub names : List Name
  names = routed_names r.enabled.routes

  all_of : length c.candidates ≡ n
  all_of = length-candidates_of r.given.features.now

  low : (s : List Bool) → length s ≡ n → All (λ p. p < length c.candidates) (positions_of s)
  low s e = (selected (length c.candidates) s (e ∙ sym all_of)).below

  -- the places of a candidate's names
  at : (p : ℕ) → AreAt names (get_or cands p []) (names_at c p)
  at p = at_any names cands c.candidates (placed_of r).candidates_at p

  -- a member that provides a name
  one-provides : (s : List Bool) (y : ℕ) → has_one_of s (providers_of marks cands y) ≡ set_enables_test marks cands (positions_of s) y
  one-provides s y =
      meet-either s (map (one_leads marks y) cands)
      ∙ any-same (bit (map (one_leads marks y) cands)) (λ p. one_leads marks y (get_or cands p [])) (positions_of s) (λ p. get_or-map (one_leads marks y) cands p [])

  provided : (s : List Bool) → length s ≡ n → (y : ℕ) → y < length names → (has_one_of s (providers_of marks cands y) ≡ true) ↔ IsEnabledBy c (positions_of s) (name_at names y)
  provided s e y ly =
      let iff = set_enables_iff c names r.enabled.routes.keys.items marks cands (rows_of r.enabled.groups.items) (placed_of r) (positions_of s) (low s e) y ly in
      (λ h. iff.0 (sym (one-provides s y) ∙ h), λ h. one-provides s y ∙ iff.1 h)

  rows : (p : ℕ) → get_or providers p [] ≡ map (providers_of marks cands) (get_or cands p [])
  rows p = get_or-map (map (providers_of marks cands)) cands p []

  -- a candidate is on where the set enables each of its names
  pub on_iff : (s : List Bool) → length s ≡ n → (p : ℕ) → (is_on providers s p ≡ true) ↔ IsOn c (positions_of s) p
  on_iff s e p =
      let ys : List ℕ = get_or cands p [] in
      let g = providers_of marks cands in
      let E : Name → Type 0 = IsEnabledBy c (positions_of s) in
      let is : is_on providers s p ≡ list_all (λ y. has_one_of s (g y)) ys = ap (has_each s) (rows p) ∙ list_all-map (has_one_of s) g ys in (
        λ t. subst (All E) (at p).same (All-map E (name_at names) ys (λ k d lt.
            (provided s e (get_or ys k d) ((at p).within k d lt)).0 (each_passes (λ y. has_one_of s (g y)) ys (sym is ∙ t) (get_or ys k d) (Contains-get_or ys k d lt)))),
        λ on. is ∙ all_pass (λ y. has_one_of s (g y)) ys (λ y cy.
            (provided s e y (All-contains (λ p. p < length names) ys y (at p).within cy)).1
            (All-contains E (names_at c p) (name_at names y) on (subst (λ l. Contains l (name_at names y)) (at p).same (Contains-map (name_at names) ys y cy)))),
      )

  pub shown_iff : (s : List Bool) → length s ≡ n → (pattern : List Setting) → samples.Shows providers pattern s ↔ SetShows c pattern (positions_of s)
  shown_iff s e pattern =
      let P : Setting → Type 0 = λ x. is_on providers s x.candidate ≡ x.on in
      let Q : Setting → Type 0 = λ x. IsOn c (positions_of s) x.candidate ↔ IsTrue x.on in (
        All-weaker P Q (λ x h. (λ on. sym h ∙ (on_iff s e x.candidate).1 on, λ t. (on_iff s e x.candidate).0 (h ∙ t))) pattern,
        All-weaker Q P (λ x h. both_told (is_on providers s x.candidate) x.on (λ t. h.0 ((on_iff s e x.candidate).0 t)) (λ t. (on_iff s e x.candidate).1 (h.1 t))) pattern,
      )

  groups-same : (s : List Bool) → has_each s (map positions_of serves) ≡ whole_of r (positions_of s)
  groups-same s =
      list_all-map (has_one_of s) positions_of serves
      ∙ all-same (λ row. has_one_of s (positions_of row)) (λ row. list_any (bit row) (positions_of s)) serves (λ row. meet-either s row)

  pub listed_iff : (s : List Bool) → length s ≡ n → samples.IsListedMask may n required s ↔ IsListed c (positions_of s)
  listed_iff s e =
      let sel = selected n s e in
      let groups = map positions_of serves in
      let last : List ℕ = positions_of (replicate n true) in
      let parts : has_each s required ≡ (has_each s groups && (has_one_of s last && true)) = list_all-append (has_one_of s) groups (last ∷ []) in (
        λ h.
            let w = and_parts (has_each s groups) _ (sym parts ∙ h.met) in
            listed_by c (positions_of s) (some_member n s (and_parts (has_one_of s last) true w.1).0)
            ((permitted_iff r (tables_of r) (positions_of s) sel).0 h.allowed)
            ((required_iff_whole r (tables_of r) (positions_of s) sel).0 (sym (groups-same s) ∙ w.0)),
        λ h. record {
          size = e;
          allowed = (permitted_iff r (tables_of r) (positions_of s) sel).1 (listed_permitted c (positions_of s) h);
          met = parts ∙ and_from (has_each s groups) _ (groups-same s ∙ (required_iff_whole r (tables_of r) (positions_of s) sel).1 h.wanted.required)
              (and_from (has_one_of s last) true (meet-either s (replicate n true) ∙ first_member n (positions_of s) sel.below h.wanted.nonempty) refl);
        },
      )

  all_before : (s : List Bool) (xs : List (List Bool)) → All (orders.IsMaskBefore s) xs → All (IsBefore (positions_of s)) (map positions_of xs)
  all_before s xs h = All-map (IsBefore (positions_of s)) positions_of xs (All-weaker (orders.IsMaskBefore s) (λ t. IsBefore (positions_of s) (positions_of t)) (λ t. before_of s t) xs h)

  in_order : (xs : List (List Bool)) → AllPairs orders.IsMaskBefore xs → Pairwise IsBefore (map positions_of xs)
  in_order [] h = tt
  in_order (s ∷ xs) h = (
    all_before s xs (λ k d lt. h 0 (suc k) d (omega arith) (omega arith)),
    in_order xs (λ i j d lt le. h (suc i) (suc j) d (omega arith) (omega arith)),
  )

  -- a sample as the search gives it is one of sets of positions
  pub sample_of : (sets : List (List Bool)) → samples.IsMaskSample may n required sets → IsSample c n (map positions_of sets)
  sample_of sets h = record {
    selections = All-map (IsSelection n) positions_of sets (All-weaker (samples.IsListedMask may n required) (λ s. IsSelection n (positions_of s)) (λ s l. selected n s l.size) sets h.listed);
    listed = All-map (IsListed c) positions_of sets (All-weaker (samples.IsListedMask may n required) (λ s. IsListed c (positions_of s)) (λ s l. (listed_iff s l.size).0 l) sets h.listed);
    ordered = in_order sets h.ordered;
  }

  pub covers_of : (t : ℕ) (sets : List (List Bool)) → samples.IsMaskSample may n required sets → samples.ShowEachPattern may n required providers t sets → CoversPatterns c n t (map positions_of sets)
  covers_of t sets h covers = λ pattern few u sel listed shows.
      let s = flags n u in
      let e = length-flags n u in
      let back = sym (flags-back n u sel) in
      let k = covers pattern few s ((listed_iff s e).1 (subst (IsListed c) back listed)) ((shown_iff s e pattern).1 (subst (SetShows c pattern) back shows)) in (
        positions_of k.by,
        Contains-map positions_of sets k.by k.chosen,
        (shown_iff k.by (All-contains (samples.IsListedMask may n required) sets k.by h.listed k.chosen).size pattern).0 k.shows,
      )

  pub lean_of : (t : ℕ) (sets : List (List Bool)) → samples.IsMaskSample may n required sets → samples.IsLean providers t sets → IsLean c t (map positions_of sets)
  lean_of t sets h lean = All-map (IsNeeded c t (map positions_of sets)) positions_of sets (λ k d lt.
      let s : List Bool = get_or sets k d in
      let need : samples.IsNeeded providers t sets s = lean k d lt in
      let size : length s ≡ n = (h.listed k d lt).size in
      record {
        pattern = need.pattern;
        few = need.few;
        shows = (shown_iff s size need.pattern).0 need.shows;
        alone = λ u cu shows.
            let from = Contains-map_from positions_of sets u cu in
            let size' : length from.0 ≡ n = (All-contains (samples.IsListedMask may n required) sets from.0 h.listed from.1).size in
            sym from.2 ∙ ap positions_of (need.alone from.0 from.1 ((shown_iff from.0 size' need.pattern).1 (subst (SetShows c need.pattern) (sym from.2) shows)));
      })
