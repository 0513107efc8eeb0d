-- What rows that say which candidates are on say of sets, and of all features.
use Rattle.std.proofs.Common.{◌≡◌, ℕ, ◌+◌, ◌<◌, ◌≤◌, List, [], ◌∷◌, ◌++◌, length, get_or, map, flat_map, refl, sym, ◌∙◌, ap, subst, arith, Bool, true, false, Some, ◌⊎◌, inl, inr, ◌↔◌, IsTrue, All}
use Rattle.std.specs.Prelude.{slice_get, filter}
use Rattle.std.specs.List.{range_with_len}
use Rattle.std.proofs.lemmas.Bool.{cases_lt}
use Rattle.std.proofs.lemmas.List.{map-append, length-map, get_or_default, get_or_past}
use Rattle.std.proofs.lemmas.List.Elements.{All-append, All-nil, All-map, All-contains, Contains-get_or}
use Rattle.std.proofs.lemmas.List.FromFn.{length-range_with_len, get_or-range_with_len}
use Rattle.std.proofs.lemmas.Option.{get_or_from_slice_get, slice_get-get_or}
use Rattle.std.proofs.Math.ListN.{get_or-map}
use Rattle.hack_base.proofs.Members.{Contains-filter, Contains-filter_from}
use Rattle.hack_base.proofs.Passes.{some_passes, any_passes, all_pass, each_passes}
use Rattle.hack_base.specs.Names.{Name}
use Rattle.hack_samples.specs.declared.sets.Setting.{Setting}
use Rattle.hack_routes.specs.declared.reach.Edges.TheVariants.{Enabling}
use Rattle.hack_routes.specs.FeatureMap.{IsKey, Enables}
use Rattle.hack_routes.specs.Places.{name_at, AreAt, AreAllAt, ArePlaced}
use Rattle.hack_features.specs.Rules.{Choice, names_at, names_in, IsEnabledBy}
use Rattle.hack_features.specs.InternalSamples.{one_leads}
use Rattle.hack_routes.specs.Rows.{bit, leads}
use Rattle.hack_features.specs.Settings.{IsEnabledByKey, SaysOfEach, AreSettings, AreSettingsOfAll, IsOfCandidates}
use Rattle.hack_samples.specs.Samples.{RowShows}
use Rattle.hack_features.specs.InternalSettings.{leads_to_each, AreKeyPlaces}
use Rattle.hack_features.specs.View.{choice_of}
use Rattle.hack_samples.specs.Sets.{rows_of}
use Rattle.hack_routes.specs.RoutesView.{routed_names as names_by_place}
use Rattle.hack_features.specs.declared.rules.Rules.{Rules}
use Rattle.hack_features.specs.declared.placed.Placed.{Placed}
use Rattle.hack_base.proofs.NameLemmas.{length-shown}
use Rattle.hack_features.proofs.RuleLemmas.{placed_of}
use Rattle.hack_features.proofs.MemberLemmas.{both_told}
use Rattle.hack_features.proofs.TableLemmas.{placed, shown_at, low_at, key_of, of_key}

-- the places of names, also past the last row, where there are none
module _ (names : List Name) (rows : List (List ℕ)) (groups : List (List Name)) (h : AreAllAt names rows groups) where
  no_names : AreAt names [] []
  no_names = record { within = All-nil (λ p. p < length names); same = refl }

  at_by : (p : ℕ) → (p < length groups) ⊎ (length groups ≤ p) → AreAt names (get_or rows p []) (get_or groups p [])
  at_by p (inl lt) = h.each p lt
  at_by p (inr le) =
      subst (λ l. AreAt names l (get_or groups p [])) (sym (get_or_past rows p [] (omega (arith, h.count))))
      (subst (AreAt names []) (sym (get_or_past groups p [] le)) no_names)

  pub at_any : (p : ℕ) → AreAt names (get_or rows p []) (get_or groups p [])
  at_any p = at_by p (cases_lt p (length groups))

  -- those of several rows, one after another
  pub at_members : (s : List ℕ) → AreAt names (flat_map (λ p. get_or rows p []) s) (flat_map (λ p. get_or groups p []) s)
  at_members [] = no_names
  at_members (p ∷ s) =
      let first = at_any p in
      let rest = at_members s in
      record {
        within = All-append (λ x. x < length names) (get_or rows p []) (flat_map (λ p. get_or rows p []) s) first.within rest.within;
        same = map-append (name_at names) (get_or rows p []) (flat_map (λ p. get_or rows p []) s)
            ∙ ap (λ l. l ++ map (name_at names) (flat_map (λ p. get_or rows p []) s)) first.same
            ∙ ap (λ l. get_or groups p [] ++ l) rest.same;
      }

-- the keys among the first places
pub keys-of : (keys : List Bool) (n : ℕ) → AreKeyPlaces keys n (filter (bit keys) (range_with_len 0 n))
keys-of keys n = λ x. (
  λ c.
      let w = Contains-filter_from (bit keys) (range_with_len 0 n) x c in
      let lt : w.0.0 < n = omega (arith, w.0.1, length-range_with_len 0 n) in
      (omega (arith, lt, w.0.2, get_or-range_with_len 0 n w.0.0 x lt), w.1),
  λ w. Contains-filter (bit keys) (range_with_len 0 n) x (x, omega (arith, w.0, length-range_with_len 0 n), get_or-range_with_len 0 n x x w.0 ∙ (let e : 0 + x ≡ x = omega arith in e)) w.1,
)

module _ (c : Choice) (names : List Name) (keys : List Bool) (marks : List (List Bool)) (all each : List (List ℕ)) (h : ArePlaced Enabling c.map c.candidates c.at_least_one_of names keys marks all each) where
  -- the names of a set's members lead to what the set enables
  pub enabled_iff : (s : List ℕ) (y : ℕ) → y < length names → (one_leads marks y (flat_map (λ p. get_or all p []) s) ≡ true) ↔ IsEnabledBy c s (name_at names y)
  enabled_iff s y ly =
      let from : List ℕ = flat_map (λ p. get_or all p []) s in
      let at : AreAt names from (names_in c s) = at_members names all c.candidates h.candidates_at s in (
        λ t. let x = some_passes (λ x. leads marks x y) from t in (
          name_at names x.0,
          shown_at Enabling c.map names keys marks h.routes from (names_in c s) at x.0 x.1,
          (h.routes.led x.0 y (low_at Enabling c.map names keys marks h.routes from (names_in c s) at x.0 x.1) ly).0 x.2,
        ),
        λ e.
            let x = placed Enabling c.map names keys marks h.routes from (names_in c s) at e.0 e.1 in
            any_passes (λ x. leads marks x y) from x.0 x.1 ((h.routes.led x.0 y x.2 ly).1 (subst (λ b. Enables c.map b (name_at names y)) (sym x.3) e.2)),
      )

  -- the keys lead to what some key enables
  pub by_key_iff : (places : List ℕ) → AreKeyPlaces keys (length names) places → (y : ℕ) → y < length names → (one_leads marks y places ≡ true) ↔ IsEnabledByKey c.map (name_at names y)
  by_key_iff places are y ly = (
    λ t.
        let x = some_passes (λ x. leads marks x y) places t in
        let k = (are x.0).0 x.1 in
        (name_at names x.0, key_of Enabling c.map names keys marks h.routes x.0 k.0 k.1, (h.routes.led x.0 y k.0 ly).0 x.2),
    λ e.
        let x = h.routes.known e.0 e.1 in
        let is : name_at names x.0 ≡ e.0 = get_or_default names x.0 [] e.0 x.1 ∙ x.2 in
        let key = of_key Enabling c.map names keys marks h.routes x.0 x.1 (subst (IsKey c.map) (sym is) e.1) in
        any_passes (λ x. leads marks x y) places x.0 ((are x.0).1 (x.1, key)) ((h.routes.led x.0 y x.1 ly).1 (subst (λ b. Enables c.map b (name_at names y)) (sym is) e.2)),
  )

  module _ (from : List ℕ) (P : Name → Type 0) (led : (y : ℕ) → y < length names → (one_leads marks y from ≡ true) ↔ P (name_at names y)) where
    -- the places lead to each name of the candidate where P holds of each
    each_iff : (p : ℕ) → (leads_to_each marks from (get_or all p []) ≡ true) ↔ All P (names_at c p)
    each_iff p =
        let ys : List ℕ = get_or all p [] in
        let at : AreAt names ys (names_at c p) = at_any names all c.candidates h.candidates_at p in (
          λ t. subst (All P) at.same (All-map P (name_at names) ys (λ k d lt.
              (led (get_or ys k d) (at.within k d lt)).0 (each_passes (λ y. one_leads marks y from) ys t (get_or ys k d) (Contains-get_or ys k d lt)))),
          λ a. all_pass (λ y. one_leads marks y from) ys (λ y cy.
              (led y (low_at Enabling c.map names keys marks h.routes ys (names_at c p) at y cy)).1
              (All-contains P (names_at c p) (name_at names y) a (shown_at Enabling c.map names keys marks h.routes ys (names_at c p) at y cy))),
        )

    pub says_each : SaysOfEach c (λ p. All P (names_at c p)) (map (leads_to_each marks from) all)
    says_each =
        let f : List ℕ → Bool = leads_to_each marks from in
        record {
          count = length-map all f ∙ h.candidates_at.count;
          each = λ p lt.
              let low : p < length (map f all) = omega (arith, length-map all f, h.candidates_at.count) in
              let is : get_or (map f all) p false ≡ f (get_or all p []) = get_or_default (map f all) p false (f []) low ∙ get_or-map f all p [] in
              (λ t. (each_iff p).0 (sym is ∙ t), λ a. is ∙ (each_iff p).1 a);
        }

-- a row that says of each candidate whether P holds shows the patterns that P shows
module _ (c : Choice) (P : ℕ → Type 0) (row : List Bool) (h : SaysOfEach c P row) where
  one_shown : (x : Setting) → x.candidate < length c.candidates → (slice_get row x.candidate ≡ Some x.on) ↔ (P x.candidate ↔ IsTrue x.on)
  one_shown x lt =
      let p = x.candidate in
      let b : Bool = get_or row p false in
      let iff = h.each p lt in (
        λ e. let is : b ≡ x.on = get_or_from_slice_get row p x.on false e in (λ q. sym is ∙ iff.1 q, λ t. iff.0 (is ∙ t)),
        λ q. slice_get-get_or row p false (omega (arith, lt, h.count)) ∙ ap Some (both_told b x.on (λ t. q.0 (iff.0 t)) (λ t. iff.1 (q.1 t))),
      )

  pub shows_iff : (pattern : List Setting) → IsOfCandidates c pattern → RowShows row pattern ↔ All (λ x. P x.candidate ↔ IsTrue x.on) pattern
  shows_iff pattern of = (
    λ a k d lt. (one_shown (get_or pattern k d) (of k d lt)).0 (a k d lt),
    λ a k d lt. (one_shown (get_or pattern k d) (of k d lt)).1 (a k d lt),
  )

-- the rows that the rules give
module _ (r : Rules) (e : Placed) (is : e ≡ r.enabled) (from : List ℕ) (row : List Bool) (made : row ≡ map (leads_to_each (rows_of e.routes.marks.items) from) (rows_of e.candidates.items)) where
  abbrev c : Choice
  c = choice_of r

  abbrev all : List (List ℕ)
  all = rows_of r.enabled.candidates.items

  abbrev marks : List (List Bool)
  marks = rows_of r.enabled.routes.marks.items

  abbrev keys : List Bool
  keys = r.enabled.routes.keys.items

  abbrev names : List Name
  names = names_by_place r.enabled.routes

  made_of : map (leads_to_each marks from) all ≡ row
  made_of = ap (λ e. map (leads_to_each (rows_of e.routes.marks.items) from) (rows_of e.candidates.items)) (sym is) ∙ sym made

  pub settings_row : (s : List ℕ) → from ≡ flat_map (λ p. get_or (rows_of e.candidates.items) p []) s → AreSettings c s row
  settings_row s members =
      let P : Name → Type 0 = IsEnabledBy c s in
      let same : flat_map (λ p. get_or all p []) s ≡ from = ap (λ e. flat_map (λ p. get_or (rows_of e.candidates.items) p []) s) (sym is) ∙ sym members in
      subst (AreSettings c s) made_of
      (says_each c names keys marks all (rows_of r.enabled.groups.items) (placed_of r) from P
      (subst (λ l. (y : ℕ) → y < length names → (one_leads marks y l ≡ true) ↔ P (name_at names y)) same
      (enabled_iff c names keys marks all (rows_of r.enabled.groups.items) (placed_of r) s)))

  pub settings_of_all_row : AreKeyPlaces e.routes.keys.items (length e.routes.names.items) from → AreSettingsOfAll c row
  settings_of_all_row keyed =
      let same : length e.routes.names.items ≡ length names = ap (λ e. length e.routes.names.items) is ∙ sym (length-shown r.enabled.routes.names.items) in
      let here : AreKeyPlaces keys (length names) from =
      subst (λ n. AreKeyPlaces keys n from) same (subst (λ k. AreKeyPlaces k (length e.routes.names.items) from) (ap (λ e. e.routes.keys.items) is) keyed) in
      subst (AreSettingsOfAll c) made_of
      (says_each c names keys marks all (rows_of r.enabled.groups.items) (placed_of r) from (IsEnabledByKey c.map)
      (by_key_iff c names keys marks all (rows_of r.enabled.groups.items) (placed_of r) from here))
