-- Sets of one candidate: those that a powerset lists are each candidate alone, and their runs are those of each feature.
use Rattle.std.proofs.Common.{◌≡◌, ◌∙◌, ◌≢◌, ℕ, zero, suc, ◌+◌, ◌<◌, ◌≤◌, List, [], ◌∷◌, ◌++◌, length, map, Contains, All, Option, None, Some, Bool, true, false, not, inl, inr, refl, ap, sym, subst, arith}
use Rattle.std.specs.Prelude.{nat_lt, ◌&&◌, ◌||◌, if◌then◌else◌}
use Rattle.std.specs.List.{range_with_len}
use Rattle.std.proofs.lemmas.Bool.{lt-ltb}
use Rattle.std.proofs.lemmas.List.FromFn.{get_or-map-range_with_len, length-map-range_with_len}
use Rattle.std.specs.Bool.{MatchBool}
use Rattle.hack_load.specs.declared.features.Features.{Features}
use Rattle.hack_metadata.specs.Records.{PackageRecord}
use Rattle.hack_planner.specs.PackageRules.{PackageRulesRecord}
use Rattle.hack_base.specs.Names.{Name}
use Rattle.hack_sets.specs.Sets.{IsSelection, IsBefore, IsListing, IsWithin, Pairwise, singles}
use Rattle.hack_features.specs.Rules.{Choice, IsListed, IsRedundant, NotBothReach, Serves, names_at, names_in}
use Rattle.hack_routes.specs.FeatureMap.{EnablesOneOf}
use Rattle.hack_base.proofs.Members.{Contains-cons_cases, Contains-nil}
use Rattle.hack_sets.proofs.Listing.{selection_none, selection_push, selection_up}
use Rattle.std.specs.Option.{is_none, option_map_or}
use Rattle.hack_plan.specs.Runs.{PackageRun, Plain, AllFeatures, NoDefaultFeatures, Set, is_plain, keeps_all, run_if, in_turn}
use Rattle.hack_plan.specs.RunsView.{with_last_first}
use Rattle.hack_planner.specs.Candidates.{candidates}
use Rattle.hack_planner.proofs.OnceLemmas.{ordered-once}
use Rattle.hack_planner.specs.Kinds.{ArePowersets, AreSetRuns, AreRuns, AreSets, IsDepthOne, as_each, package_choice, options_of}

in-one : (p q : ℕ) → Contains (p ∷ []) q → p ≡ q
in-one p q c = elim (Contains-cons_cases p [] q c) [ inl e ↦ e | inr d ↦ absurd (Contains-nil q d) ]

before-one : (p q : ℕ) → p < q → IsBefore (p ∷ []) (q ∷ [])
before-one p q lt = record {
  greatest = q;
  absent = λ c. let e : p ≡ q = in-one p q c in absurd (omega arith);
  present = (0, omega arith, refl);
  above = λ r h. (
    λ c. let e : p ≡ r = in-one p r c in absurd (omega arith),
    λ c. let e : q ≡ r = in-one q r c in absurd (omega arith),
  );
}

ordered : (a n : ℕ) → Pairwise IsBefore (map (λ (p : ℕ). p ∷ []) (range_with_len a n))
ordered a zero = tt
ordered a (suc n) = (
  λ k d lt.
      let inside : k < n = omega (arith, lt, length-map-range_with_len (λ (p : ℕ). p ∷ []) (a + 1) n) in
      subst (λ t. IsBefore (a ∷ []) t) (sym (get_or-map-range_with_len (λ (p : ℕ). p ∷ []) (a + 1) n k (a + 1 + k) d inside refl)) (before-one a (a + 1 + k) (omega arith)),
  ordered (a + 1) n,
)

single-from : (n : ℕ) (s : List ℕ) → Contains (singles n) s → (p : ℕ) × (p < n) × (p ∷ [] ≡ s)
single-from n s c =
    let inside : c.0 < n = omega (arith, c.1, length-map-range_with_len (λ (p : ℕ). p ∷ []) 0 n) in
    (c.0, inside, sym (get_or-map-range_with_len (λ (p : ℕ). p ∷ []) 0 n c.0 c.0 s inside (omega arith)) ∙ c.2)

single-in : (n p : ℕ) → p < n → Contains (singles n) (p ∷ [])
single-in n p lt = (p, omega (arith, length-map-range_with_len (λ (p : ℕ). p ∷ []) 0 n), get_or-map-range_with_len (λ (p : ℕ). p ∷ []) 0 n p p (p ∷ []) lt (omega arith))

selection-one : (n p : ℕ) → p < n → IsSelection n (p ∷ [])
selection-one n p lt = selection_up (suc p) n (p ∷ []) (omega arith) (selection_push p [] (selection_none p))

-- a set of one candidate is lean
lean-one : (c : Choice) (p : ℕ) → IsRedundant c (p ∷ []) → ⊥
lean-one c p r =
    let k : r.0 ≡ r.1 = sym (in-one p r.0 r.2) ∙ in-one p r.1 r.3 in
    let named : Contains (names_at c r.1) r.4.0 = subst (λ q. Contains (names_at c q) r.4.0) k r.4.1 in
    (r.4.3 named.0 r.4.0 named.1).0 named.2

-- an empty list has no item of which anything has to hold
all-none : {X : Type 0} (P : X → Type 0) (xs : List X) → xs ≡ [] → All P xs
all-none P xs e = subst (λ l. All P l) (sym e) (λ k d lt. absurd (omega (arith, lt)))

-- each candidate alone is listed, if the depth is 1 and there are no groups
listed-one : (c : Choice) (p : ℕ) → c.depth ≡ Some 1 → c.exclusive ≡ [] → c.at_least_one_of ≡ [] → IsListed c (p ∷ [])
listed-one c p depth exclusive wanted = record {
  wanted = record {
    nonempty = λ e. cc;
    within = subst (λ d. IsWithin d (p ∷ [])) (sym depth) (omega arith);
    exclusive = all-none (λ group. Pairwise (NotBothReach c.map group) (names_in c (p ∷ []))) c.exclusive exclusive;
    required = all-none (λ group. (key : Name) → EnablesOneOf c.map group key → Serves c group (p ∷ [])) c.at_least_one_of wanted;
  };
  lean = lean-one c p;
}

-- a nonempty set within a depth of 1 is one candidate alone
one-listed : (n : ℕ) (s : List ℕ) → s ≢ [] → length s ≤ 1 → IsSelection n s → Contains (singles n) s
one-listed n [] some short sel = absurd (some refl)
one-listed n (p ∷ []) some short sel = single-in n p (sel.below 0 0 (omega arith))
one-listed n (p ∷ q ∷ rest) some short sel = absurd (omega (arith, short))

singles-listing : (n : ℕ) (c : Choice) → c.depth ≡ Some 1 → c.exclusive ≡ [] → c.at_least_one_of ≡ [] → IsListing n (IsListed c) (singles n)
singles-listing n c depth exclusive wanted = record {
  ordered = ordered 0 n;
  exact = λ s. (
    λ h. let w = single-from n s h in
        (subst (IsSelection n) w.2 (selection-one n w.0 w.1), subst (IsListed c) w.2 (listed-one c w.0 depth exclusive wanted)),
    λ w. one-listed n s w.1.wanted.nonempty (subst (λ d. IsWithin d s) depth w.1.wanted.within) w.0,
  );
}

-- a listing of sets of one candidate is each alone
all-single : (n : ℕ) (c : Choice) (sets : List (List ℕ)) → c.depth ≡ Some 1 → c.exclusive ≡ [] → c.at_least_one_of ≡ [] → IsListing n (IsListed c) sets → sets ≡ singles n
all-single n c sets depth exclusive wanted l =
    let m = singles-listing n c depth exclusive wanted in
    ordered-once sets (singles n) l.ordered m.ordered (λ s h. (m.exact s).1 ((l.exact s).0 h)) (λ s h. (l.exact s).1 ((m.exact s).0 h))

or-true : (a : Bool) → (a || true) ≡ true
or-true true = refl
or-true false = refl

and-false : (a : Bool) → (a && false) ≡ false
and-false true = refl
and-false false = refl

same-keeps : (ex all pw : Bool) (opt norm : ℕ) (d : Option ℕ) → pw ≡ true → d ≡ Some 1 → nat_lt 0 opt ≡ true
    → (not ex && (if pw then nat_lt 0 opt && not (all && is_none d) else nat_lt 0 opt || nat_lt 1 norm)) ≡ (not ex && (nat_lt 0 opt || nat_lt 1 norm))
same-keeps ex all pw opt norm d is depth some =
    ap (λ b. not ex && b)
    (ap (λ b. if b then nat_lt 0 opt && not (all && is_none d) else nat_lt 0 opt || nat_lt 1 norm) is
    ∙ ap (λ b. b && not (all && is_none d)) some
    ∙ ap (λ e. not (all && is_none e)) depth
    ∙ ap not (and-false all)
    ∙ sym (ap (λ b. b || nat_lt 1 norm) some))

-- sets of one candidate have the runs of each feature, if the package has optional dependencies
pub depth-one : (w : PackageRulesRecord) (p : PackageRecord) (f : Features) (runs : List PackageRun) → IsDepthOne w → 0 < length f.optional_deps.items → AreRuns w p f runs → AreRuns (as_each w) p f runs
depth-one w p f runs h some are =
    let asked : (w.each_feature || w.feature_powerset) ≡ true = ap (λ b. w.each_feature || b) h.powerset ∙ or-true w.each_feature in
    let r : AreSetRuns w p f runs = subst (λ b. MatchBool b (AreSetRuns w p f runs) (runs ≡ Plain ∷ [])) asked are in
    let n = length (candidates w f) in
    let picked : AreSets true w p f r.sets = subst (λ b. AreSets b w p f r.sets) h.powerset r.are_sets in
    let listing : ArePowersets None (package_choice w p f) n r.sets = subst (λ o. ArePowersets o (package_choice w p f) n r.sets) h.all picked in
    let same : r.sets ≡ singles n = all-single n (package_choice w p f) r.sets h.depth h.exclusive h.at_least_one_of listing in
    let o = options_of w f in
    let e = options_of (as_each w) f in
    let keeps : keeps_all o ≡ keeps_all e = same-keeps w.exclude_all_features o.all_optional_deps w.feature_powerset (length f.optional_deps.items) (length f.normal.items) w.depth h.powerset h.depth (lt-ltb 0 (length f.optional_deps.items) some) in
    let turn : in_turn o r.sets ≡ in_turn e r.sets =
    ap (λ d. with_last_first (w.feature_powerset && not (keeps_all o) && nat_lt 1 (length r.sets) && option_map_or (nat_lt 1) d true) r.sets) h.depth
    ∙ ap (λ b. with_last_first b r.sets) (and-false (w.feature_powerset && not (keeps_all o) && nat_lt 1 (length r.sets))) in
    record {
      sets = r.sets;
      are_sets = same;
      made = r.made
          ∙ ap (λ k. if is_plain o r.sets then Plain ∷ [] else run_if k AllFeatures ++ run_if (not w.exclude_no_default_features) NoDefaultFeatures ++ map Set (in_turn o r.sets)) keeps
          ∙ ap (λ t. if is_plain o r.sets then Plain ∷ [] else run_if (keeps_all e) AllFeatures ++ run_if (not w.exclude_no_default_features) NoDefaultFeatures ++ map Set t) turn;
    }
