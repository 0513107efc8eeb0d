-- The powersets of a plan's packages.
use Rattle.std.proofs.Common.{◌≡◌, ◌≢◌, refl, sym, ap, subst, ◌∙◌, arith, ℕ, ◌+◌, ◌-◌, List, [], ◌∷◌, ◌++◌, inl, inr, length, map, take, drop, get_or, Bool, true, false, not, Option, None, Some, All, Contains}
use Rattle.std.specs.Prelude.{nat_lt, ◌&&◌, ◌||◌, ◌==◌, if◌then◌else◌}
use Rattle.std.proofs.lemmas.Bool.{eqb-true}
use Rattle.std.proofs.lemmas.List.{take-append-drop, get_or_append_left, get_or-append-add, length-append}
use Rattle.std.proofs.lemmas.List.Elements.{All-append, All-cons, All-head, All-tail, Contains-append_left, Contains-append_right, Contains-append_cases, filter_map-append}
use Rattle.std.specs.Bool.{MatchBool}
use Rattle.hack_planner.specs.PackageRules.{PackageRulesRecord}
use Rattle.hack_sets.specs.Sets.{IsBefore, Pairwise}
use Rattle.hack_load.specs.Contexts.{ContextRecord, package_at, features_at}
use Rattle.hack_load.specs.declared.features.Features.{Features}
use Rattle.hack_metadata.specs.Records.{PackageRecord}
use Rattle.hack_planner.specs.Candidates.{candidates}
use Rattle.hack_planner.specs.Kinds.{ArePowersets, AreSets, AreSetRuns, AreRuns, package_choice, options_of}
use Rattle.std.specs.Option.{option_map_or}
use Rattle.hack_plan.specs.Runs.{PackageRun, Plain, AllFeatures, NoDefaultFeatures, Set, is_plain, in_turn, keeps_all, run_if, runs_from}
use Rattle.hack_plan.specs.RunsView.{with_last_first}
use Rattle.hack_plan.specs.declared.runs.RunOptions.{RunOptions}
use Rattle.hack_plan.specs.View.{PackageView, PlanView}
use Rattle.hack_versions.specs.declared.version.Version.{Version}
use Rattle.hack_planner.specs.Calls.{IsPackageOf, IsUsed, rules_at}
use Rattle.hack_planner.specs.CallPlan.{HasJustRuns}
use Rattle.hack_planner.specs.Powersets.{HavePowersets, HasPowerset, IsPowerset, set_of, run_sets_of}
use Rattle.hack_planner.proofs.PackageRuleLemmas.{powerset-asked, runs-at}
use Rattle.hack_planner.proofs.PlanLemmas.{zip-weaker}

all-front : {X : Type 0} (P : X → Type 0) (xs ys : List X) → All P (xs ++ ys) → All P xs
all-front P xs ys h = λ k d l. subst P (get_or_append_left xs ys d k l) (h k d (omega (arith, l, length-append xs ys)))

all-back : {X : Type 0} (P : X → Type 0) (xs ys : List X) → All P (xs ++ ys) → All P ys
all-back P xs ys h = λ k d l. subst P (get_or-append-add xs ys k d) (h (length xs + k) d (omega (arith, l, length-append xs ys)))

-- one list appended to another, and what holds between their elements
pairwise-append : {X : Type 0} (R : X → X → Type 0) (xs ys : List X) → Pairwise R xs → Pairwise R ys → All (λ x. All (R x) ys) xs → Pairwise R (xs ++ ys)
pairwise-append R [] ys p q h = q
pairwise-append R (x ∷ xs) ys p q h = (All-append (R x) xs ys p.0 (All-head (λ z. All (R z) ys) x xs h), pairwise-append R xs ys p.1 q (All-tail (λ z. All (R z) ys) x xs h))

pairwise-split : {X : Type 0} (R : X → X → Type 0) (xs ys : List X) → Pairwise R (xs ++ ys) → Pairwise R xs × Pairwise R ys × All (λ x. All (R x) ys) xs
pairwise-split R [] ys p = (tt, p, λ k d l. absurd (omega arith))
pairwise-split R (x ∷ xs) ys p =
    let rest = pairwise-split R xs ys p.1 in
    ((all-front (R x) xs ys p.0, rest.0), rest.1, All-cons (λ z. All (R z) ys) x xs (all-back (R x) xs ys p.0) rest.2)

pairwise-turned : {X : Type 0} (R : X → X → Type 0) → ((x y : X) → R x y → R y x) → (xs ys : List X) → Pairwise R (xs ++ ys) → Pairwise R (ys ++ xs)
pairwise-turned R flip xs ys p =
    let both = pairwise-split R xs ys p in
    pairwise-append R ys xs both.1 both.0 (λ k d l. λ i e m. flip (get_or xs i e) (get_or ys k d) (both.2 i e m k d l))

-- sets in order are pairwise different
pub apart : (sets : List (List ℕ)) → Pairwise IsBefore sets → Pairwise (λ s t. s ≢ t) sets
apart [] p = tt
apart (s ∷ sets) p = (λ k d l. λ same. let b = subst (IsBefore s) (sym same) (p.0 k d l) in b.absent b.present, apart sets p.1)

-- with the last one first, the sets are the same and pairwise different
in-last_first : {X : Type 0} (n : ℕ) (xs : List X) (t : X) → Contains xs t → Contains (drop n xs ++ take n xs) t
in-last_first n xs t c =
    elim (Contains-append_cases (take n xs) (drop n xs) t (subst (λ ys. Contains ys t) (sym (take-append-drop n xs)) c)) [
      | inl w ↦ Contains-append_right (drop n xs) (take n xs) t w
      | inr w ↦ Contains-append_left (drop n xs) (take n xs) t w
    ]

from-last_first : {X : Type 0} (n : ℕ) (xs : List X) (t : X) → Contains (drop n xs ++ take n xs) t → Contains xs t
from-last_first n xs t c = subst (λ ys. Contains ys t) (take-append-drop n xs)
    (elim (Contains-append_cases (drop n xs) (take n xs) t c) [
      | inl w ↦ Contains-append_right (take n xs) (drop n xs) t w
      | inr w ↦ Contains-append_left (take n xs) (drop n xs) t w
    ])

pub in-turned : {X : Type 0} (b : Bool) (xs : List X) (t : X) → Contains xs t → Contains (with_last_first b xs) t
in-turned false xs t c = c
in-turned true xs t c = in-last_first (length xs - 1) xs t c

pub from-turned : {X : Type 0} (b : Bool) (xs : List X) (t : X) → Contains (with_last_first b xs) t → Contains xs t
from-turned false xs t c = c
from-turned true xs t c = from-last_first (length xs - 1) xs t c

pub apart-turned : (b : Bool) (sets : List (List ℕ)) → Pairwise (λ s t. s ≢ t) sets → Pairwise (λ s t. s ≢ t) (with_last_first b sets)
apart-turned false sets p = p
apart-turned true sets p =
    pairwise-turned (λ s t. s ≢ t) (λ s t differ same. differ (sym same)) (take (length sets - 1) sets) (drop (length sets - 1) sets)
    (subst (Pairwise (λ s t. s ≢ t)) (sym (take-append-drop (length sets - 1) sets)) p)

-- the sets of the runs that were made from sets
sets_of-map : (sets : List (List ℕ)) → run_sets_of (map Set sets) ≡ sets
sets_of-map [] = refl
sets_of-map (s ∷ sets) = ap (λ (l : List (List ℕ)). s ∷ l) (sets_of-map sets)

sets_of-fronts : (a b : Bool) → run_sets_of (run_if a AllFeatures ++ run_if b NoDefaultFeatures) ≡ []
sets_of-fronts true true = refl
sets_of-fronts true false = refl
sets_of-fronts false true = refl
sets_of-fronts false false = refl

first-true : (a b : Bool) → (a && b) ≡ true → a ≡ true
first-true true b h = refl
first-true false b h = h

no-sets : (sets : List (List ℕ)) → (length sets == 0) ≡ true → sets ≡ []
no-sets [] e = refl
no-sets (s ∷ ss) e = absurd (omega (arith, eqb-true (length (s ∷ ss)) 0 e))

pub sets_of-runs : (o : RunOptions) (sets : List (List ℕ)) (plain : Bool) → is_plain o sets ≡ plain → (b : Bool) × (run_sets_of (runs_from o sets) ≡ with_last_first b sets)
sets_of-runs o sets true is = (
  false,
  subst (λ p. run_sets_of (if p then Plain ∷ [] else (run_if (keeps_all o) AllFeatures ++ run_if (not o.exclude_no_default_features) NoDefaultFeatures) ++ map Set (in_turn o sets)) ≡ sets) (sym is)
      (sym (no-sets sets (first-true (length sets == 0) ((o.normal == 0) && (o.optional == 0) || o.included) is))),
)
sets_of-runs o sets false is =
    let fronts = run_if (keeps_all o) AllFeatures ++ run_if (not o.exclude_no_default_features) NoDefaultFeatures in (
      o.powerset && not (keeps_all o) && nat_lt 1 (length sets) && option_map_or (nat_lt 1) o.depth true,
      subst (λ p. run_sets_of (if p then Plain ∷ [] else fronts ++ map Set (in_turn o sets)) ≡ in_turn o sets) (sym is)
          (filter_map-append set_of fronts (map Set (in_turn o sets))
          ∙ ap (λ (l : List (List ℕ)). l ++ run_sets_of (map Set (in_turn o sets))) (sets_of-fronts (keeps_all o) (not o.exclude_no_default_features))
          ∙ sets_of-map (in_turn o sets)),
    )

pub or-true : (a : Bool) → (a || true) ≡ true
or-true true = refl
or-true false = refl

-- the runs of a package under a powerset
powerset : (w : PackageRulesRecord) (p : PackageRecord) (f : Features) (runs : List PackageRun) → w.feature_powerset ≡ true → w.strength ≡ None → AreRuns w p f runs → IsPowerset (package_choice w p f) runs
powerset w p f runs is all made =
    let asked = ap (λ b. w.each_feature || b) is ∙ or-true w.each_feature in
    let h : AreSetRuns w p f runs = subst (λ b. MatchBool b (AreSetRuns w p f runs) (runs ≡ Plain ∷ [])) asked made in
    let picked : AreSets true w p f h.sets = subst (λ b. AreSets b w p f h.sets) is h.are_sets in
    let listing : ArePowersets None (package_choice w p f) (length (candidates w f)) h.sets = subst (λ o. ArePowersets o (package_choice w p f) (length (candidates w f)) h.sets) all picked in
    let sets = sets_of-runs (options_of w f) h.sets (is_plain (options_of w f) h.sets) refl in
    let same = ap run_sets_of h.made ∙ sets.1 in
    record {
      exact = λ s. (
        (λ c. (listing.exact s).0 (from-turned sets.0 h.sets s (subst (λ (l : List (List ℕ)). Contains l s) same c))),
        (λ listed. subst (λ (l : List (List ℕ)). Contains l s) (sym same) (in-turned sets.0 h.sets s ((listing.exact s).1 listed))),
      );
      once = subst (Pairwise (λ s t. s ≢ t)) (sym same) (apart-turned sets.0 h.sets (apart h.sets listing.ordered));
    }

powerset-by : (w : PackageRulesRecord) (p : PackageRecord) (f : Features) (runs : List PackageRun) (strength : Option ℕ) → w.strength ≡ strength → w.feature_powerset ≡ true → AreRuns w p f runs → HasPowerset strength (package_choice w p f) runs
powerset-by w p f runs None all is made = powerset w p f runs is all made
powerset-by w p f runs (Some strength) all is made = tt

-- under a powerset each chosen package of a plan without a strength has its powerset
pub powersets : (cx : ContextRecord) (latest : Option Version) (plan : PlanView) → HasJustRuns cx latest plan → cx.args.feature_powerset ≡ true → HavePowersets cx latest plan
powersets cx latest plan h is = record {
  ids = h.ids;
  input = h.input;
  chosen = h.chosen;
  of_call = h.of_call;
  each = zip-weaker (IsPackageOf cx h.input latest) (λ (id : ℕ) (k : PackageView). IsUsed cx h.input latest id → (p : PackageRecord) (f : Features) → package_at cx id ≡ Some p → features_at cx id ≡ Some f → HasPowerset (rules_at cx p f).strength (package_choice (rules_at cx p f) p f) k.runs)
      (λ id k m used p f known loaded.
      let w = rules_at cx p f in
      powerset-by w p f k.runs w.strength refl (powerset-asked cx p f ∙ is) (runs-at cx (IsUsed cx h.input latest id) id k p f known loaded m used))
      h.ids plan.packages h.packages;
}
