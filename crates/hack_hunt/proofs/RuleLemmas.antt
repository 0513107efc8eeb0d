-- Where a package is searched, and by which rules.
use Rattle.std.specs.Prelude.{◌≡◌, ◌==◌, ◌&&◌, ◌||◌, ◌↔◌, ℕ, Bool, true, false, not, List, [], ◌∷◌, Contains, IsTrue, Option, None, Some, is_none, length}
use Rattle.std.proofs.Common.{◌∙◌, ap, arith, eqb-true, inl, inr, subst, sym, refl}
use Rattle.std.proofs.lemmas.Bool.{false≢true}
use Rattle.std.proofs.lemmas.List.Elements.{All-contains}
use Rattle.hack_base.specs.Names.{Name}
use Rattle.hack_closures.specs.Closures.{AreChosen, StandsFor}
use Rattle.hack_closures.specs.View.{alone_in, choice_in, has_all, search_of}
use Rattle.hack_closures.specs.declared.build.Build.{Build}
use Rattle.hack_closures.specs.declared.build.Build.TheVariants.{NoFeatures, AllFeatures, Set}
use Rattle.hack_closures.specs.declared.closures.Closures.{Closures}
use Rattle.hack_conflicts.specs.Rules.{IsChoice}
use Rattle.hack_conflicts.specs.Runs.{Finding, HasFailed, HasPassed, IsFinding, Run}
use Rattle.hack_conflicts.specs.Sets.{Has}
use Rattle.hack_conflicts.specs.declared.rules.Rules.{Rules as SearchRules}
use Rattle.hack_conflicts.specs.declared.tried.BuildOutcome.{BuildOutcome}
use Rattle.hack_conflicts.specs.declared.tried.BuildOutcome.TheVariants.{Failed, Passed}
use Rattle.hack_culprits.specs.declared.aim.Aim.{Aim}
use Rattle.hack_features.specs.ChoiceView.{choice}
use Rattle.hack_features.specs.Feature.{groups_of}
use Rattle.hack_routes.specs.FeatureMap.{feature_map}
use Rattle.hack_features.specs.Rules.{Choice, IsListed, IsRequired, unlifted_groups}
use Rattle.hack_sets.specs.Sets.{IsListing}
use Rattle.hack_features.specs.View.{choice_of}
use Rattle.hack_features.specs.declared.feature.Feature.{Feature}
use Rattle.hack_features.specs.declared.rules.Rules.{Rules}
use Rattle.hack_load.specs.Contexts.{ContextRecord, features_at, package_at}
use Rattle.hack_load.specs.declared.features.Features.{Features}
use Rattle.hack_metadata.specs.RecordViews.{package_view}
use Rattle.hack_metadata.specs.Records.{PackageRecord}
use Rattle.hack_metadata.specs.declared.metadata.Package.{Package}
use Rattle.hack_plan.specs.Runs.{is_plain}
use Rattle.hack_plan.specs.declared.runs.RunOptions.{RunOptions}
use Rattle.hack_planner.specs.Kinds.{options_of, package_choice}
use Rattle.hack_planner.specs.PackageRules.{PackageRulesRecord, rules_in}
use Rattle.hack_planner.specs.declared.package_rules.PackageRules.{PackageRules}
use Rattle.hack_planner.proofs.CandidateLemmas.{none-lifted}
use Rattle.hack_hunt.specs.Hunts.{AreRulesOf, IsAimAt, IsPlainAs, Spot, ends_of, searched, unbound_rules}
use Rattle.hack_hunt.specs.Internal.{BeginsWith, IsAimOf, ListsNone}

-- a choice that is searched at a spot, by a package's rules
pub aim_at : (cx : ContextRecord) (spot : Spot) (p : PackageRecord) (f : Features) (r : PackageRulesRecord) (plain : Bool) (aim : Aim)
    → package_at cx spot.id ≡ Some p → features_at cx spot.id ≡ Some f → r ≡ unbound_rules cx p f
    → IsPlainAs r p f plain → IsAimOf (searched plain (package_choice r p f)) (ends_of r f plain) spot aim → IsAimAt cx spot aim
aim_at cx spot p f r plain aim known loaded rules is of = record {
  pkg = p;
  features = f;
  known = known;
  loaded = loaded;
  slot = of.slot;
  member = of.member;
  plain = subst (λ (b : Bool). IsPlainAs (unbound_rules cx p f) p f b) (sym of.rules.plain) (subst (λ (r : PackageRulesRecord). IsPlainAs r p f plain) rules is);
  rules = subst (λ (b : Bool). AreRulesOf (searched b (package_choice (unbound_rules cx p f) p f)) (ends_of (unbound_rules cx p f) f b) aim) (sym of.rules.plain)
      (subst (λ (r : PackageRulesRecord). AreRulesOf (searched plain (package_choice r p f)) (ends_of r f plain) aim) rules of.rules);
}

no-runs : (runs : List Run) (s : List Bool) (o : BuildOutcome) → runs ≡ [] → Contains runs (record { set = s; outcome = o }) → ⊥
no-runs runs s o is c = absurd (omega (arith, c.1, ap length is))

-- where nothing was run though a run is allowed, no set may be chosen
none-chosen : (r : SearchRules) (f : Finding) (s : List Bool) (b : Bool) → f.complete ≡ b → IsFinding r (Some 1) f → f.runs ≡ [] → IsChoice r s → ⊥
none-chosen r f s false is finding none may = absurd (omega (arith, finding.spent is, ap length none))
none-chosen r f s true is finding none may = elim (finding.decided is s may) [
  | inl inside ↦ no-runs f.runs inside.0 Failed none (All-contains (HasFailed f.runs) f.conflicts inside.0 finding.failed inside.1)
  | inr inside ↦ no-runs f.runs inside.0 Passed none (All-contains (HasPassed f.runs) f.passing inside.0 finding.passed inside.1)
]

-- a search in which neither the empty set nor all features may be chosen begins with a listed set, if
-- there is one
pub begun : (k : Closures) (c : Choice) (f : Finding) (first : Option Build) → choice_in k ≡ c → AreChosen c (alone_in k) (search_of k)
    → ((s : List Bool) → ((x : ℕ) → ¬ Has s x) → IsChoice (search_of k) s ↔ (IsTrue false × IsRequired c []))
    → IsTrue (has_all k) ↔ (IsTrue false × (c.exclusive ≡ []))
    → IsFinding (search_of k) (Some 1) f → BeginsWith k f.runs first → ListsNone c (is_none first)
begun k c f None same listed empty all finding begins = λ s selection is.
    let chosen = listed s selection is.wanted in
    none-chosen (search_of k) f chosen.0 f.complete refl finding begins chosen.2
begun k c f (Some NoFeatures) same listed empty all finding begins = absurd (false≢true ((empty begins.0 begins.2).0 begins.1).0)
begun k c f (Some AllFeatures) same listed empty all finding begins = absurd (false≢true (all.0 begins.2.0).0)
begun k c f (Some (Set t)) same listed empty all finding begins =
    let stands = subst (λ (c : Choice). StandsFor c (alone_in k) begins.0 t.items) same begins.2.1 in
    (t.items, stands.selection, stands.listed)

-- a list with an element isn't empty
some-set : {X : Type 0} (x : X) (xs : List X) (b : Bool) → (length (x ∷ xs) == 0) ≡ b → (length (x ∷ xs) == 0) ≡ false
some-set x xs false is = is
some-set x xs true is = absurd (omega (arith, eqb-true (length (x ∷ xs)) 0 is))

pub unnot : (a b : Bool) → a ≡ not b → not a ≡ b
unnot a true is = ap not is
unnot a false is = ap not is

contains-first : {X : Type 0} (x : X) (xs : List X) → Contains (x ∷ xs) x
contains-first x xs = (0, omega (arith), refl)

-- no set is listed, or some set is, as a list of them has it
pub plain_as : (o : RunOptions) (c : Choice) (b : Bool) → is_plain o [] ≡ true → ListsNone c b
    → (sets : List (List ℕ)) → IsListing (length c.candidates) (IsListed c) sets → b ≡ is_plain o sets
plain_as o c true flag none [] listing = sym flag
plain_as o c true flag none (s ∷ sets) listing =
    let here = (listing.exact s).0 (contains-first s sets) in
    absurd (none s here.0 here.1)
plain_as o c false flag some [] listing = absurd (omega (arith, ((listing.exact some.0).1 (some.1, some.2)).1))
plain_as o c false flag some (s ∷ sets) listing = sym (ap (λ (b : Bool). b && ((o.normal == 0) && (o.optional == 0) || o.included)) (some-set s sets (length (s ∷ sets) == 0) refl))

-- whether a package has just a plain run, by a choice that is its own
pub own_plain : (r : PackageRulesRecord) (p : PackageRecord) (f : Features) (c : Choice) → c ≡ package_choice r p f → (b plain : Bool)
    → ((sets : List (List ℕ)) → IsListing (length c.candidates) (IsListed c) sets → b ≡ is_plain (options_of r f) sets) → b ≡ plain → IsPlainAs r p f plain
own_plain r p f c own b plain says same =
    subst (IsPlainAs r p f) same (subst (λ (c : Choice). (sets : List (List ℕ)) → IsListing (length c.candidates) (IsListed c) sets → b ≡ is_plain (options_of r f) sets) own says)

-- the choice of a plain run
pub plain_choice : (asked : PackageRules) (p : Package) (f : Features) (exclusive : List Feature) → exclusive ≡ asked.exclusive.items → (rules_in asked).depth ≡ None
    → (rules : Rules) → choice_of rules ≡ choice [] None [] exclusive p.features [] → choice_of rules ≡ searched true (package_choice (rules_in asked) (package_view p) f)
plain_choice asked p f exclusive same depth rules is =
    let made : Option ℕ → List (List Name) → Choice = λ depth groups. record { map = feature_map p.features; candidates = []; depth = depth; at_least_one_of = []; exclusive = groups } in
    is ∙ ap (λ l. made None (unlifted_groups (groups_of l) [])) same ∙ ap (made None) (none-lifted (rules_in asked).exclusive) ∙ ap (λ d. made d (rules_in asked).exclusive) (sym depth)
