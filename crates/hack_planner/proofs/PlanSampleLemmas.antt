-- The samples of a plan's packages.
use Rattle.std.proofs.Common.{◌≡◌, ◌≢◌, refl, sym, ap, subst, ◌∙◌, ℕ, ◌<◌, List, [], ◌∷◌, ◌⊎◌, inl, inr, length, get_or, map, true, false, Option, None, Some, All, Contains, IsTrue}
use Rattle.std.specs.Prelude.{IsSomeAnd, slice_get, ◌||◌}
use Rattle.std.proofs.lemmas.List.{get_or_default}
use Rattle.std.proofs.lemmas.List.Elements.{All-contains, Contains-get_or}
use Rattle.std.proofs.lemmas.Option.{slice_get_read}
use Rattle.std.specs.Bool.{MatchBool}
use Rattle.hack_planner.specs.PackageRules.{PackageRulesRecord}
use Rattle.hack_base.proofs.Members.{Contains-cons_cases, Contains-head, Contains-tail, Contains-nil, Contains-map}
use Rattle.hack_features.specs.Rules.{IsListed}
use Rattle.hack_features.specs.Samples.{IsNeeded, SetShows}
use Rattle.hack_sets.specs.Sets.{IsSelection, Pairwise}
use Rattle.hack_samples.specs.declared.sets.Setting.{Setting}
use Rattle.hack_load.specs.Contexts.{ContextRecord, package_at, features_at}
use Rattle.hack_load.specs.declared.features.Features.{Features}
use Rattle.hack_metadata.specs.Records.{PackageRecord}
use Rattle.hack_planner.specs.Candidates.{candidates}
use Rattle.hack_planner.specs.ContextMembers.{AreChosen}
use Rattle.hack_planner.specs.Kinds.{ArePowersets, AreSets, AreSetRuns, AreRuns, IsUnsampled, package_choice, options_of}
use Rattle.hack_planner.specs.KindsView.{IsRunsFault as IsNotSampled}
use Rattle.hack_planner.specs.declared.fault.RunsFault.{RunsFault}
use Rattle.hack_planner.specs.declared.fault.RunsFault.TheVariants as questions
use Rattle.hack_features.specs.declared.tally.Tally.{Tally}
use Rattle.hack_plan.specs.Entries.{HasRun}
use Rattle.hack_plan.specs.Runs.{PackageRun, Plain, AllFeatures, NoDefaultFeatures, Set, is_plain}
use Rattle.hack_plan.specs.Inputs.{UsesVersion, slots_of}
use Rattle.hack_plan.specs.declared.places.PlanEntry.{PlanEntry}
use Rattle.hack_plan.specs.declared.versions.PlanInput.{PlanInput}
use Rattle.hack_plan.specs.View.{PackageView, PlanView}
use Rattle.hack_versions.specs.declared.version.Version.{Version}
use Rattle.hack_rules.specs.declared.uses.behavior.WorkspaceBehavior.TheVariants.{Cargo}
use Rattle.hack_planner.specs.Calls.{IsInputOf, IsPackageOf, IsUsed, rules_at, table_fault}
use Rattle.hack_planner.specs.InternalUses.{IsRight, id_of}
use Rattle.hack_planner.specs.declared.uses.Chosen.{Chosen}
use Rattle.hack_planner.specs.Internal.{SaysNoSample, HasRunsFault}
use Rattle.hack_planner.specs.CallPlan.{HasJustRuns, IsCause, run_counts}
use Rattle.hack_planner.specs.Powersets.{run_sets_of}
use Rattle.hack_planner.specs.Samples.{IsSampleOf, HasSample, HaveSamples, HoldsPattern, ArePatternsHeld}
use Rattle.hack_planner.specs.declared.fault.PlanFault.{PlanFault}
use Rattle.hack_planner.specs.declared.fault.PlanFault.TheVariants as fault
use Rattle.hack_planner.proofs.PackageRuleLemmas.{powerset-asked, runs-at as package-runs}
use Rattle.hack_planner.proofs.PlanLemmas.{below-count, not-all, zip-weaker}
use Rattle.hack_planner.proofs.UseLemmas.{used-at, zip-at}
use Rattle.hack_planner.proofs.PowersetLemmas.{apart, apart-turned, from-turned, in-turned, or-true, sets_of-runs}

-- a package whose runs have too many questions has no sample
pub no-sample : (w : PackageRulesRecord) (p : PackageRecord) (f : Features) (used : Type 0) (tally : Tally) (e : RunsFault) → e ≡ questions.TooManyQuestions tally → (e ≡ questions.Memory) ⊎ (used × IsNotSampled w p f e) → used × IsUnsampled w p f tally
no-sample w p f used tally e is (inl m) = absurd (cc)
no-sample w p f used tally e is (inr h) = (h.0, subst (IsNotSampled w p f) is h.1)

-- a package without a sample is one of them
pub runs-at : (cx : ContextRecord) (chosen : List Chosen) (i : ℕ) (d : Chosen) → i < length chosen → (e : PlanFault) → IsTrue (get_or chosen i d).is_used × SaysNoSample cx (get_or chosen i d).id.index e → HasRunsFault cx chosen e
runs-at cx chosen i d lt e bad = (get_or chosen i d, (i, lt, get_or_default chosen i (get_or chosen i d) d lt), bad.0, bad.1)

-- that there is no sample is a cause to refuse the plan
pub sample-cause : (cx : ContextRecord) (s : PlanInput) (latest : Option Version) (chosen : List Chosen) (e : PlanFault) → AreChosen cx (map id_of chosen) → table_fault cx (map id_of chosen) ≡ None → IsInputOf cx (map id_of chosen) s → All (IsRight cx s latest) chosen
    → (e ≡ fault.Memory) ⊎ HasRunsFault cx chosen e → (e ≡ fault.Memory) ⊎ IsCause cx latest e
sample-cause cx s latest chosen fault.Memory are fine of_call right h = inl refl
sample-cause cx s latest chosen (fault.Stable text) are fine of_call right (inl e) = absurd (cc)
sample-cause cx s latest chosen (fault.Stable text) are fine of_call right (inr bad) = absurd bad.3
sample-cause cx s latest chosen (fault.Packages e) are fine of_call right (inl m) = absurd (cc)
sample-cause cx s latest chosen (fault.Packages e) are fine of_call right (inr bad) = absurd bad.3
sample-cause cx s latest chosen (fault.PackageRules field name) are fine of_call right (inl m) = absurd (cc)
sample-cause cx s latest chosen (fault.PackageRules field name) are fine of_call right (inr bad) = absurd bad.3
sample-cause cx s latest chosen (fault.WorkspaceRules field) are fine of_call right (inl m) = absurd (cc)
sample-cause cx s latest chosen (fault.WorkspaceRules field) are fine of_call right (inr bad) = absurd bad.3
sample-cause cx s latest chosen (fault.ExcludedInGroup feature name) are fine of_call right (inl m) = absurd (cc)
sample-cause cx s latest chosen (fault.ExcludedInGroup feature name) are fine of_call right (inr bad) = absurd bad.3
sample-cause cx s latest chosen (fault.Version e) are fine of_call right (inl m) = absurd (cc)
sample-cause cx s latest chosen (fault.Version e) are fine of_call right (inr bad) = absurd bad.3
sample-cause cx s latest chosen (fault.Range e) are fine of_call right (inl m) = absurd (cc)
sample-cause cx s latest chosen (fault.Range e) are fine of_call right (inr bad) = absurd bad.3
sample-cause cx s latest chosen (fault.TooManyQuestions name tally) are fine of_call right (inl e) = absurd (cc)
sample-cause cx s latest chosen (fault.TooManyQuestions name tally) are fine of_call right (inr bad) = inr (record {
  ids = map id_of chosen;
  input = s;
  chosen = are;
  tables = fine;
  of_call = of_call;
  wide = (id_of bad.0, Contains-map id_of chosen bad.0 bad.1, (All-contains (IsRight cx s latest) chosen bad.0 right bad.1).0 bad.2, bad.3);
})
sample-cause cx s latest chosen fault.TooManyRuns are fine of_call right (inl e) = absurd (cc)
sample-cause cx s latest chosen fault.TooManyRuns are fine of_call right (inr bad) = absurd bad.3

-- the sets of a package's runs under a strength
sample : (w : PackageRulesRecord) (p : PackageRecord) (f : Features) (strength : ℕ) (runs : List PackageRun) → w.feature_powerset ≡ true → w.strength ≡ Some strength → AreRuns w p f runs → IsSampleOf (package_choice w p f) strength runs
sample w p f strength runs is given made =
    let c = package_choice w p f in
    let n = length (candidates w f) in
    let asked = ap (λ b. w.each_feature || b) is ∙ or-true w.each_feature in
    let h : AreSetRuns w p f runs = subst (λ b. MatchBool b (AreSetRuns w p f runs) (runs ≡ Plain ∷ [])) asked made in
    let picked : AreSets true w p f h.sets = subst (λ b. AreSets b w p f h.sets) is h.are_sets in
    let both : ArePowersets (Some strength) c n h.sets = subst (λ o. ArePowersets o c n h.sets) given picked in
    let sets = sets_of-runs (options_of w f) h.sets (is_plain (options_of w f) h.sets) refl in
    let same = ap run_sets_of h.made ∙ sets.1 in
    let back : (s : List ℕ) → Contains (run_sets_of runs) s → Contains h.sets s = λ s there. from-turned sets.0 h.sets s (subst (λ (l : List (List ℕ)). Contains l s) same there) in
    record {
      listed = λ s there.
          let in_sets = back s there in
          (All-contains (IsSelection n) h.sets s both.0.selections in_sets, All-contains (IsListed c) h.sets s both.0.listed in_sets);
      once = subst (Pairwise (λ s t. s ≢ t)) (sym same) (apart-turned sets.0 h.sets (apart h.sets both.0.ordered));
      covers = λ pattern few s selection listed shows.
          let by = both.1 pattern few s selection listed shows in
          (by.0, subst (λ (l : List (List ℕ)). Contains l by.0) (sym same) (in-turned sets.0 h.sets by.0 by.1), by.2);
      lean = λ k d lt.
          let s : List ℕ = get_or (run_sets_of runs) k d in
          let need : IsNeeded c strength h.sets s = All-contains (IsNeeded c strength h.sets) h.sets s both.2 (back s (Contains-get_or (run_sets_of runs) k d lt)) in
          record { pattern = need.pattern; few = need.few; shows = need.shows; alone = λ u there shows. need.alone u (back u there) shows };
    }

sample-by : (w : PackageRulesRecord) (p : PackageRecord) (f : Features) (runs : List PackageRun) (strength : Option ℕ) → w.strength ≡ strength → w.feature_powerset ≡ true → AreRuns w p f runs → HasSample strength (package_choice w p f) runs
sample-by w p f runs None given is made = tt
sample-by w p f runs (Some strength) given is made = sample w p f strength runs is given made

-- each chosen package of a plan with a strength has a sample
pub samples : (cx : ContextRecord) (latest : Option Version) (plan : PlanView) → HasJustRuns cx latest plan → cx.args.feature_powerset ≡ true → HaveSamples cx latest plan
samples cx latest plan h is = record {
  ids = h.ids;
  input = h.input;
  chosen = h.chosen;
  of_call = h.of_call;
  each = zip-weaker (IsPackageOf cx h.input latest) (λ (id : ℕ) (k : PackageView). IsUsed cx h.input latest id → (p : PackageRecord) (f : Features) → package_at cx id ≡ Some p → features_at cx id ≡ Some f → HasSample (rules_at cx p f).strength (package_choice (rules_at cx p f) p f) k.runs)
      (λ id k m used p f known loaded.
      let w = rules_at cx p f in
      sample-by w p f k.runs w.strength refl (powerset-asked cx p f ∙ is) (package-runs cx (IsUsed cx h.input latest id) id k p f known loaded m used))
      h.ids plan.packages h.packages;
}

-- a set of runs has its run
in-runs : (runs : List PackageRun) (s : List ℕ) → Contains (run_sets_of runs) s → Contains runs (Set s)
in-runs [] s c = absurd (Contains-nil s c)
in-runs (Plain ∷ runs) s c = Contains-tail Plain runs (Set s) (in-runs runs s c)
in-runs (AllFeatures ∷ runs) s c = Contains-tail AllFeatures runs (Set s) (in-runs runs s c)
in-runs (NoDefaultFeatures ∷ runs) s c = Contains-tail NoDefaultFeatures runs (Set s) (in-runs runs s c)
in-runs (Set t ∷ runs) s c =
    elim (Contains-cons_cases t (run_sets_of runs) s c) [
      | inl e ↦ subst (λ u. Contains (Set t ∷ runs) (Set u)) e (Contains-head (Set t) runs)
      | inr w ↦ Contains-tail (Set t) runs (Set s) (in-runs runs s w)
    ]

-- where a package's sample shows a pattern, the plan does
pattern-at : (cx : ContextRecord) (latest : Option Version) (plan : PlanView) (h : HasJustRuns cx latest plan) → h.input.as_cargo ≡ false
    → (place : ℕ) (p : PackageRecord) (features : Features) (version : Option Version) (slot : ℕ) (pattern : List Setting) → UsesVersion h.input.range h.input h.places.0 version place → slot < slots_of h.input version
    → (k : PackageView) → slice_get plan.packages place ≡ Some k → (s : List ℕ) → Contains (run_sets_of k.runs) s → SetShows (package_choice (rules_at cx p features) p features) pattern s
    → HoldsPattern plan version slot place (package_choice (rules_at cx p features) p features) pattern
pattern-at cx latest plan h each place p features version slot pattern uses within k at s there shows =
    let run = in-runs k.runs s there in
    let rank = run.0 in
    let entry : PlanEntry = record { version = version; slot = slot; «package» = Some place; rank = rank } in
    let has = subst (λ b. HasRun b h.input (run_counts plan.packages) h.places.0 entry) (sym each) (place, refl, uses, below-count plan.packages place rank k at run.1) in
    record {
      rank = rank;
      set = s;
      held = h.places.2.complete entry (record { run = has; slot = within });
      run = subst (λ o. IsSomeAnd o (λ (m : PackageView). slice_get m.runs rank ≡ Some (Set s))) (sym at) (slice_get_read k.runs (length k.runs) rank (Set s) refl run.1 (sym run.2));
      shows = shows;
    }

-- a plan holds a place for each pattern of a package with a strength
pub patterns : (cx : ContextRecord) (latest : Option Version) (plan : PlanView) → HasJustRuns cx latest plan
    → cx.args.feature_powerset ≡ true → ¬ (cx.args.workspace_behavior ≡ Cargo) → ArePatternsHeld cx latest plan
patterns cx latest plan h is each = record {
  ids = h.ids;
  input = h.input;
  steps = h.places.0;
  chosen = h.chosen;
  of_call = h.of_call;
  on_steps = h.places.1;
  held = λ strength place id p features version slot pattern s at known loaded uses within given few selection listed shows.
      let m = zip-at (IsPackageOf cx h.input latest) h.ids plan.packages place id h.packages at in
      let used = used-at cx h.ids h.input latest h.places.0 version place id h.of_call at h.places.1 uses in
      let runs = package-runs cx (IsUsed cx h.input latest id) id m.0 p features known loaded m.2 used in
      let by = (sample (rules_at cx p features) p features strength m.0.runs (powerset-asked cx p features ∙ is) given runs).covers pattern few s selection listed shows in
      pattern-at cx latest plan h (not-all h.input.as_cargo _ h.of_call.as_cargo each) place p features version slot pattern uses within m.0 m.1 by.0 by.1 by.2;
}
