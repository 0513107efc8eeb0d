-- The chosen packages of a plan in parallel lists, and what the plan covers.
use Rattle.std.proofs.Common.{◌≡◌, refl, sym, ap, subst, ◌∙◌, ℕ, ◌<◌, List, [], ◌∷◌, ◌⊎◌, inl, inr, length, get_or, Bool, true, false, Option, None, Some, option_map}
use Rattle.std.specs.Prelude.{IsSomeAnd, IsTrue, ◌↔◌, slice_get}
use Rattle.std.specs.List.{AllZip}
use Rattle.std.proofs.lemmas.Option.{slice_get-map, slice_get_read, get_or_from_slice_get}
use Rattle.hack_planner.specs.Kinds.{package_choice, AreCovering}
use Rattle.hack_planner.specs.PackageRules.{PackageRulesRecord}
use Rattle.hack_features.specs.Rules.{IsWanted}
use Rattle.hack_sets.specs.Sets.{IsSelection}
use Rattle.hack_load.specs.Contexts.{ContextRecord}
use Rattle.hack_load.specs.declared.features.Features.{Features}
use Rattle.hack_metadata.specs.Records.{PackageRecord}
use Rattle.hack_base.specs.Names.{Name}
use Rattle.hack_planner.specs.Candidates.{candidates}
use Rattle.hack_planner.specs.KindsView.{IsKind, candidates_in, runs_of}
use Rattle.hack_planner.specs.declared.kind.Kind.{Kind}
use Rattle.hack_planner.specs.declared.kind.Kind.TheVariants.{Normal, Each, Powerset}
use Rattle.hack_plan.specs.Entries.{HasRun}
use Rattle.hack_plan.specs.Runs.{PackageRun, Plain, Set}
use Rattle.hack_plan.specs.Inputs.{UsesVersion, slots_of}
use Rattle.hack_plan.specs.declared.places.PlanEntry.{PlanEntry}
use Rattle.hack_plan.specs.View.{PackageView, PlanView}
use Rattle.hack_versions.specs.declared.version.Version.{Version}
use Rattle.hack_base.specs.Notes.{Note}
use Rattle.hack_rules.specs.declared.uses.behavior.WorkspaceBehavior.TheVariants.{Cargo}
use Rattle.hack_planner.specs.Calls.{IsCoveredIn, rules_at}
use Rattle.hack_planner.specs.CallPlan.{HasJustRuns, IsPlan, run_counts}
use Rattle.hack_planner.specs.CoveredSets.{AreCovered, HoldsCover}
use Rattle.hack_planner.proofs.PackageRuleLemmas.{at-place}
use Rattle.hack_planner.proofs.UseLemmas.{used-at, zip-at}

-- the candidates of a kind are those of its package, or none where the package has a plain run alone
pub of-kind : (w : PackageRulesRecord) (p : PackageRecord) (f : Features) (kind : Kind) (groups : List (List Name)) (runs : List PackageRun) → groups ≡ candidates_in kind → runs ≡ runs_of kind → IsKind w p f kind → (groups ≡ candidates w f) ⊎ ((groups ≡ []) × (runs ≡ Plain ∷ []))
of-kind w p f Normal groups runs g r h = inr (g, r)
of-kind w p f (Each list sets) groups runs g r h = inl (g ∙ h.2)
of-kind w p f (Powerset list sets) groups runs g r h = inl (g ∙ h.1)

-- what follows beside each element of the first list
pub zip-weaker : {A B : Type 0} (R S : A → B → Type 0) → ((x : A) (y : B) → R x y → S x y) → (xs : List A) (ys : List B) → AllZip R xs ys → AllZip S xs ys
zip-weaker R S f [] [] h = tt
zip-weaker R S f [] (y ∷ ys) h = absurd h
zip-weaker R S f (x ∷ xs) [] h = absurd h
zip-weaker R S f (x ∷ xs) (y ∷ ys) h = (f x y h.0, zip-weaker R S f xs ys h.1)

-- where there isn't one run for all packages
pub not-all : (b : Bool) (P : Type 0) → IsTrue b ↔ P → ¬ P → b ≡ false
not-all true P iff other = absurd (other (iff.0 refl))
not-all false P iff other = refl

-- a rank of a package's runs is below their number
pub below-count : (packages : List PackageView) (place rank : ℕ) (k : PackageView) → slice_get packages place ≡ Some k → rank < length k.runs → rank < get_or (run_counts packages) place 0
below-count packages place rank k at lt =
    let there = slice_get-map (λ (m : PackageView). length m.runs) packages place ∙ ap (option_map (λ (m : PackageView). length m.runs)) at in
    subst (λ n. rank < n) (sym (get_or_from_slice_get (run_counts packages) place (length k.runs) 0 there)) lt

-- where a package's runs cover its sets, the plan does
cover-at : (cx : ContextRecord) (latest : Option Version) (plan : PlanView) (h : HasJustRuns cx latest plan) → h.input.as_cargo ≡ false
    → (place id : ℕ) (p : PackageRecord) (features : Features) (version : Option Version) (slot : ℕ) (s : List ℕ) → UsesVersion h.input.range h.input h.places.0 version place → slot < slots_of h.input version
    → (k : PackageView) → slice_get plan.packages place ≡ Some k → AreCovering (rules_at cx p features) p features k.runs
    → IsSelection (length (candidates (rules_at cx p features) features)) s → IsWanted (package_choice (rules_at cx p features) p features) s → HoldsCover plan version slot place (package_choice (rules_at cx p features) p features) s
cover-at cx latest plan h each place id p features version slot s uses within k at covering selection wanted =
    let cover = covering s selection wanted in
    let rank = cover.2.0 in
    let entry : PlanEntry = record { version = version; slot = slot; «package» = Some place; rank = rank } in
    let run = subst (λ b. HasRun b h.input (run_counts plan.packages) h.places.0 entry) (sym each) (place, refl, uses, below-count plan.packages place rank k at cover.2.1) in
    record {
      rank = rank;
      set = cover.0;
      held = h.places.2.complete entry (record { run = run; slot = within });
      run = subst (λ o. IsSomeAnd o (λ (m : PackageView). slice_get m.runs rank ≡ Some (Set cover.0))) (sym at) (slice_get_read k.runs (length k.runs) rank (Set cover.0) refl cover.2.1 (sym cover.2.2));
      covers = cover.1;
    }

-- under a powerset a plan covers the sets of its packages
pub covers : (cx : ContextRecord) (rustup : List ℕ) (latest : Option Version) (plan : PlanView) (notes : List Note) → IsPlan cx rustup latest plan notes → cx.args.feature_powerset ≡ true → ¬ (cx.args.workspace_behavior ≡ Cargo) → AreCovered cx latest plan
covers cx rustup latest plan notes h powerset each =
    let base = h.performed.base in
    record {
      ids = base.ids;
      input = base.input;
      steps = base.places.0;
      chosen = base.chosen;
      of_call = base.of_call;
      on_steps = base.places.1;
      covered = λ place id p features version slot s at known loaded uses within all selection wanted.
          let m = zip-at (IsCoveredIn cx base.input latest) base.ids plan.packages place id h.covered at in
          let used = used-at cx base.ids base.input latest base.places.0 version place id base.of_call at base.places.1 uses in
          let covering = at-place cx id (λ q f. (rules_at cx q f).strength ≡ None → AreCovering (rules_at cx q f) q f m.0.runs) m.2.pkg p m.2.features features m.2.known m.2.loaded known loaded (m.2.covered used powerset) all in
          cover-at cx latest plan base (not-all base.input.as_cargo _ base.of_call.as_cargo each) place id p features version slot s uses within m.0 m.1 covering selection wanted;
    }
