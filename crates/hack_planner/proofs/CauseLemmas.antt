-- Errors of the parts of a plan are causes to refuse it, and the notices on all parts.
use Rattle.std.proofs.Common.{◌≡◌, ◌<◌, ◌^◌, length, refl, sym, ap, subst, ◌∙◌, ◌⊎◌, inl, inr, ℕ, List, [], ◌∷◌, ◌++◌, map, Option, append_assoc, None}
use Rattle.std.specs.List.{AllZip}
use Rattle.std.proofs.lemmas.Bool.{cases_lt}
use Rattle.std.proofs.lemmas.List.{map-append}
use Rattle.hack_load.specs.Contexts.{ContextRecord}
use Rattle.hack_planner.specs.ContextMembers.{AreChosen}
use Rattle.hack_plan.specs.Entries.{ArePlaces, HasTooMany}
use Rattle.hack_plan.specs.declared.places.PlanEntry.{PlanEntry}
use Rattle.hack_plan.specs.declared.places.PlacesFault.{PlacesFault}
use Rattle.hack_plan.specs.declared.places.PlacesFault.TheVariants as places
use Rattle.hack_plan.specs.declared.versions.PlanInput.{PlanInput}
use Rattle.hack_plan.specs.Plans.{counts_in, count_in}
use Rattle.hack_plan.specs.View.{plan_package_view}
use Rattle.hack_plan.specs.declared.parts.PlanPackage.{PlanPackage}
use Rattle.hack_base.specs.Notes.{Note, note_of}
use Rattle.hack_base.specs.declared.notice.Notice.{Notice}
use Rattle.hack_versions.specs.declared.version.Version.{Version}
use Rattle.hack_planner.specs.Calls.{IsInputOf, IsPackageOf, table_fault}
use Rattle.hack_planner.specs.CallPlan.{IsCause, run_counts}
use Rattle.hack_planner.specs.Internal.{SaysRangeRefused}
use Rattle.hack_planner.specs.InternalFaultConversions.{of_places}
use Rattle.hack_planner.specs.declared.fault.PlanFault.{PlanFault}
use Rattle.hack_planner.specs.declared.fault.PlanFault.TheVariants as fault

-- the error of the range is a cause
pub range-cause : (cx : ContextRecord) (ids : List ℕ) (s : PlanInput) (latest : Option Version) (e : PlanFault) → AreChosen cx ids → table_fault cx ids ≡ None → IsInputOf cx ids s
    → (e ≡ fault.Memory) ⊎ SaysRangeRefused s latest e → (e ≡ fault.Memory) ⊎ IsCause cx latest e
range-cause cx ids s latest fault.Memory chosen fine of_call h = inl refl
range-cause cx ids s latest (fault.Stable text) chosen fine of_call (inl e) = absurd (cc)
range-cause cx ids s latest (fault.Stable text) chosen fine of_call (inr bad) = absurd bad
range-cause cx ids s latest (fault.Packages e) chosen fine of_call (inl m) = absurd (cc)
range-cause cx ids s latest (fault.Packages e) chosen fine of_call (inr bad) = absurd bad
range-cause cx ids s latest (fault.PackageRules field name) chosen fine of_call (inl m) = absurd (cc)
range-cause cx ids s latest (fault.PackageRules field name) chosen fine of_call (inr bad) = absurd bad
range-cause cx ids s latest (fault.WorkspaceRules field) chosen fine of_call (inl m) = absurd (cc)
range-cause cx ids s latest (fault.WorkspaceRules field) chosen fine of_call (inr bad) = absurd bad
range-cause cx ids s latest (fault.ExcludedInGroup feature name) chosen fine of_call (inl m) = absurd (cc)
range-cause cx ids s latest (fault.ExcludedInGroup feature name) chosen fine of_call (inr bad) = absurd bad
range-cause cx ids s latest (fault.Version e) chosen fine of_call (inl m) = absurd (cc)
range-cause cx ids s latest (fault.Version e) chosen fine of_call (inr bad) = absurd bad
range-cause cx ids s latest (fault.Range e) chosen fine of_call (inl m) = absurd (cc)
range-cause cx ids s latest (fault.Range e) chosen fine of_call (inr bad) = inr (record { ids = ids; input = s; chosen = chosen; tables = fine; of_call = of_call; bad = bad })
range-cause cx ids s latest (fault.TooManyQuestions name tally) chosen fine of_call (inl e) = absurd (cc)
range-cause cx ids s latest (fault.TooManyQuestions name tally) chosen fine of_call (inr bad) = absurd bad
range-cause cx ids s latest fault.TooManyRuns chosen fine of_call (inl e) = absurd (cc)
range-cause cx ids s latest fault.TooManyRuns chosen fine of_call (inr bad) = absurd bad

-- the numbers of runs of packages and of their views
pub counts-same : (packages : List PlanPackage) → run_counts (map plan_package_view packages) ≡ counts_in packages
counts-same [] = refl
counts-same (k ∷ ks) = ap (λ l. count_in k ∷ l) (counts-same ks)

-- too many runs are a cause to refuse the plan
pub places-cause : (cx : ContextRecord) (ids : List ℕ) (s : PlanInput) (stable latest : Option Version) (packages : List PlanPackage) (e : PlacesFault) → AreChosen cx ids → table_fault cx ids ≡ None → IsInputOf cx ids s
    → AllZip (IsPackageOf cx s latest) ids (map plan_package_view packages) → stable ≡ latest → (e ≡ places.Memory) ⊎ ((e ≡ places.TooManyRuns) × HasTooMany s (counts_in packages) stable) → (of_places e ≡ fault.Memory) ⊎ IsCause cx latest (of_places e)
places-cause cx ids s stable latest packages places.Memory chosen fine of_call each newest h = inl refl
places-cause cx ids s stable latest packages places.TooManyRuns chosen fine of_call each newest (inl e) = absurd (cc)
places-cause cx ids s stable latest packages places.TooManyRuns chosen fine of_call each newest (inr h) = inr (record {
  ids = ids;
  input = s;
  packages = map plan_package_view packages;
  chosen = chosen;
  tables = fine;
  of_call = of_call;
  each = each;
  many = subst (λ counts. HasTooMany s counts latest) (sym (counts-same packages)) (subst (HasTooMany s (counts_in packages)) newest h.1);
})

-- a plan that doesn't have too many runs has at most 4294967295 places
pub few-places : (s : PlanInput) (counts : List ℕ) (latest : Option Version) (entries : List PlanEntry) → ArePlaces s counts latest entries → ¬ HasTooMany s counts latest → length entries < 2 ^ 32
few-places s counts latest entries places few =
    elim (cases_lt (length entries) (2 ^ 32)) [
      | inl lt ↦ lt
      | inr many ↦ absurd (few (places.0, places.1, record { entries = entries; increasing = places.2.increasing; sound = places.2.sound; many = many }))
    ]

-- notices in the order of the parts
pub all-told : (old features range left n1 n2 n3 : List Notice) (of_features of_left : List Note) → n1 ≡ old ++ features → n2 ≡ n1 ++ range → n3 ≡ n2 ++ left → map note_of features ≡ of_features → map note_of left ≡ of_left
    → map note_of n3 ≡ map note_of old ++ (of_features ++ (map note_of range ++ of_left))
all-told old features range left n1 n2 n3 of_features of_left e1 e2 e3 told_features told =
    ap (map note_of) (e3 ∙ ap (λ l. l ++ left) (e2 ∙ ap (λ l. l ++ range) e1) ∙ append_assoc (old ++ features) range left ∙ append_assoc old features (range ++ left))
    ∙ map-append note_of old (features ++ (range ++ left))
    ∙ ap (λ l. map note_of old ++ l) (map-append note_of features (range ++ left) ∙ ap (λ l. map note_of features ++ l) (map-append note_of range left ∙ ap (λ l. map note_of range ++ l) told))
    ∙ ap (λ l. map note_of old ++ (l ++ (map note_of range ++ of_left))) told_features
