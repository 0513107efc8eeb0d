-- Too many runs show in numbers of which the packages have at least as many.
use Rattle.std.proofs.Common.{◌≡◌, ◌⊎◌, ◌≤◌, ℕ, List, [], ◌∷◌, ◌++◌, length, get_or, map, Bool, true, false, Option, Some, inl, inr, refl, sym, subst, arith, All, IsTrue, None}
use Rattle.std.specs.List.{AllZip}
use Rattle.std.proofs.Math.Seq.{get_or-append_seam}
use Rattle.std.proofs.lemmas.Bool.{cases_lt}
use Rattle.std.proofs.lemmas.List.{get_or_past, get_or_append_left, length_push}
use Rattle.std.proofs.lemmas.List.Elements.{All-weaker, AllZip-get_or}
use Rattle.hack_load.specs.Contexts.{ContextRecord, package_at, features_at}
use Rattle.hack_load.specs.GivenFeatures.{passed_for}
use Rattle.hack_load.specs.declared.features.Features.{Features}
use Rattle.hack_metadata.specs.Records.{PackageRecord}
use Rattle.hack_planner.specs.Candidates.{candidates}
use Rattle.hack_planner.specs.ContextMembers.{AreChosen}
use Rattle.hack_plan.specs.Entries.{HasRun, HasTooMany, IsAdmissible}
use Rattle.hack_plan.specs.declared.places.PlanEntry.{PlanEntry}
use Rattle.hack_plan.specs.declared.versions.PlanInput.{PlanInput}
use Rattle.hack_plan.specs.View.{PackageView}
use Rattle.hack_versions.specs.declared.version.Version.{Version}
use Rattle.hack_planner.specs.Calls.{IsInputOf, given_path, rules_at, table_fault}
use Rattle.hack_planner.specs.InternalUses.{IsPlannedAs, IsRight, id_of}
use Rattle.hack_planner.specs.declared.uses.Chosen.{Chosen}
use Rattle.hack_planner.specs.InternalLeastPlaces.{AreOver, HasAtLeast, HasRunsAtLeast}
use Rattle.hack_planner.specs.CallPlan.{AreTooManyRuns, IsCause, run_counts}
use Rattle.hack_planner.specs.Internal.{HasRunsFault}
use Rattle.hack_planner.specs.declared.fault.PlanFault.{PlanFault}
use Rattle.hack_planner.specs.declared.fault.PlanFault.TheVariants as fault
use Rattle.hack_planner.proofs.PlanSampleLemmas.{sample-cause}
use Rattle.hack_planner.proofs.UseLemmas.{packages-of}

-- a package of at least so many runs, as it may stand in a plan
pub planned-at_least : (cx : ContextRecord) (one : Chosen) (least : ℕ) (pkg : PackageRecord) (features : Features) → package_at cx (id_of one) ≡ Some pkg → features_at cx (id_of one) ≡ Some features
    → IsTrue one.is_used → HasRunsAtLeast (rules_at cx pkg features) pkg features least → HasAtLeast cx one least
planned-at_least cx one least pkg features known loaded used h = record {
  planned_as = record {
    name = pkg.name;
    manifest_path = given_path cx.args.no_manifest_path cx.current_dir (Some pkg);
    features = passed_for cx (Some (id_of one));
    candidates = candidates (rules_at cx pkg features) features;
    runs = h.runs;
    settings = [];
  };
  has = record {
    pkg = pkg;
    features = features;
    known = known;
    loaded = loaded;
    name = refl;
    path = refl;
    given = refl;
    candidates = inl refl;
    runs = λ _. h.are_runs;
    unused = λ none. absurd (none used);
  };
  enough = h.enough;
}

-- a package in a plan has at least its runs
pub planned-itself : (cx : ContextRecord) (one : Chosen) (k : PackageView) (n : ℕ) → n ≡ length k.runs → IsPlannedAs cx one k → HasAtLeast cx one n
planned-itself cx one k n is has = record { planned_as = k; has = has; enough = omega (arith, is) }

-- ---- numbers of which others are at least as great, place by place

abbrev Fewer : List ℕ → List ℕ → Type 0
Fewer least counts = (p : ℕ) → get_or least p 0 ≤ get_or counts p 0

-- one number more
pub fewer-push : (counts : List ℕ) (n : ℕ) → Fewer counts (counts ++ n ∷ [])
fewer-push counts n p =
    elim (cases_lt p (length counts)) [
      | inl lt ↦ omega (arith, get_or_append_left counts (n ∷ []) 0 p lt)
      | inr past ↦ omega (arith, get_or_past counts p 0 past)
    ]

-- the next number
pub fewer-next : (all new counts : List ℕ) (n : ℕ) → new ≡ all ++ n ∷ [] → n ≡ get_or counts (length all) 0 → Fewer all counts → Fewer new counts
fewer-next all new counts n pushed is before p = subst (λ ns. get_or ns p 0 ≤ get_or counts p 0) (sym pushed) at
  where
    at : get_or (all ++ n ∷ []) p 0 ≤ get_or counts p 0
    at = elim (cases_lt p (length all)) [
      | inl lt ↦ omega (arith, get_or_append_left all (n ∷ []) 0 p lt, before p)
      | inr past ↦ elim (cases_lt (length all) p) [
        | inl beyond ↦ omega (arith, get_or_past (all ++ n ∷ []) p 0 (omega (arith, beyond, length_push all n)))
        | inr within ↦
            let e : length all ≡ p = omega arith in
            subst (λ q. get_or (all ++ n ∷ []) q 0 ≤ get_or counts q 0) e (omega (arith, get_or-append_seam all n [] 0, is))
      ]
    ]

fewer-at : (least counts : List ℕ) (p : ℕ) → AllZip (λ least n. least ≤ n) least counts → get_or least p 0 ≤ get_or counts p 0
fewer-at least counts p h =
    elim (cases_lt p (length least)) [
      | inl lt ↦ AllZip-get_or (λ least n. least ≤ n) least counts p 0 0 h lt
      | inr past ↦ omega (arith, get_or_past least p 0 past)
    ]

run-more : (whole : Bool) (s : PlanInput) (least counts : List ℕ) (steps : List Version) (q : PlanEntry) → Fewer least counts → HasRun whole s least steps q → HasRun whole s counts steps q
run-more false s least counts steps q h run = (run.0, run.1, run.2, omega (arith, run.3, h run.0))
run-more true s least counts steps q h run = run

-- where there are too many runs of fewer, there are too many
pub many-more : (s : PlanInput) (least counts : List ℕ) (stable : Option Version) → Fewer least counts → HasTooMany s least stable → HasTooMany s counts stable
many-more s least counts stable h many = (
  many.0,
  many.1,
  record {
    entries = many.2.entries;
    increasing = many.2.increasing;
    sound = All-weaker (IsAdmissible s least many.0) (IsAdmissible s counts many.0) (λ q is. record { run = run-more s.as_cargo s least counts many.0 q h is.run; slot = is.slot }) many.2.entries many.2.sound;
    many = many.2.many;
  },
)

-- ---- too many runs of what the packages have at least

-- packages as they may stand in a plan, of which each has at least so many runs
in-plan : (cx : ContextRecord) (chosen : List Chosen) (counts : List ℕ) → AllZip (HasAtLeast cx) chosen counts → (packages : List PackageView) × AllZip (IsPlannedAs cx) chosen packages × AllZip (λ least n. least ≤ n) counts (run_counts packages)
in-plan cx [] [] h = ([], tt, tt)
in-plan cx [] (n ∷ ns) h = absurd h
in-plan cx (x ∷ xs) [] h = absurd h
in-plan cx (x ∷ xs) (n ∷ ns) h =
    let rest = in-plan cx xs ns h.1 in
    (h.0.planned_as ∷ rest.0, (h.0.has, rest.1), (h.0.enough, rest.2))

-- they are a cause to refuse the plan
over-cause : (cx : ContextRecord) (s : PlanInput) (latest : Option Version) (chosen : List Chosen) → AreChosen cx (map id_of chosen) → table_fault cx (map id_of chosen) ≡ None → IsInputOf cx (map id_of chosen) s → All (IsRight cx s latest) chosen
    → AreOver cx chosen s latest → AreTooManyRuns cx latest
over-cause cx s latest chosen are fine of_call right over =
    let packages = in-plan cx chosen over.counts over.each in
    record {
      ids = map id_of chosen;
      input = s;
      packages = packages.0;
      chosen = are;
      tables = fine;
      of_call = of_call;
      each = packages-of cx s latest chosen packages.0 right packages.1;
      many = many-more s over.counts (run_counts packages.0) latest (λ p. fewer-at over.counts (run_counts packages.0) p packages.2) over.many;
    }

-- what chosen packages are refused for is a cause
pub chosen-cause : (cx : ContextRecord) (s : PlanInput) (latest : Option Version) (chosen : List Chosen) (e : PlanFault) → AreChosen cx (map id_of chosen) → table_fault cx (map id_of chosen) ≡ None → IsInputOf cx (map id_of chosen) s → All (IsRight cx s latest) chosen
    → (e ≡ fault.Memory) ⊎ (HasRunsFault cx chosen e ⊎ ((e ≡ fault.TooManyRuns) × AreOver cx chosen s latest)) → (e ≡ fault.Memory) ⊎ IsCause cx latest e
chosen-cause cx s latest chosen e are fine of_call right (inl m) = inl m
chosen-cause cx s latest chosen e are fine of_call right (inr (inl bad)) = sample-cause cx s latest chosen e are fine of_call right (inr bad)
chosen-cause cx s latest chosen e are fine of_call right (inr (inr over)) = inr (subst (IsCause cx latest) (sym over.0) (over-cause cx s latest chosen are fine of_call right over.1))
