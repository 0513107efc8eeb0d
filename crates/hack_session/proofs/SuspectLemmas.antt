-- Lemmas on the parts with failed runs, and on what came of a part's runs.
use Rattle.std.proofs.Common.{◌≡◌, ◌≢◌, ℕ, List, [], ◌∷◌, ◌++◌, get_or, map, refl, sym, ◌∙◌, ap, subst, arith, Bool, true, false, ◌⊎◌, inl, inr, ◌↔◌, All, AllPairs, Contains, Some, None, append_assoc, Result, Ok, Err, IfOk}
use Rattle.std.proofs.lemmas.List.Elements.{Contains-get_or, Contains-append_left, Contains-append_right, Contains-append_cases, Contains-push, Contains-push_cases}
use Rattle.std.proofs.lemmas.List.Quantifiers.{all_pairs_push}
use Rattle.hack_plan.specs.View.{PlanView}
use Rattle.hack_plan.specs.declared.places.PlanEntry.{PlanEntry}
use Rattle.hack_session.specs.declared.step.Handed.{Handed}
use Rattle.hack_session.specs.declared.step.Outcome.{Outcome}
use Rattle.hack_session.specs.declared.step.Outcome.TheVariants.{Passed, Failed}
use Rattle.hack_session.specs.declared.suspects.Part.{Part}
use Rattle.std.specs.Prelude.{slice_get}
use Rattle.std.specs.List.{slice_index_or}
use Rattle.std.proofs.lemmas.List.{map-append}
use Rattle.hack_suspects.specs.declared.suspect.RunOutcome.{RunOutcome as Ran}
use Rattle.hack_suspects.specs.Suspects.{outcomes_of, RunOutcome as Run_outcome}
use Rattle.hack_session.specs.Histories.{Course}
use Rattle.hack_session.specs.Suspects.{AreExplained, ExplainedView, IsExplained, run_outcome_of, part_explained, settings_in, AreDistinctParts, FailsBefore, HasFailedRun, part_at, part_where, part_of, plan_entry_of}
use Rattle.hack_session.specs.ListLines.{is_failed}
use Rattle.hack_session.specs.Internal.{AddsOnce}

bools-differ : {b : Bool} → b ≡ true → b ≡ false → ⊥
bools-differ p q = let e : true ≡ false = sym p ∙ q in cc

failed-is : (o : Outcome) → is_failed o ≡ true → o ≡ Failed
failed-is Passed e = absurd (bools-differ e refl)
failed-is Failed e = refl

empty-none : {X : Type 0} (x : X) → Contains [] x → ⊥
empty-none x h = omega (arith, h.1)

-- a step alone is a failed run of a part
pub failed-single : (plan : PlanView) (h : Handed) (part : Part) → is_failed h.outcome ≡ true → part_at plan h ≡ Some part → HasFailedRun plan (h ∷ []) part
failed-single plan h part failed of = record { by = h; among = Contains-push [] h; failed = failed-is h.outcome failed; of = of }

pub single-failed : (plan : PlanView) (h : Handed) (part : Part) → HasFailedRun plan (h ∷ []) part → (is_failed h.outcome ≡ true) × (part_at plan h ≡ Some part)
single-failed plan h part f =
    elim (Contains-push_cases [] h f.by f.among) [
      | inl none ↦ absurd (empty-none f.by none)
      | inr e ↦ (ap (λ (x : Handed). is_failed x.outcome) e ∙ ap is_failed f.failed, ap (part_at plan) e ∙ f.of)
    ]

-- failed runs among earlier and later steps
pub failed-before : (plan : PlanView) (xs ys : List Handed) (part : Part) → HasFailedRun plan xs part → HasFailedRun plan (xs ++ ys) part
failed-before plan xs ys part f = record { by = f.by; among = Contains-append_left xs ys f.by f.among; failed = f.failed; of = f.of }

pub failed-after : (plan : PlanView) (xs ys : List Handed) (part : Part) → HasFailedRun plan ys part → HasFailedRun plan (xs ++ ys) part
failed-after plan xs ys part f = record { by = f.by; among = Contains-append_right xs ys f.by f.among; failed = f.failed; of = f.of }

pub failed-cases : (plan : PlanView) (xs ys : List Handed) (part : Part) → HasFailedRun plan (xs ++ ys) part → HasFailedRun plan xs part ⊎ HasFailedRun plan ys part
failed-cases plan xs ys part f =
    elim (Contains-append_cases xs ys f.by f.among) [
      | inl a ↦ inl (record { by = f.by; among = a; failed = f.failed; of = f.of })
      | inr b ↦ inr (record { by = f.by; among = b; failed = f.failed; of = f.of })
    ]

-- the parts that are listed are those of one more step
pub parts-more : (plan : PlanView) (before : List Handed) (h : Handed) (old new : List Part) → ((part : Part) → Contains new part ↔ (Contains old part ⊎ HasFailedRun plan (h ∷ []) part)) → ((part : Part) → Contains old part ↔ HasFailedRun plan before part)
    → (part : Part) → Contains new part ↔ HasFailedRun plan (before ++ h ∷ []) part
parts-more plan before h old new more are part = (
  λ c. elim ((more part).0 c) [ inl o ↦ failed-before plan before (h ∷ []) part ((are part).0 o) | inr f ↦ failed-after plan before (h ∷ []) part f ],
  λ f. elim (failed-cases plan before (h ∷ []) part f) [ inl b ↦ (more part).1 (inl ((are part).1 b)) | inr g ↦ (more part).1 (inr g) ],
)

-- no step, and no part
pub no-parts : (plan : PlanView) (parts : List Part) → parts ≡ [] → AllPairs (FailsBefore plan []) parts × ((part : Part) → Contains parts part ↔ HasFailedRun plan [] part)
no-parts plan [] e = (λ i j d l m. absurd (omega arith), λ part. (λ c. absurd (empty-none part c), λ f. absurd (empty-none f.by f.among)))
no-parts plan (p ∷ parts) e = absurd (cc)

-- the part that is added is that of a failed step
pub parts-added : (plan : PlanView) (h : Handed) (added : Part) (old new : List Part) → is_failed h.outcome ≡ true → part_at plan h ≡ Some added → ((part : Part) → Contains new part ↔ (Contains old part ⊎ (added ≡ part)))
    → (part : Part) → Contains new part ↔ (Contains old part ⊎ HasFailedRun plan (h ∷ []) part)
parts-added plan h added old new failed of more part = (
  λ c. elim ((more part).0 c) [ inl o ↦ inl o | inr e ↦ inr (failed-single plan h part failed (of ∙ ap Some e)) ],
  λ s. elim s [ inl o ↦ (more part).1 (inl o) | inr f ↦ (more part).1 (inr (same added part (sym of ∙ (single-failed plan h part f).1))) ],
)
  where
    same : (a b : Part) → Some a ≡ Some b → a ≡ b
    same a b e = cc

-- what failed before something else did so among more steps
failed-first : (plan : PlanView) (xs ys : List Handed) (one other : Part) → FailsBefore plan xs one other → FailsBefore plan (xs ++ ys) one other
failed-first plan xs ys one other f = record { before = f.before; after = f.after ++ ys; split = ap (λ l. l ++ ys) f.split ∙ append_assoc f.before f.after ys; failed = f.failed; not = f.not }

-- the parts after one more step are in the order of their first failures
pub ordered-more : (plan : PlanView) (before : List Handed) (h : Handed) (old new : List Part) → AddsOnce old new → ((part : Part) → Contains old part ↔ HasFailedRun plan before part)
    → AllPairs (FailsBefore plan before) old → AllPairs (FailsBefore plan (before ++ h ∷ [])) new
ordered-more plan before h old new adds are ordered =
    elim adds [
      | inl same ↦ subst (AllPairs Earlier) (sym same) kept
      | inr more ↦ subst (AllPairs Earlier) (sym more.1) (all_pairs_push Earlier old more.0 kept
          (λ k d lt. record { before = before; after = h ∷ []; split = refl; failed = (are (get_or old k d)).0 (Contains-get_or old k d lt); not = λ f. more.2 ((are more.0).1 f) }))
    ]
  where
    Earlier : Part → Part → Type 0
    Earlier = FailsBefore plan (before ++ h ∷ [])

    kept : AllPairs Earlier old
    kept = λ i j d l m. failed-first plan before (h ∷ []) (get_or old i d) (get_or old j d) (ordered i j d l m)

-- parts in that order are listed once
distinct-by : (plan : PlanView) (handed : List Handed) (parts : List Part) → AllPairs (FailsBefore plan handed) parts → AreDistinctParts parts
distinct-by plan handed parts ordered = λ i j d l m e. let f = ordered i j d l m in f.not (subst (HasFailedRun plan f.before) e f.failed)

-- a step of another part, or of none, adds nothing
pub no-entry : (plan : PlanView) (h : Handed) (part : Part) → plan_entry_of plan h.step ≡ None → part_at plan h ≢ Some part
no-entry plan h part none e = let f : None ≡ Some part = sym (ap part_where none) ∙ e in cc

pub other-entry : (plan : PlanView) (h : Handed) (q : PlanEntry) (part : Part) → plan_entry_of plan h.step ≡ Some q → part_of q ≢ Some part → part_at plan h ≢ Some part
other-entry plan h q part is other e = other (sym (ap part_where is) ∙ e)

-- what came of one more run is added
pub outcome-pushed : (plan : PlanView) (part : Part) (q : PlanEntry) (outcome : Outcome) (old new : List Ran) (run : Ran) → new ≡ old ++ run ∷ [] → run.on.items ≡ slice_index_or (settings_in (slice_get plan.packages part.package)) q.rank [] → run.failed ≡ is_failed outcome
    → outcomes_of new ≡ outcomes_of old ++ run_outcome_of plan part q outcome ∷ []
outcome-pushed plan part q outcome old new run more on failed =
    let plain : Ran → Run_outcome = λ r. record { on = r.on.items; failed = r.failed } in
    let row : Run_outcome → List Run_outcome = λ o. outcomes_of old ++ o ∷ [] in
    ap outcomes_of more ∙ map-append plain old (run ∷ [])
    ∙ ap (λ (l : List Bool). row (record { on = l; failed = run.failed })) on
    ∙ ap (λ (b : Bool). row (record { on = slice_index_or (settings_in (slice_get plan.packages part.package)) q.rank []; failed = b })) failed

pub if_ok_both : {X E : Type 0} (P Q R : X → Type 0) (r : Result X E) → ((x : X) → P x → Q x → R x) → IfOk r P → IfOk r Q → IfOk r R
if_ok_both P Q R (Ok x) f p q = f x p q
if_ok_both P Q R (Err e) f p q = p

-- the parts that are explained are those that failed
pub explained-by : (t : Course) (strength : ℕ) (parts slice : List Part) (all : List ExplainedView) → slice ≡ parts
    → AllPairs (FailsBefore t.plan t.handed) parts → ((part : Part) → Contains parts part ↔ HasFailedRun t.plan t.handed part) → map part_explained all ≡ slice → All (IsExplained t.plan t.handed strength) all → AreExplained t strength all
explained-by t strength parts slice all s ordered exactly same each =
    let is : parts ≡ map part_explained all = sym (same ∙ s) in
    record {
      once = subst AreDistinctParts is (distinct-by t.plan t.handed parts ordered);
      ordered = subst (AllPairs (FailsBefore t.plan t.handed)) is ordered;
      exactly = λ part. subst (λ l. Contains l part ↔ HasFailedRun t.plan t.handed part) is (exactly part);
      explained = each;
    }
