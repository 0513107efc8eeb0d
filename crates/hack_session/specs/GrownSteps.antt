-- Runs on a plan that has grown since: what they did is what they would do on the grown plan.
use Rattle.std.specs.Prelude.{ℕ, ◌≡◌, ◌+◌, Bool, true, false, All, List, [], ◌∷◌, codes, length, Option, Some, None, IsSomeAnd, Result, slice_get, if◌then◌else◌}
use Rattle.std.proofs.Common.{refl, sym, ap, ◌∙◌, subst, arith}
use Rattle.std.proofs.lemmas.Bool.{false≢true}
use Rattle.std.proofs.lemmas.List.Elements.{All-tail}
use Rattle.std.proofs.lemmas.Option.{get_or_from_slice_get, slice_get_within}
use Rattle.hack_process.specs.declared.fault.ProcessFault.{ProcessFault}
use Rattle.hack_process.specs.CommandTexts.{text_of}
use Rattle.hack_plan.specs.declared.places.PlanEntry.{PlanEntry}
use Rattle.hack_plan.specs.View.{PlanView}
use Rattle.hack_plan.specs.Plans.{AreRunsOfPackages, IsRunOf}
use Rattle.hack_plan.specs.Growth.{IsGrown}
use Rattle.hack_plan.specs.GrowthLaws.{same_cleaning, same_command, same_entry, same_name}
use Rattle.hack_session.specs.declared.step.Step.{Step}
use Rattle.hack_session.specs.declared.step.Step.TheVariants.{Prepare, Skip, Run}
use Rattle.hack_session.specs.declared.step.Handed.{Handed}
use Rattle.hack_session.specs.Statuses.{place_status, shown_total, status_text, told_name}
use Rattle.hack_session.specs.StepOutput.{Manner, group_said}
use Rattle.hack_session.specs.StepEffects.{DoesAll, DoesTasks, Performed, Scene, State, Task, cleaning_task, is_run, own_task, run_tasks, task_of}

-- each step is a run
abbrev pub AreRuns : List Handed → Type 0
AreRuns steps = All (λ h. is_run h.step ≡ true) steps

-- what both plans have at a place
some-and : {X : Type 0} (o n : Option X) (P Q : X → Type 0) → ((x : X) → o ≡ Some x → n ≡ Some x) → ((x : X) → o ≡ Some x → P x → Q x) → IsSomeAnd o P → IsSomeAnd n Q
some-and None n P Q same step there = absurd there
some-and (Some x) n P Q same step there = subst (λ o. IsSomeAnd o Q) (sym (same x refl)) (step x refl there)

run-at : (plan : PlanView) (place : ℕ) (q : PlanEntry) → AreRunsOfPackages plan.packages plan.entries → slice_get plan.entries place ≡ Some q → IsRunOf plan.packages q.package q.rank
run-at plan place q runs there =
    subst (λ (e : PlanEntry). IsRunOf plan.packages e.package e.rank) (get_or_from_slice_get plan.entries place q q there) (runs place q (slice_get_within plan.entries place q there))

no-total : (grows : Bool) (total : ℕ) → grows ≡ true → (if grows then None else Some total) ≡ None
no-total true total is = refl
no-total false total is = absurd (false≢true is)

module _ (old new : PlanView) (grown : IsGrown old new) (grows : old.call.grows ≡ true) where
  same-total : shown_total new ≡ shown_total old
  same-total = no-total new.call.grows (length new.entries) (ap (λ call. call.grows) grown.call ∙ grows) ∙ sym (no-total old.call.grows (length old.entries) grows)

  module _ (m : Manner) (place : ℕ) (q : PlanEntry) (run : IsRunOf old.packages q.package q.rank) where
    same-status : (verb : List ℕ) → place_status verb m.verbose new place q ≡ place_status verb m.verbose old place q
    same-status verb = λ i. status_text verb (text_of m.verbose ((grown.call i).dir) (same_command old new grown q run i)) (told_name m.verbose (same_name old new grown q.package i)) (place + 1) (same-total i)

    same-own : own_task m new place q ≡ own_task m old place q
    same-own = λ i. task_of (group_said m (same-status (codes "running") i)) false ((grown.call i).dir) (same_command old new grown q run i)

    same-tasks : run_tasks m new place q ≡ run_tasks m old place q
    same-tasks = λ i. if (grown.call i).clean_per_run then cleaning_task m ((grown.call i).dir) (same_cleaning old new grown q.package i) ∷ same-own i ∷ [] else same-own i ∷ []

  module _ (tells : Type 0) (keep_going : Bool) (m : Manner) (runs : AreRunsOfPackages old.packages old.entries) where
    performed-grown : (step : Step) (came : Result (Unit {0}) ProcessFault) (a b : Scene) → is_run step ≡ true → Performed tells m old step came a b → Performed tells m new step came a b
    performed-grown (Prepare preparation) came a b is did = absurd (false≢true is)
    performed-grown (Skip place) came a b is did = absurd (false≢true is)
    performed-grown (Run place) came a b is did = some-and (slice_get old.entries place) (slice_get new.entries place) _ _
        (λ q there. same_entry old new grown place q there)
        (λ q there did. (did.0, did.1, subst (λ (tasks : List Task). DoesTasks tells tasks came (record a { streams = did.0 }) b) (sym (same-tasks m place q (run-at old place q runs there))) did.2))
        did

    -- what runs did on a plan they did on the plan that it has become
    pub done_grown : (steps : List Handed) (a b : State) → AreRuns steps → DoesAll tells keep_going m old steps a b → DoesAll tells keep_going m new steps a b
    done_grown [] a b are did = did
    done_grown (h ∷ steps) a b are did = (
      did.0,
      (did.1.0, did.1.1, performed-grown h.step did.1.0 a.scene did.1.1 (are 0 h (omega arith)) did.1.2, did.1.3),
      done_grown steps did.0 b (All-tail (λ (x : Handed). is_run x.step ≡ true) h steps are) did.2,
    )
