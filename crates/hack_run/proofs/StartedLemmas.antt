-- Which commands were started, by what came of their steps.
use Rattle.std.specs.Prelude.{ℕ, ◌≡◌, ◌≢◌, ◌+◌, ◌^◌, ◌<◌, ◌||◌, Bool, true, false, List, [], ◌∷◌, ◌++◌, All, IsSomeAnd, Option, None, Some, Result, Ok, Err, length, map, nat_lt, not, slice_get}
use Rattle.std.specs.List.{AllZip, flat_map}
use Rattle.std.proofs.Common.{refl, sym, ap, ◌∙◌, subst, inl, inr, arith}
use Rattle.std.proofs.lemmas.List.{append_assoc, append-nil}
use Rattle.std.proofs.lemmas.Bool.{lt-ltb}
use Rattle.std.proofs.lemmas.List.Elements.{All-append, All-cons, All-contains, All-head, All-nil, All-tail}
use Rattle.hack_process.specs.Calls.{Answer, Asked as Question, Call, IsSuccess}
use Rattle.hack_process.specs.Faults.{GotAnswer, ReportsAnswer}
use Rattle.hack_process.specs.declared.caller.End.{End}
use Rattle.hack_process.specs.declared.caller.End.TheVariants.{Status, NeverStarted}
use Rattle.hack_process.specs.declared.fault.ProcessFault.{ProcessFault}
use Rattle.hack_process.specs.declared.fault.ProcessFault.TheVariants.{Memory, EmptyProgram, NeverExecuted, NotText, Failed as ByFailure}
use Rattle.hack_plan.specs.Commands.{clean_command}
use Rattle.hack_plan.specs.View.{PlanView}
use Rattle.hack_plan.specs.declared.parts.Preparation.TheVariants.{Toolchain, Lockfile, Clean}
use Rattle.hack_plan.specs.declared.places.PlanEntry.{PlanEntry}
use Rattle.hack_bisect.specs.Searches.{IsBeside, Trial as Tried}
use Rattle.hack_bisect.specs.declared.tries.TrialOutcome.TheVariants as outcome
use Rattle.hack_conflicts.specs.Runs.{Run as Asked}
use Rattle.hack_conflicts.specs.declared.tried.BuildOutcome.{BuildOutcome as BuildOutcome}
use Rattle.hack_conflicts.specs.declared.tried.BuildOutcome.TheVariants as build
use Rattle.hack_culprits.specs.Built.{AreHanded, Made, Tells, step_at, step_outcome}
use Rattle.hack_msrv.specs.Searches.{AreSearches, AreTried, AreUnbroken, IsSearchOf, IsSearched, IsTrialAt, outcome_of, uses_of}
use Rattle.hack_msrv.specs.Trials.{AreTrials, ComesTo, Trial, failed_step, trial_steps}
use Rattle.hack_msrv.specs.declared.found.Found.{Found}
use Rattle.hack_msrv.specs.declared.found.Found.TheVariants.{Untried, Least, Nowhere, Broken as FoundBroken}
use Rattle.hack_msrv.specs.declared.trial.Came.{Came}
use Rattle.hack_msrv.specs.declared.trial.Came.TheVariants.{Passed as TrialPassed, Failed as TrialFailed, Broken}
use Rattle.hack_session.specs.Histories.{HasPassed, passed_step}
use Rattle.hack_session.specs.StepCalls.{number_at}
use Rattle.hack_session.specs.StepEffects.{Does, DoesAll, DoesTask, DoesTasks, EnsuresToolchain, Performed, Runs, Scene, cleaning_task, State, Task, TriesFirst}
use Rattle.hack_session.specs.StepOutput.{Manner}
use Rattle.hack_session.specs.declared.step.Handed.{Handed}
use Rattle.hack_session.specs.declared.step.Outcome.TheVariants.{Passed, Failed}
use Rattle.hack_session.specs.declared.step.Step.{Step}
use Rattle.hack_session.specs.declared.step.Step.TheVariants.{Prepare, Skip, Run}
use Rattle.hack_side.specs.Ends.{has_ended, is_failure}
use Rattle.hack_versions.specs.declared.version.Version.{Version}
use Rattle.hack_culprits.specs.declared.fault.CulpritsFault.{CulpritsFault}
use Rattle.hack_hunt.specs.Hunts.{AreHunted, AreHunts, IsBegun, IsHuntAt, RanHunts, Spot, left_of}
use Rattle.hack_hunt.specs.declared.hunt.Hunted.{Hunted}
use Rattle.hack_load.specs.Contexts.{ContextRecord}
use Rattle.hack_run.specs.Started.{MakesStarted, WasStarted}

-- ---- calls

pub none_made : (calls : List Call) → MakesStarted calls calls
none_made calls = record { made = []; grown = sym (append-nil calls); such = All-nil WasStarted }

pub more_made : (a b c : List Call) → MakesStarted a b → MakesStarted b c → MakesStarted a c
more_made a b c p q = record {
  made = p.made ++ q.made;
  grown = q.grown ∙ ap (λ l. l ++ q.made) p.grown ∙ append_assoc a p.made q.made;
  such = All-append WasStarted p.made q.made p.such q.such;
}

one-made : (P : Answer → Type 0) (asked : Question) (old new : List Call) → ((a : Answer) → P a → WasStarted (record { asked = asked; answer = a })) → GotAnswer P asked old new → MakesStarted old new
one-made P asked old new started g = record { made = record { asked = asked; answer = g.0 } ∷ []; grown = g.2; such = All-cons WasStarted (record { asked = asked; answer = g.0 }) [] (started g.0 g.1) (All-nil WasStarted) }

unstarted-fails : (e : End) → IsSuccess e → e ≡ NeverStarted → ⊥
unstarted-fails e s n = let x : NeverStarted ≡ Status _ = sym n ∙ s in cc

passed-steps : (steps : List Step) → All HasPassed (map passed_step steps)
passed-steps [] = All-nil HasPassed
passed-steps (step ∷ steps) = All-cons HasPassed (passed_step step) (map passed_step steps) refl (passed-steps steps)

-- another error was kept than that a command failed: then the call is at its end
kept-open : (m : Manner) (f : ProcessFault) (old new : State) (mid : Scene) → old.refused ≡ 0 → is_failure f ≡ false → new ≡ record (record old { scene = mid }) { kept = Some f } → has_ended new.kept new.refused ≡ false → ⊥
kept-open m f old new mid zero other is quiet =
    let ended : has_ended (Some f) old.refused ≡ false = subst (λ (s : State). has_ended s.kept s.refused ≡ false) is quiet in
    let fails : not (is_failure f) ≡ false = subst (λ (n : ℕ). (nat_lt 0 n || not (is_failure f)) ≡ false) zero ended in
    let e : true ≡ false = ap not (sym other) ∙ fails in cc

-- ---- tasks

module _ (tells : Type 0) (t : tells) where
  task-passed : (task : Task) (old new : Scene) → DoesTask tells task (Ok tt) old new → MakesStarted old.calls new.calls
  task-passed task old new (inl m) = absurd (cc)
  task-passed task old new (inr p) = one-made (λ answer. IsSuccess answer.end) task.asked old.calls new.calls (λ a s cap. unstarted-fails a.end s) (p.1.1 t)

  task-failed : (task : Task) (f : ProcessFault) (old new : Scene) → is_failure f ≡ true → DoesTask tells task (Err f) old new → MakesStarted old.calls new.calls
  task-failed task Memory old new is p = absurd (cc)
  task-failed task EmptyProgram old new is p = absurd (cc)
  task-failed task (NeverExecuted text) old new is p = absurd (cc)
  task-failed task (NotText text) old new is p = absurd (cc)
  task-failed task (ByFailure failure) old new is (inl m) = absurd (cc)
  task-failed task (ByFailure failure) old new is (inr p) =
      one-made (ReportsAnswer failure) task.asked old.calls new.calls (λ a r cap e. p.1.0.2.1 (r.ended ∙ e)) (p.1.0.3 t)

  tasks-passed : (tasks : List Task) (old new : Scene) → DoesTasks tells tasks (Ok tt) old new → MakesStarted old.calls new.calls
  tasks-passed [] old new p = subst (λ (s : Scene). MakesStarted old.calls s.calls) (sym p.1) (none_made old.calls)
  tasks-passed (task ∷ tasks) old new (inl p) = absurd (cc)
  tasks-passed (task ∷ tasks) old new (inr p) = more_made old.calls p.0.calls new.calls (task-passed task old p.0 p.1) (tasks-passed tasks p.0 new p.2)

  tasks-failed : (tasks : List Task) (f : ProcessFault) (old new : Scene) → is_failure f ≡ true → DoesTasks tells tasks (Err f) old new → MakesStarted old.calls new.calls
  tasks-failed [] f old new is p = let x = p.0 in absurd (cc)
  tasks-failed (task ∷ tasks) f old new is (inl p) = task-failed task f old new is p.1
  tasks-failed (task ∷ tasks) f old new is (inr p) = more_made old.calls p.0.calls new.calls (task-passed task old p.0 p.1) (tasks-failed tasks f p.0 new is p.2)

  captured : (task : Task) → task.asked.capture ≡ true → (P : Answer → Type 0) (old new : List Call) → GotAnswer P task.asked old new → MakesStarted old new
  captured task is P old new g = one-made P task.asked old new (λ a p cap. let x : true ≡ false = sym is ∙ cap in absurd (cc)) g

  task-captured : (task : Task) (f : ProcessFault) (old new : Scene) → task.asked.capture ≡ true → f ≢ Memory → DoesTask tells task (Err f) old new → MakesStarted old.calls new.calls
  task-captured task f old new is other (inl m) = absurd (other (let e : f ≡ Memory = cc in e))
  task-captured task Memory old new is other (inr p) = absurd (other refl)
  task-captured task EmptyProgram old new is other (inr p) = subst (λ (l : List Call). MakesStarted old.calls l) (sym (p.1.0.1 t)) (none_made old.calls)
  task-captured task (NeverExecuted text) old new is other (inr p) = captured task is _ old.calls new.calls (p.1.0.2 t)
  task-captured task (NotText text) old new is other (inr p) = absurd p.1.0
  task-captured task (ByFailure failure) old new is other (inr p) = captured task is _ old.calls new.calls (p.1.0.3 t)

  tries : (targets : List (List ℕ)) (try add : Task) (old new : Scene) → try.asked.capture ≡ true → TriesFirst tells targets try add (Ok tt) old new → MakesStarted old.calls new.calls
  tries [] try add old new is (inl p) = task-passed try old new p.1
  tries [] try add old new is (inr p) = more_made old.calls p.1.calls new.calls (task-captured try p.0 old p.1 is p.2 p.3) (task-passed add p.1 new p.4)
  tries (target ∷ targets) try add old new is p = task-passed add old new p

  -- ---- steps

  toolchain : (m : Manner) (plan : PlanView) (o : Option Version) (old new : Scene) → EnsuresToolchain tells m plan o (Ok tt) old new → MakesStarted old.calls new.calls
  toolchain m plan None old new p = subst (λ (s : Scene). MakesStarted old.calls s.calls) (sym p.1) (none_made old.calls)
  toolchain m plan (Some v) old new p = tries plan.call.targets _ _ old new refl p

  run-passed : (m : Manner) (plan : PlanView) (place : ℕ) (o : Option PlanEntry) (old new : Scene) → IsSomeAnd o (λ q. Runs tells m plan place q (Ok tt) old new) → MakesStarted old.calls new.calls
  run-passed m plan place None old new p = absurd p
  run-passed m plan place (Some q) old new p = tasks-passed _ (record old { streams = p.0 }) new p.2

  run-failed : (m : Manner) (plan : PlanView) (place : ℕ) (f : ProcessFault) (o : Option PlanEntry) (old new : Scene) → is_failure f ≡ true → IsSomeAnd o (λ q. Runs tells m plan place q (Err f) old new) → MakesStarted old.calls new.calls
  run-failed m plan place f None old new is p = absurd p
  run-failed m plan place f (Some q) old new is p = tasks-failed _ f (record old { streams = p.0 }) new is p.2

  step-passed : (m : Manner) (plan : PlanView) (step : Step) (old new : Scene) → Performed tells m plan step (Ok tt) old new → MakesStarted old.calls new.calls
  step-passed m plan (Prepare (Toolchain v)) old new p = toolchain m plan (number_at (slice_get plan.versions v)) old new p
  step-passed m plan (Prepare (Lockfile v)) old new p = tasks-passed _ old new p
  step-passed m plan (Prepare (Clean v)) old new p = task-passed (cleaning_task m plan.call.dir (clean_command plan.call None)) old new p
  step-passed m plan (Skip place) old new p = subst (λ (l : List Call). MakesStarted old.calls l) (sym p.1) (none_made old.calls)
  step-passed m plan (Run place) old new p = run-passed m plan place (slice_get plan.entries place) old new p

  -- a step that passed: it started what it called, and no refusal was counted
  does-passed : (k : Bool) (m : Manner) (plan : PlanView) (h : Handed) (old new : State) → HasPassed h → Does tells k m plan h old new → MakesStarted old.scene.calls new.scene.calls × (new.refused ≡ old.refused)
  does-passed k m plan h old new passed (Ok done, mid, performed, ends) = (
    subst (λ (s : State). MakesStarted old.scene.calls s.scene.calls) (sym ends.1) (step-passed m plan h.step old.scene mid performed),
    ap (λ (s : State). s.refused) ends.1,
  )
  does-passed k m plan h old new passed (Err f, mid, performed, ends) = let e : Passed ≡ Failed = sym passed ∙ ends.0 in absurd (cc)

  -- a run that failed, after which the call isn't at its end
  does-failed : (m : Manner) (plan : PlanView) (place : ℕ) (old new : State) → old.refused ≡ 0 → has_ended new.kept new.refused ≡ false → Does tells false m plan (record { step = Run place; outcome = Failed }) old new
      → MakesStarted old.scene.calls new.scene.calls × (new.refused ≡ 0)
  does-failed m plan place old new zero quiet (Ok done, mid, performed, ends) = absurd (cc)
  does-failed m plan place old new zero quiet (Err Memory, mid, performed, ends) =
      let grown = ends.1.0 (let low : old.refused < 2 ^ 64 = omega (arith, zero) in low) in
      let some : nat_lt 0 new.refused ≡ true = lt-ltb 0 new.refused (omega (arith, grown, zero)) in
      absurd (cc (some, quiet))
  does-failed m plan place old new zero quiet (Err EmptyProgram, mid, performed, ends) = absurd (kept-open m EmptyProgram old new mid zero refl ends.1 quiet)
  does-failed m plan place old new zero quiet (Err (NeverExecuted text), mid, performed, ends) = absurd (kept-open m (NeverExecuted text) old new mid zero refl ends.1 quiet)
  does-failed m plan place old new zero quiet (Err (NotText text), mid, performed, ends) = absurd (kept-open m (NotText text) old new mid zero refl ends.1 quiet)
  does-failed m plan place old new zero quiet (Err (ByFailure failure), mid, performed, ends) = (
    subst (λ (s : State). MakesStarted old.scene.calls s.scene.calls) (sym ends.1) (run-failed m plan place (ByFailure failure) (slice_get plan.entries place) old.scene mid refl performed),
    ap (λ (s : State). s.refused) ends.1 ∙ zero,
  )

  -- steps that all passed
  pub all_started : (k : Bool) (m : Manner) (plan : PlanView) (steps : List Handed) (old new : State) → All HasPassed steps → DoesAll tells k m plan steps old new → MakesStarted old.scene.calls new.scene.calls × (new.refused ≡ old.refused)
  all_started k m plan [] old new all same = (subst (λ (s : State). MakesStarted old.scene.calls s.scene.calls) (sym same) (none_made old.scene.calls), ap (λ (s : State). s.refused) same)
  all_started k m plan (h ∷ steps) old new all p =
      let one = does-passed k m plan h old p.0 (All-head HasPassed h steps all) p.1 in
      let rest = all_started k m plan steps p.0 new (All-tail HasPassed h steps all) p.2 in
      (more_made old.scene.calls p.0.scene.calls new.scene.calls one.0 rest.0, rest.1 ∙ one.1)

  does-split : (k : Bool) (m : Manner) (plan : PlanView) (xs ys : List Handed) (old new : State) → DoesAll tells k m plan (xs ++ ys) old new → (mid : State) × DoesAll tells k m plan xs old mid × DoesAll tells k m plan ys mid new
  does-split k m plan [] ys old new p = (old, refl, p)
  does-split k m plan (h ∷ xs) ys old new p = let rest = does-split k m plan xs ys p.0 new p.2 in (rest.0, (p.0, p.1, rest.1), rest.2)

  -- the steps of a trial that isn't broken
  pub trial_started : (m : Manner) (plan : PlanView) (steps : List Step) (handed : List Handed) (came : Came) (old new : State) → old.refused ≡ 0 → ComesTo (has_ended new.kept new.refused) steps handed came → came ≢ Broken
      → DoesAll tells false m plan handed old new → MakesStarted old.scene.calls new.scene.calls × (new.refused ≡ 0)
  trial_started m plan steps handed TrialPassed old new zero is whole p =
      let all = all_started false m plan (map passed_step steps) old new (passed-steps steps) (subst (λ (hs : List Handed). DoesAll tells false m plan hs old new) is p) in
      (all.0, all.1 ∙ zero)
  trial_started m plan steps handed (TrialFailed place) old new zero is whole p =
      let stops = is.1 in
      let halves = does-split false m plan (map passed_step stops.front) (failed_step (Run place) ∷ []) old new (subst (λ (hs : List Handed). DoesAll tells false m plan hs old new) stops.told p) in
      let front = all_started false m plan (map passed_step stops.front) old halves.0 (passed-steps stops.front) halves.1 in
      let same : new ≡ halves.2.0 = halves.2.2 in
      let last = does-failed m plan place halves.0 halves.2.0 (front.1 ∙ zero) (subst (λ (s : State). has_ended s.kept s.refused ≡ false) same is.0) halves.2.1 in
      subst (λ (s : State). MakesStarted old.scene.calls s.scene.calls × (s.refused ≡ 0)) (sym same) (more_made old.scene.calls halves.0.scene.calls halves.2.0.scene.calls front.0 last.0, last.1)
  trial_started m plan steps handed Broken old new zero is whole p = absurd (whole refl)

-- ---- searches

unbroken-zip : (uses : List ℕ) (tried : List Tried) (trials : List Trial) → AllZip (IsTrialAt uses) tried trials → All (λ (t : Tried). t.outcome ≢ outcome.Broken) tried → All (λ (t : Trial). t.came ≢ Broken) trials
unbroken-zip uses [] [] z all = All-nil (λ (t : Trial). t.came ≢ Broken)
unbroken-zip uses [] (t ∷ trials) z all = absurd z
unbroken-zip uses (x ∷ tried) [] z all = absurd z
unbroken-zip uses (x ∷ tried) (t ∷ trials) z all =
    All-cons (λ (t : Trial). t.came ≢ Broken) t trials (λ e. All-head (λ (t : Tried). t.outcome ≢ outcome.Broken) x tried all (z.0.outcome ∙ ap outcome_of e))
    (unbroken-zip uses tried trials z.1 (All-tail (λ (t : Tried). t.outcome ≢ outcome.Broken) x tried all))

beside-whole : (low high : ℕ) (t : Tried) → IsBeside low high t → t.outcome ≢ outcome.Broken
beside-whole low high t (inl f) e = let x : outcome.Failed ≡ outcome.Broken = sym f.0 ∙ e in cc
beside-whole low high t (inr p) e = let x : outcome.Passed ≡ outcome.Broken = sym p.0 ∙ e in cc

pub unbroken_search : (plan : PlanView) (p : ℕ) (trials : List Trial) (one : Found) → one ≢ FoundBroken → IsSearchOf plan p trials one → All (λ (t : Trial). t.came ≢ Broken) trials
unbroken_search plan p trials Untried whole s = subst (All (λ (t : Trial). t.came ≢ Broken)) (sym s.says.1) (All-nil (λ (t : Trial). t.came ≢ Broken))
unbroken_search plan p trials (Least version failed) whole s =
    let h = s.says.1 in
    unbroken-zip (uses_of plan p) h.tried trials h.same (λ k d lt. beside-whole _ _ _ (h.search.answered.beside k d lt))
unbroken_search plan p trials (Nowhere version failed) whole s =
    let h = s.says.0 in
    unbroken-zip (uses_of plan p) h.tried trials h.same (subst (All (λ (t : Tried). t.outcome ≢ outcome.Broken)) (sym h.search.answered)
    (All-cons (λ (t : Tried). t.outcome ≢ outcome.Broken) _ [] (λ e. cc) (All-nil (λ (t : Tried). t.outcome ≢ outcome.Broken))))
unbroken_search plan p trials FoundBroken whole s = absurd (whole refl)

module _ {R : Type 0} (ran : PlanView → List Handed → R → R → Type 0) (ended : R → Bool) (calls : R → List Call) (Fine : R → Type 0)
    (trial : (plan : PlanView) (steps : List Step) (handed : List Handed) (came : Came) (a b : R) → Fine a → ran plan handed a b → ComesTo (ended b) steps handed came → came ≢ Broken → MakesStarted (calls a) (calls b) × Fine b) where
  trials-started : (plan : PlanView) (p : ℕ) (trials : List Trial) (a b : R) → Fine a → All (λ (t : Trial). t.came ≢ Broken) trials → AreTrials ran ended plan p trials a b → MakesStarted (calls a) (calls b) × Fine b
  trials-started plan p [] a b fine whole same = subst (λ (x : R). MakesStarted (calls a) (calls x) × Fine x) (sym same) (none_made (calls a), fine)
  trials-started plan p (t ∷ trials) a b fine whole h =
      let one = trial plan (trial_steps plan p h.2.version) t.handed t.came a h.0 fine h.1 h.2.comes (All-head (λ (t : Trial). t.came ≢ Broken) t trials whole) in
      let rest = trials-started plan p trials h.0 b one.1 (All-tail (λ (t : Trial). t.came ≢ Broken) t trials whole) h.3 in
      (more_made (calls a) (calls h.0) (calls b) one.0 rest.0, rest.1)

  -- the searches of packages, of which none was broken off
  pub searches_started : (plan : PlanView) (p : ℕ) (searches : List (List Trial)) (found : List Found) (a b : R) → Fine a → AreUnbroken found → AreSearches plan p searches found → AreTried ran ended plan p searches a b → MakesStarted (calls a) (calls b) × Fine b
  searches_started plan p [] found a b fine whole say same = subst (λ (x : R). MakesStarted (calls a) (calls x) × Fine x) (sym same) (none_made (calls a), fine)
  searches_started plan p (trials ∷ searches) [] a b fine whole say h = absurd say
  searches_started plan p (trials ∷ searches) (one ∷ found) a b fine whole say h =
      let here = trials-started plan p trials a h.0 fine (unbroken_search plan p trials one (All-head (λ (f : Found). f ≢ FoundBroken) one found whole) say.0) h.1 in
      let rest = searches_started plan (p + 1) searches found h.0 b here.1 (All-tail (λ (f : Found). f ≢ FoundBroken) one found whole) say.1 h.2 in
      (more_made (calls a) (calls h.0) (calls b) here.0 rest.0, rest.1)

  one-built : (plan : PlanView) (place : ℕ) (m : Made) (a b : R) → Fine a → m.outcome ≢ build.Broken → ran plan (step_at place m ∷ []) a b → Tells (ended b) m.outcome → MakesStarted (calls a) (calls b) × Fine b
  one-built plan place m a b fine whole did tells = go m.outcome refl tells
    where
      go : (o : BuildOutcome) → m.outcome ≡ o → Tells (ended b) o → MakesStarted (calls a) (calls b) × Fine b
      go build.Passed is t = trial plan (Run place ∷ []) (step_at place m ∷ []) TrialPassed a b fine did (ap (λ (o : BuildOutcome). record { step = Run place; outcome = step_outcome o } ∷ []) is) (λ e. cc)
      go build.Failed is t =
          trial plan (Run place ∷ []) (step_at place m ∷ []) (TrialFailed place) a b fine did (t, record { front = []; left = []; split = refl; told = ap (λ (o : BuildOutcome). record { step = Run place; outcome = step_outcome o } ∷ []) is }) (λ e. cc)
      go build.Broken is t = absurd (whole is)

  -- runs that a search for conflicts built, of which none was broken
  pub builds_started : (plan : PlanView) (place : ℕ) (made : List Made) (a b : R) → Fine a → All (λ (m : Made). m.outcome ≢ build.Broken) made → AreHanded ran ended plan place made a b → MakesStarted (calls a) (calls b) × Fine b
  builds_started plan place [] a b fine whole same = subst (λ (x : R). MakesStarted (calls a) (calls x) × Fine x) (sym same) (none_made (calls a), fine)
  builds_started plan place (m ∷ made) a b fine whole h =
      let one = one-built plan place m a h.0 fine (All-head (λ (m : Made). m.outcome ≢ build.Broken) m made whole) h.1 h.2 in
      let rest = builds_started plan (place + 1) made h.0 b one.1 (All-tail (λ (m : Made). m.outcome ≢ build.Broken) m made whole) h.3 in
      (more_made (calls a) (calls h.0) (calls b) one.0 rest.0, rest.1)

-- a completed search built no broken run
hunt-whole : (cx : ContextRecord) (spot : Spot) (most : Option ℕ) (h : Hunted) (made : List Made) (old new : PlanView) → IsHuntAt cx spot most h made old new → All (λ (m : Made). m.outcome ≢ build.Broken) made
hunt-whole cx spot most h made old new hunt = λ k d lt e.
    let asked = hunt.hunt.built.needed k d lt in
    All-contains (λ (run : Asked). run.outcome ≢ build.Broken) hunt.finding.runs asked.0 hunt.hunt.found.whole asked.1 (sym asked.2.told ∙ e)

hunts-whole : (cx : ContextRecord) (most : Option ℕ) (spots : List Spot) (hunted : List Hunted) (made : List (List Made)) (old new : PlanView) → AreHunts cx most spots hunted made old new → All (λ (m : Made). m.outcome ≢ build.Broken) (flat_map (λ m. m) made)
hunts-whole cx most [] [] [] old new same = All-nil (λ (m : Made). m.outcome ≢ build.Broken)
hunts-whole cx most [] [] (m ∷ made) old new h = absurd h
hunts-whole cx most [] (x ∷ hunted) made old new h = absurd h
hunts-whole cx most (s ∷ spots) [] made old new h = absurd h
hunts-whole cx most (s ∷ spots) (x ∷ hunted) [] old new h = absurd h
hunts-whole cx most (s ∷ spots) (x ∷ hunted) (m ∷ made) old new h =
    All-append (λ (m : Made). m.outcome ≢ build.Broken) m (flat_map (λ m. m) made) (hunt-whole cx s (left_of most (length old.entries)) x m old h.0 h.1) (hunts-whole cx most spots hunted made h.0 new h.2)

-- searches that came to their end built none
pub whole_hunts : (cx : ContextRecord) (most : Option ℕ) (spots : List Spot) (found : List Hunted) (built : List Made) (old new : PlanView) → AreHunted cx most spots (Ok found) built old new → All (λ (m : Made). m.outcome ≢ build.Broken) built
whole_hunts cx most spots found built old new h = subst (All (λ (m : Made). m.outcome ≢ build.Broken)) (sym (h.all ∙ nothing h.next)) (hunts-whole cx most h.front h.hunted h.made old h.mid h.hunts)
  where
    nothing : IsBegun cx most h.left h.begun h.mid new → flat_map (λ m. m) h.made ++ h.begun ≡ flat_map (λ m. m) h.made
    nothing (inl none) = ap (λ (l : List Made). flat_map (λ m. m) h.made ++ l) none.0 ∙ append-nil (flat_map (λ m. m) h.made)
    nothing (inr some) = let e : some.0 ∷ some.1 ≡ [] = sym some.2 ∙ h.end.0 in absurd (cc)

-- the same, where it is known that runs don't go on
pub trial_stopping : (tells : Type 0) (t : tells) (k : Bool) (m : Manner) (plan : PlanView) (handed : List Handed) (old new : State) → DoesAll tells k m plan handed old new → (steps : List Step) (came : Came) → k ≡ false → old.refused ≡ 0 → ComesTo (has_ended new.kept new.refused) steps handed came → came ≢ Broken
    → MakesStarted old.scene.calls new.scene.calls × (new.refused ≡ 0)
trial_stopping tells t k m plan handed old new did steps came stops zero is whole = trial_started tells t m plan steps handed came old new zero is whole (subst (λ (k : Bool). DoesAll tells k m plan handed old new) stops did)

-- ---- the same, by what was handed out

pub searches_by : {R : Type 0} {ran : PlanView → List Handed → R → R → Type 0} {ended : R → Bool} {plan : PlanView} {found : List Found} {a b : R} (calls : R → List Call) (Fine : R → Type 0) → (s : IsSearched ran ended plan found a b)
    → ((plan : PlanView) (steps : List Step) (handed : List Handed) (came : Came) (a b : R) → Fine a → ran plan handed a b → ComesTo (ended b) steps handed came → came ≢ Broken → MakesStarted (calls a) (calls b) × Fine b)
    → Fine a → AreUnbroken found → MakesStarted (calls a) (calls b) × Fine b
searches_by {R} {ran} {ended} {plan} {found} {a} {b} calls Fine s trial fine whole = searches_started ran ended calls Fine trial plan 0 s.searches found a b fine whole s.say s.tried

pub builds_by : {R : Type 0} {ran : PlanView → List Handed → R → R → Type 0} {ended : R → Bool} {cx : ContextRecord} {most : Option ℕ} {spots : List Spot} {came : Result (List Hunted) CulpritsFault} {old new : PlanView} {a b : R} (calls : R → List Call) (Fine : R → Type 0)
    → (h : RanHunts ran ended cx most spots came old new a b)
    → ((plan : PlanView) (steps : List Step) (handed : List Handed) (came : Came) (a b : R) → Fine a → ran plan handed a b → ComesTo (ended b) steps handed came → came ≢ Broken → MakesStarted (calls a) (calls b) × Fine b)
    → Fine a → All (λ (m : Made). m.outcome ≢ build.Broken) h.built → MakesStarted (calls a) (calls b) × Fine b
builds_by {R} {ran} {ended} {cx} {most} {spots} {came} {old} {new} {a} {b} calls Fine h trial fine whole = builds_started ran ended calls Fine trial new (length old.entries) h.built a b fine whole h.handed
