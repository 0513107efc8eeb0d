-- What the steps that were performed say of calls and of errors.
use Rattle.std.proofs.Common.{◌≡◌, ◌≢◌, ◌⊎◌, inl, inr, ℕ, Bool, true, false, ◌&&◌, List, [], ◌∷◌, All, Option, Some, None, Result, Ok, Err, refl, sym, ◌∙◌, ap, subst, append-nil, arith, map}
use Rattle.std.specs.Prelude.{IsSome, IsSomeAnd, MatchBool, codes, is_some, slice_get}
use Rattle.std.proofs.lemmas.List.Elements.{All-cons}
use Rattle.hack_base.specs.Counters.{GrowsBy}
use Rattle.hack_term.specs.Lines.{error_line}
use Rattle.hack_term.specs.declared.term.Term.{Term}
use Rattle.hack_versions.specs.declared.version.Version.{Version}
use Rattle.hack_process.specs.declared.fault.ProcessFault.{ProcessFault}
use Rattle.hack_process.specs.declared.fault.ProcessFault.TheVariants.{Memory, EmptyProgram, NeverExecuted, NotText, Failed as ByFailure}
use Rattle.hack_process.specs.Calls.{Asked, Call}
use Rattle.hack_plan.specs.declared.places.PlanEntry.{PlanEntry}
use Rattle.hack_plan.specs.declared.parts.Preparation.TheVariants.{Toolchain, Lockfile, Clean}
use Rattle.hack_plan.specs.View.{PlanView}
use Rattle.hack_session.specs.declared.step.Step.{Step}
use Rattle.hack_session.specs.declared.step.Step.TheVariants.{Prepare, Skip, Run}
use Rattle.hack_session.specs.declared.step.Outcome.TheVariants.{Passed, Failed}
use Rattle.hack_session.specs.declared.step.Handed.{Handed}
use Rattle.hack_session.specs.declared.step.Outcome.{Outcome}
use Rattle.hack_session.specs.Histories.{HasPassed}
use Rattle.hack_session.specs.StepCalls.{BreaksInstallAt, InstallsAt, MakesCalls, commands_of, lockfile_commands, number_at, run_commands}
use Rattle.hack_session.specs.StepOutput.{Manner, OnErr, Says, Streams}
use Rattle.hack_session.specs.StepEffects.{AnswersFault, Does, DoesAll, DoesTasks, Ends, EnsuresToolchain, IsToldAs, Performed, Runs, Scene, Skips, State, Task, Tells, TellsMemory, TriesFirst, addition_task, is_memory, is_run, lockfile_tasks, run_tasks, trial_task}
use Rattle.hack_session.proofs.CallLemmas.{CallsInOrder, EndsOrIsCut, TriesAndAdds, made_by}
use Rattle.hack_session.proofs.RunLemmas.{HasPerformed, MakesStepCalls, performed_more, performed_none, run_stops, run_then, step_cut, step_failed, step_passed, tried_cut, tried_ok, tried_then}

-- ---- the calls of a step

abbrev asked_by : Task → Asked
asked_by task = task.asked

-- nothing was called
none_made : (P : List Call → Type 0) (a b : List Call) → b ≡ a → P [] → MakesCalls P a b
none_made P a b same p = record { made = []; grown = same ∙ sym (append-nil a); such = p }

in_order : (tells : Type 0) (r : Result (Unit {0}) ProcessFault) (tasks : List Task) (a b : Scene) → DoesTasks tells tasks r a b → tells → MakesCalls (CallsInOrder (map asked_by tasks) r) a.calls b.calls
in_order tells (Ok done) [] a b p t = none_made (CallsInOrder [] (Ok done)) a.calls b.calls (ap (λ (s : Scene). s.calls) p.1) (refl, refl)
in_order tells (Err fault) [] a b p t = absurd (cc (p.0))
in_order tells (Ok done) (task ∷ tasks) a b (inl p) t = absurd (cc (p.0))
in_order tells (Err fault) (task ∷ tasks) a b (inl p) t =
    run_stops (Unit {0}) (Unit {0}) fault task.asked (map asked_by tasks) a.calls b.calls (made_by tells (Err fault) task a b p.1 t)
in_order tells r (task ∷ tasks) a b (inr p) t =
    run_then (Unit {0}) (Unit {0}) tt r task.asked (map asked_by tasks) a.calls p.0.calls b.calls (made_by tells (Ok tt) task a p.0 p.1 t) (in_order tells r tasks p.0 b p.2 t)

memory_is : (fault : ProcessFault) → fault ≡ Memory → true ≡ is_memory fault
memory_is fault e = sym (ap is_memory e)

-- a toolchain is tried and added
pub tries_and_adds : (tells : Type 0) (r : Result (Unit {0}) ProcessFault) (targets : List (List ℕ)) (try add : Task) (a b : Scene) → TriesFirst tells targets try add r a b → tells → MakesCalls (TriesAndAdds targets try.asked add.asked r) a.calls b.calls
tries_and_adds tells (Ok done) [] try add a b (inl p) t = tried_ok (Unit {0}) done try.asked add.asked a.calls b.calls (made_by tells (Ok done) try a b p.1 t)
tries_and_adds tells (Err fault) [] try add a b (inl p) t = tried_cut (Unit {0}) fault try.asked add.asked a.calls b.calls (memory_is fault p.0) (made_by tells (Err fault) try a b p.1 t)
tries_and_adds tells r [] try add a b (inr p) t =
    tried_then (Unit {0}) (Unit {0}) p.0 r try.asked add.asked a.calls p.1.calls b.calls p.2 (made_by tells (Err p.0) try a p.1 p.3 t) (made_by tells r add p.1 b p.4 t)
tries_and_adds tells r (target ∷ targets) try add a b p t = made_by tells r add a b p t

-- the same where nothing is said
pub quietly_added : (tells : Type 0) (r : Result (Unit {0}) ProcessFault) (try add : Asked) (shown other : List ℕ) (a b : Scene) → TriesFirst tells [] (record { says = []; asked = try; shown = shown }) (record { says = []; asked = add; shown = other }) r a b → tells → MakesCalls (TriesAndAdds [] try add r) a.calls b.calls
quietly_added tells r try add shown other a b p t = tries_and_adds tells r [] (record { says = []; asked = try; shown = shown }) (record { says = []; asked = add; shown = other }) a b p t

toolchain_made : (tells : Type 0) (r : Result (Unit {0}) ProcessFault) (m : Manner) (plan : PlanView) (o : Option Version) (a b : Scene) → EnsuresToolchain tells m plan o r a b → tells
    → MakesCalls (λ calls. EndsOrIsCut (InstallsAt plan o calls) (BreaksInstallAt plan o calls) r) a.calls b.calls
toolchain_made tells (Ok done) m plan None a b p t = none_made (λ calls. EndsOrIsCut (InstallsAt plan None calls) (BreaksInstallAt plan None calls) (Ok done)) a.calls b.calls (ap (λ (s : Scene). s.calls) p.1) (refl, refl)
toolchain_made tells (Err fault) m plan None a b p t = absurd (cc (p.0))
toolchain_made tells r m plan (Some v) a b p t = tries_and_adds tells r plan.call.targets (trial_task plan v) (addition_task m plan v) a b p t

lockfile_made : (tells : Type 0) (r : Result (Unit {0}) ProcessFault) (plan : PlanView) (o : Option Version) (a b : Scene) → DoesTasks tells (lockfile_tasks plan o) r a b → tells → MakesCalls (CallsInOrder (lockfile_commands plan o) r) a.calls b.calls
lockfile_made tells r plan None a b p t = in_order tells r [] a b p t
lockfile_made tells r plan (Some v) a b p t = in_order tells r (lockfile_tasks plan (Some v)) a b p t

run_asked : (m : Manner) (plan : PlanView) (place : ℕ) (q : PlanEntry) → map asked_by (run_tasks m plan place q) ≡ commands_of plan q
run_asked m plan place q = go plan.call.clean_per_run
  where
    go : (flag : Bool) → map asked_by (run_tasks m (record plan { call = record plan.call { clean_per_run = flag } }) place q) ≡ commands_of (record plan { call = record plan.call { clean_per_run = flag } }) q
    go true = refl
    go false = refl

run_made : (tells : Type 0) (r : Result (Unit {0}) ProcessFault) (m : Manner) (plan : PlanView) (place : ℕ) (o : Option PlanEntry) (a b : Scene) → IsSomeAnd o (λ q. Runs tells m plan place q r a b) → tells → MakesCalls (CallsInOrder (run_commands plan o) r) a.calls b.calls
run_made tells r m plan place None a b p t = absurd p
run_made tells r m plan place (Some q) a b p t = subst (λ (l : List Asked). MakesCalls (CallsInOrder l r) a.calls b.calls) (run_asked m plan place q)
    (in_order tells r (run_tasks m plan place q) (record a { streams = p.0 }) b p.2 t)

skip_made : (r : Result (Unit {0}) ProcessFault) (m : Manner) (plan : PlanView) (place : ℕ) (o : Option PlanEntry) (s u : Streams) (a b : List Call) → IsSomeAnd o (λ q. Skips m plan place q r s u) → b ≡ a → MakesCalls (MakesStepCalls plan (Skip place) r) a b
skip_made r m plan place None s u a b p same = absurd p
skip_made (Ok done) m plan place (Some q) s u a b p same = none_made (MakesStepCalls {T = Unit {0}} plan (Skip place) (Ok done)) a b same (refl, refl)
skip_made (Err fault) m plan place (Some q) s u a b p same =
    none_made (MakesStepCalls {T = Unit {0}} plan (Skip place) (Err fault)) a b same (subst (λ (f : ProcessFault). MakesStepCalls {T = Unit {0}} plan (Skip place) (Err f) []) (sym p.2.0) refl)

step_made : (tells : Type 0) (r : Result (Unit {0}) ProcessFault) (m : Manner) (plan : PlanView) (step : Step) (a b : Scene) → Performed tells m plan step r a b → tells → MakesCalls (MakesStepCalls plan step r) a.calls b.calls
step_made tells r m plan (Prepare (Toolchain v)) a b p t = toolchain_made tells r m plan (number_at (slice_get plan.versions v)) a b p t
step_made tells r m plan (Prepare (Lockfile v)) a b p t = lockfile_made tells r plan (number_at (slice_get plan.versions v)) a b p t
step_made tells r m plan (Prepare (Clean v)) a b p t = made_by tells r _ a b p t
step_made tells r m plan (Skip place) a b p t = skip_made r m plan place (slice_get plan.entries place) a.streams b.streams a.calls b.calls p.0 p.1
step_made tells r m plan (Run place) a b p t = run_made tells r m plan place (slice_get plan.entries place) a b p t

-- ---- how steps end

-- an error other than refused memory
uncut : (x : Bool) (m : Manner) (fault : ProcessFault) (a b : State) → MatchBool x ((text : List ℕ) × IsToldAs fault text × Tells m text a b) (b ≡ record a { kept = Some fault }) → (b.scene.calls ≡ a.scene.calls) × (b.refused ≡ a.refused)
uncut true m fault a b p = (ap (λ (s : State). s.scene.calls) p.2.1, ap (λ (s : State). s.refused) p.2.1)
uncut false m fault a b p = (ap (λ (s : State). s.scene.calls) p, ap (λ (s : State). s.refused) p)

uncut_fault : (keep_going : Bool) (m : Manner) (step : Step) (fault : ProcessFault) (a b : State) → fault ≢ Memory → AnswersFault keep_going m step fault a b → (b.scene.calls ≡ a.scene.calls) × (b.refused ≡ a.refused)
uncut_fault keep_going m step Memory a b ne p = absurd (ne refl)
uncut_fault keep_going m step EmptyProgram a b ne p = uncut (keep_going && is_run step) m EmptyProgram a b p
uncut_fault keep_going m step (NeverExecuted text) a b ne p = uncut (keep_going && is_run step) m (NeverExecuted text) a b p
uncut_fault keep_going m step (NotText text) a b ne p = uncut (keep_going && is_run step) m (NotText text) a b p
uncut_fault keep_going m step (ByFailure failure) a b ne p = uncut (keep_going && is_run step) m (ByFailure failure) a b p

-- the calls of a step that ended so
ended_as : (plan : PlanView) (h : Handed) (outcome : Outcome) (a b c : List Call) (x y z : ℕ) → h.outcome ≡ outcome → c ≡ b → z ≡ y → HasPerformed plan (record { step = h.step; outcome = outcome } ∷ []) a b x y → HasPerformed plan (h ∷ []) a c x z
ended_as plan h outcome a b c x y z e f g p =
    subst (λ (o : Outcome). HasPerformed plan (record { step = h.step; outcome = o } ∷ []) a c x z) (sym e)
    (subst (λ (l : List Call). HasPerformed plan (record { step = h.step; outcome = outcome } ∷ []) a l x z) (sym f)
    (subst (λ (n : ℕ). HasPerformed plan (record { step = h.step; outcome = outcome } ∷ []) a b x n) (sym g) p))

failed_so : (keep_going : Bool) (m : Manner) (plan : PlanView) (h : Handed) (fault : ProcessFault) (a b : State) (calls : List Call) → fault ≢ Memory → MakesCalls (MakesStepCalls {T = Unit {0}} plan h.step (Err fault)) calls a.scene.calls → (h.outcome ≡ Failed) × AnswersFault keep_going m h.step fault a b → HasPerformed plan (h ∷ []) calls b.scene.calls a.refused b.refused
failed_so keep_going m plan h fault a b calls ne p q =
    let same = uncut_fault keep_going m h.step fault a b ne q.1 in
    ended_as plan h Failed calls a.scene.calls b.scene.calls a.refused a.refused b.refused q.0 same.0 same.1
    (step_failed (Unit {0}) fault plan h.step calls a.scene.calls a.refused ne p)

ended : (keep_going : Bool) (m : Manner) (plan : PlanView) (h : Handed) (r : Result (Unit {0}) ProcessFault) (a b : State) (calls : List Call) → MakesCalls (MakesStepCalls plan h.step r) calls a.scene.calls → Ends keep_going m h r a b → HasPerformed plan (h ∷ []) calls b.scene.calls a.refused b.refused
ended keep_going m plan h (Ok done) a b calls p q =
    ended_as plan h Passed calls a.scene.calls b.scene.calls a.refused a.refused b.refused q.0 (ap (λ (s : State). s.scene.calls) q.1) (ap (λ (s : State). s.refused) q.1)
    (step_passed (Unit {0}) done plan h.step calls a.scene.calls a.refused p)
ended keep_going m plan h (Err Memory) a b calls p q =
    ended_as plan h Failed calls a.scene.calls b.scene.calls a.refused b.refused b.refused q.0 (ap (λ (s : State). s.scene.calls) q.1.1.1) refl
    (step_cut (Unit {0}) Memory plan h.step calls a.scene.calls a.refused b.refused refl q.1.0 p)
ended keep_going m plan h (Err EmptyProgram) a b calls p q = failed_so keep_going m plan h EmptyProgram a b calls (λ e. cc) p q
ended keep_going m plan h (Err (NeverExecuted text)) a b calls p q = failed_so keep_going m plan h (NeverExecuted text) a b calls (λ e. cc) p q
ended keep_going m plan h (Err (NotText text)) a b calls p q = failed_so keep_going m plan h (NotText text) a b calls (λ e. cc) p q
ended keep_going m plan h (Err (ByFailure failure)) a b calls p q = failed_so keep_going m plan h (ByFailure failure) a b calls (λ e. cc) p q

performed_by : (tells : Type 0) (keep_going : Bool) (m : Manner) (plan : PlanView) (h : Handed) (a b : State) → Does tells keep_going m plan h a b → tells → HasPerformed plan (h ∷ []) a.scene.calls b.scene.calls a.refused b.refused
performed_by tells keep_going m plan h a b p t = ended keep_going m plan h p.0 (record a { scene = p.1 }) b a.scene.calls (step_made tells p.0 m plan h.step a.scene p.1 p.2 t) p.3

-- the calls of steps, one after the other
pub has_performed : (tells : Type 0) (keep_going : Bool) (m : Manner) (plan : PlanView) (steps : List Handed) (a b : State) → DoesAll tells keep_going m plan steps a b → tells → HasPerformed plan steps a.scene.calls b.scene.calls a.refused b.refused
has_performed tells keep_going m plan [] a b same t = subst (λ (s : State). HasPerformed plan [] a.scene.calls s.scene.calls a.refused s.refused) (sym same) (performed_none plan a.scene.calls a.refused)
has_performed tells keep_going m plan (h ∷ steps) a b p t =
    performed_more plan (h ∷ []) steps a.scene.calls p.0.scene.calls b.scene.calls a.refused p.0.refused b.refused (performed_by tells keep_going m plan h a p.0 p.1 t) (has_performed tells keep_going m plan steps p.0 b p.2 t)

-- ---- what was told

-- a failure was reported: an error's line was told, or an error is kept for the last line
abbrev pub HasTold : Bool → Option ProcessFault → Type 0
HasTold told kept = (told ≡ true) ⊎ IsSome kept

tells_one : (x : Bool) (m : Manner) (fault : ProcessFault) (a b : State) → MatchBool x ((text : List ℕ) × IsToldAs fault text × Tells m text a b) (b ≡ record a { kept = Some fault }) → HasTold b.told b.kept
tells_one true m fault a b p = inl (ap (λ (s : State). s.told) p.2.1)
tells_one false m fault a b p = inr (ap (λ (s : State). is_some s.kept) p)

tells_fault : (keep_going : Bool) (m : Manner) (step : Step) (fault : ProcessFault) (a b : State) → AnswersFault keep_going m step fault a b → HasTold b.told b.kept
tells_fault keep_going m step Memory a b p = inl (ap (λ (s : State). s.told) p.1.1)
tells_fault keep_going m step EmptyProgram a b p = tells_one (keep_going && is_run step) m EmptyProgram a b p
tells_fault keep_going m step (NeverExecuted text) a b p = tells_one (keep_going && is_run step) m (NeverExecuted text) a b p
tells_fault keep_going m step (NotText text) a b p = tells_one (keep_going && is_run step) m (NotText text) a b p
tells_fault keep_going m step (ByFailure failure) a b p = tells_one (keep_going && is_run step) m (ByFailure failure) a b p

passed_or : (keep_going : Bool) (m : Manner) (h : Handed) (r : Result (Unit {0}) ProcessFault) (a b : State) → Ends keep_going m h r a b → (HasPassed h × (b ≡ a)) ⊎ HasTold b.told b.kept
passed_or keep_going m h (Ok done) a b p = inl p
passed_or keep_going m h (Err fault) a b p = inr (tells_fault keep_going m h.step fault a b p.1)

stays_told : (tells : Type 0) (keep_going : Bool) (m : Manner) (plan : PlanView) (steps : List Handed) (a b : State) → DoesAll tells keep_going m plan steps a b → HasTold a.told a.kept → HasTold b.told b.kept
stays_told tells keep_going m plan [] a b same told = subst (λ (s : State). HasTold s.told s.kept) (sym same) told
stays_told tells keep_going m plan (h ∷ steps) a b p told =
    stays_told tells keep_going m plan steps p.0 b p.2 (elim (passed_or keep_going m h p.1.0 (record a { scene = p.1.1 }) p.0 p.1.3) [
      | inl w ↦ subst (λ (s : State). HasTold s.told s.kept) (sym w.1) told
      | inr w ↦ w
    ])

-- each step passed, or a failure was reported
pub passed_or_told : (tells : Type 0) (keep_going : Bool) (m : Manner) (plan : PlanView) (steps : List Handed) (a b : State) → DoesAll tells keep_going m plan steps a b → All HasPassed steps ⊎ HasTold b.told b.kept
passed_or_told tells keep_going m plan [] a b same = inl (λ k d lt. absurd (omega arith))
passed_or_told tells keep_going m plan (h ∷ steps) a b p = elim (passed_or keep_going m h p.1.0 (record a { scene = p.1.1 }) p.0 p.1.3) [
  | inl w ↦ elim (passed_or_told tells keep_going m plan steps p.0 b p.2) [ inl all ↦ inl (All-cons HasPassed h steps w.0 all) | inr told ↦ inr told ]
  | inr w ↦ inr (stays_told tells keep_going m plan steps p.0 b p.2 w)
]

-- ---- what a starter shows

pub one_step : (tells : Type 0) (keep_going : Bool) (m : Manner) (plan : PlanView) (h : Handed) (r : Result (Unit {0}) ProcessFault) (mid : Scene) (a b : State) → Performed tells m plan h.step r a.scene mid → Ends keep_going m h r (record a { scene = mid }) b → DoesAll tells keep_going m plan (h ∷ []) a b
one_step tells keep_going m plan h r mid a b p q = (b, (r, mid, p, q), refl)

-- an error's line was written, and the error noted
pub tells_line : (m : Manner) (text : List ℕ) (a : State) (s : Streams) (told : Bool) → told ≡ true → Says (OnErr (error_line m.coloring text)) a.scene.streams s → Tells m text a (record a { scene = record a.scene { streams = s }; told = told })
tells_line m text a s told e p = (p, ap (λ (x : Bool). record a { scene = record a.scene { streams = s }; told = x }) e)

pub told_memory : (keep_going : Bool) (m : Manner) (step : Step) (fault : ProcessFault) (a b : State) → true ≡ is_memory fault → GrowsBy 1 a.refused b.refused → Tells m (codes "out of memory") (record a { refused = b.refused }) b → AnswersFault keep_going m step fault a b
told_memory keep_going m step fault a b e grows p =
    subst (λ (x : Bool). MatchBool x (TellsMemory m a b) (MatchBool (keep_going && is_run step) ((text : List ℕ) × IsToldAs fault text × Tells m text a b) (b ≡ record a { kept = Some fault }))) e (grows, p)

other_fault : (keep_going : Bool) (m : Manner) (step : Step) (fault : ProcessFault) (a b : State) (tells : Bool) → false ≡ is_memory fault → tells ≡ (keep_going && is_run step) → MatchBool tells ((text : List ℕ) × IsToldAs fault text × Tells m text a b) (b ≡ record a { kept = Some fault }) → AnswersFault keep_going m step fault a b
other_fault keep_going m step fault a b tells e f p =
    subst (λ (x : Bool). MatchBool x (TellsMemory m a b) (MatchBool (keep_going && is_run step) ((text : List ℕ) × IsToldAs fault text × Tells m text a b) (b ≡ record a { kept = Some fault }))) e
    (subst (λ (x : Bool). MatchBool x ((text : List ℕ) × IsToldAs fault text × Tells m text a b) (b ≡ record a { kept = Some fault })) f p)

pub told_fault : (keep_going : Bool) (m : Manner) (step : Step) (fault : ProcessFault) (a b : State) (text : List ℕ) → false ≡ is_memory fault → keep_going ≡ true → true ≡ is_run step → IsToldAs fault text → Tells m text a b → AnswersFault keep_going m step fault a b
told_fault keep_going m step fault a b text e f h is p = other_fault keep_going m step fault a b true e (h ∙ sym (ap (λ (x : Bool). x && is_run step) f)) (text, is, p)

pub kept_fault : (keep_going : Bool) (m : Manner) (step : Step) (fault : ProcessFault) (a b : State) → false ≡ is_memory fault → (keep_going && is_run step) ≡ false → b ≡ record a { kept = Some fault } → AnswersFault keep_going m step fault a b
kept_fault keep_going m step fault a b e f p = other_fault keep_going m step fault a b false e (sym f) p

-- an error was noted, and nothing else
pub error_noted : (a b : Term) → b ≡ record a { error = true } → b ≡ record a { error = b.error }
error_noted a b e = e ∙ ap (λ (x : Bool). record a { error = x }) (sym (ap (λ (t : Term). t.error) e))

pub and_not : (a b : Bool) → b ≡ false → (a && b) ≡ false
and_not true b e = e
and_not false b e = refl

pub not_and : (a b : Bool) → a ≡ false → (a && b) ≡ false
not_and true b e = absurd (cc)
not_and false b e = refl
