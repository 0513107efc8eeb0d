-- A search ends where its call does.
use Rattle.std.proofs.Common.{◌≡◌, ◌∙◌, ◌+◌, ◌++◌, ◌∷◌, ◌⊎◌, [], ℕ, Bool, Err, List, Ok, Option, Result, ap, append-nil, arith, false, inl, inr, length, map, refl, subst, sym, true}
use Rattle.std.specs.Prelude.{◌≢◌, All, AllPairs, Contains, suc}
use Rattle.std.specs.List.{AllZip}
use Rattle.std.proofs.lemmas.List.Elements.{All-head, All-tail, Contains-push}
use Rattle.hack_base.specs.declared.writes.Sink.{Ghosts as Taking}
use Rattle.hack_bisect.specs.Searches.{Trial as Tried}
use Rattle.hack_bisect.specs.declared.find.Least.{Least as LeastPlace}
use Rattle.hack_bisect.specs.declared.tries.TrialOutcome.TheVariants as outcome
use Rattle.hack_conflicts.specs.declared.tried.BuildOutcome.{BuildOutcome as Built}
use Rattle.hack_conflicts.specs.declared.tried.BuildOutcome.TheVariants as built
use Rattle.hack_culprits.specs.Built.{AreBrokenLast, AreHanded, Made, Tells, step_at, step_outcome, steps_from, AreUnbroken as AreUnbrokenRuns}
use Rattle.hack_culprits.specs.declared.fault.CulpritsFault.{CulpritsFault}
use Rattle.hack_culprits.specs.declared.fault.CulpritsFault.TheVariants as cause
use Rattle.hack_hunt.specs.Hunts.{EndsSo, RanHunts, Spot}
use Rattle.hack_hunt.specs.declared.hunt.Hunted.{Hunted}
use Rattle.hack_load.specs.Contexts.{ContextRecord}
use Rattle.hack_msrv.specs.Searches.{AreSearches, AreTried, AreUnbroken, IsHalving, IsSearchOf, IsSearched, IsTrialAt, handed_in_all, outcome_of, uses_of}
use Rattle.hack_msrv.specs.Trials.{AreTrials, ComesTo, Trial, handed_in, trial_steps}
use Rattle.hack_msrv.specs.declared.found.Found.{Found}
use Rattle.hack_msrv.specs.declared.found.Found.TheVariants as found
use Rattle.hack_msrv.specs.declared.trial.Came.{Came}
use Rattle.hack_msrv.specs.declared.trial.Came.TheVariants as trial
use Rattle.hack_plan.specs.View.{PlanView}
use Rattle.hack_process.specs.Calls.{Call}
use Rattle.hack_process.specs.declared.fault.ProcessFault.{ProcessFault}
use Rattle.hack_session.specs.Histories.{passed_step}
use Rattle.hack_session.specs.JoinedSteps.{manner_stays}
use Rattle.hack_session.specs.StepEffects.{Does, DoesAll, Ends, State, state}
use Rattle.hack_session.specs.StepOutput.{Manner, manner_of, streams}
use Rattle.hack_session.specs.declared.starter.Starter.{Starter}
use Rattle.hack_session.specs.declared.step.Handed.{Handed}
use Rattle.hack_session.specs.declared.step.Outcome.TheVariants.{Passed, Failed}
use Rattle.hack_session.specs.declared.step.Step.{Step}
use Rattle.hack_side.specs.Beside.{DoesSteps}
use Rattle.hack_run.specs.Conclusions.{IsBrokenOff, hunt_conclusion, version_conclusion}
use Rattle.hack_run.specs.Shown.{StopsAtEnd, is_at_end}
use Rattle.hack_run.proofs.ConclusionLemmas.{broken_one, version_broken}
use Rattle.hack_run.proofs.StartedLemmas.{unbroken_search}

-- steps were performed, and none behind one with which the call is at its end
abbrev pub Stops : Type 0 → Bool → Manner → PlanView → List Handed → State → State → Type 0
Stops tells k m plan steps a b = (did : DoesAll tells k m plan steps a b) × StopsAtEnd tells k m plan steps a b did

on-off : {X : Type 0} (b : Bool) → b ≡ true → b ≡ false → X
on-off b on off = let e : true ≡ false = sym on ∙ off in absurd (cc)

-- ---- steps of a starter

module _ (tells : Type 0) (k : Bool) (m : Manner) (plan : PlanView) where
  none-behind : (steps more : List Handed) (a b : State) → DoesAll tells k m plan steps a b → (steps ≡ []) ⊎ (is_at_end a ≡ false) → (more ≡ []) ⊎ (is_at_end b ≡ false) → (steps ++ more ≡ []) ⊎ (is_at_end a ≡ false)
  none-behind [] more a b did here (inl none) = inl none
  none-behind [] more a b did here (inr goes) = inr (sym (ap is_at_end did) ∙ goes)
  none-behind (h ∷ steps) more a b did (inl none) later = let e : h ∷ steps ≡ [] = none in absurd (cc)
  none-behind (h ∷ steps) more a b did (inr goes) later = inr goes

  -- steps behind others, with which the call isn't at its end
  stops-joined : (steps more : List Handed) (a b c : State) → Stops tells k m plan steps a b → Stops tells k m plan more b c → (more ≡ []) ⊎ (is_at_end b ≡ false) → Stops tells k m plan (steps ++ more) a c
  stops-joined [] more a b c p q goes = subst (λ (s : State). Stops tells k m plan more s c) p.0 q
  stops-joined (h ∷ steps) more a b c p q goes =
      let rest = stops-joined steps more p.0.0 b c (p.0.2, p.1.1) q goes in
      ((p.0.0, p.0.1, rest.0), (none-behind steps more p.0.0 b p.0.2 p.1.0 goes, rest.1))

  -- with a step that passed a call isn't at its end unless it was
  passed-on : (h : Handed) (a b : State) → h.outcome ≡ Passed → Does tells k m plan h a b → is_at_end b ≡ is_at_end a
  passed-on h a b is did = go did.0 did.3
    where
      go : (came : Result (Unit {0}) ProcessFault) → Ends k m h came (record a { scene = did.1 }) b → is_at_end b ≡ is_at_end a
      go (Ok done) ends = ap is_at_end ends.1
      go (Err fault) ends = let e : Passed ≡ Failed = sym is ∙ ends.0 in absurd (cc)

  all-passed : (steps : List Step) (a b : State) → is_at_end a ≡ false → DoesAll tells k m plan (map passed_step steps) a b → Stops tells k m plan (map passed_step steps) a b × (is_at_end b ≡ false)
  all-passed [] a b goes did = ((did, tt), ap is_at_end did ∙ goes)
  all-passed (s ∷ steps) a b goes did =
      let on = passed-on (passed_step s) a did.0 refl did.1 ∙ goes in
      let rest = all-passed steps did.0 b on did.2 in
      (((did.0, did.1, rest.0.0), (inr on, rest.0.1)), rest.1)

  front-passed : (front : List Step) (last : Handed) (a b : State) → is_at_end a ≡ false → DoesAll tells k m plan (map passed_step front ++ last ∷ []) a b → Stops tells k m plan (map passed_step front ++ last ∷ []) a b
  front-passed [] last a b goes did = (did, (inl refl, tt))
  front-passed (s ∷ front) last a b goes did =
      let on = passed-on (passed_step s) a did.0 refl did.1 ∙ goes in
      let rest = front-passed front last did.0 b on did.2 in
      ((did.0, did.1, rest.0), (inr on, rest.1))

  -- the steps of a trial
  trial-stops : (steps : List Step) (handed : List Handed) (came : Came) (a b : State) → is_at_end a ≡ false → ComesTo (is_at_end b) steps handed came → DoesAll tells k m plan handed a b
      → Stops tells k m plan handed a b × (came ≢ trial.Broken → is_at_end b ≡ false)
  trial-stops steps handed trial.Passed a b goes is did =
      let all = all-passed steps a b goes (subst (λ (l : List Handed). DoesAll tells k m plan l a b) is did) in
      (subst (λ (l : List Handed). Stops tells k m plan l a b) (sym is) all.0, λ _. all.1)
  trial-stops steps handed (trial.Failed place) a b goes is did = (
    subst (λ (l : List Handed). Stops tells k m plan l a b) (sym is.1.told) (front-passed is.1.front _ a b goes (subst (λ (l : List Handed). DoesAll tells k m plan l a b) is.1.told did)),
    λ _. is.0,
  )
  trial-stops steps handed trial.Broken a b goes is did = (
    subst (λ (l : List Handed). Stops tells k m plan l a b) (sym is.1.told) (front-passed is.1.front _ a b goes (subst (λ (l : List Handed). DoesAll tells k m plan l a b) is.1.told did)),
    λ whole. absurd (whole refl),
  )

-- what a starter's steps did, in a manner that stays
pub starter_does : {C O E : Type 0} (tells : Type 0) (calls : C → List Call) (o : Taking O) (e : Taking E) (k : Bool) (m : Manner) (plan : PlanView) (handed : List Handed) (a b : Starter C O E)
    → (a.keep_going ≡ k) × (manner_of a.log_group a.term.now ≡ m) → DoesSteps tells calls o e plan handed a b
    → DoesAll tells k m plan handed (state (calls a.caller.now) (streams o e a.out.now a.err.now) a.fault.now a.term.now.error a.refused) (state (calls b.caller.now) (streams o e b.out.now b.err.now) b.fault.now b.term.now.error b.refused)
    × ((b.keep_going ≡ k) × (manner_of b.log_group b.term.now ≡ m))
starter_does tells calls o e k m plan handed a b same did =
    let before = state (calls a.caller.now) (streams o e a.out.now a.err.now) a.fault.now a.term.now.error a.refused in
    let after = state (calls b.caller.now) (streams o e b.out.now b.err.now) b.fault.now b.term.now.error b.refused in (
      subst (λ (n : Manner). DoesAll tells k n plan handed before after) same.1 (subst (λ (j : Bool). DoesAll tells j (manner_of a.log_group a.term.now) plan handed before after) same.0 did.8),
      (sym did.5 ∙ same.0, sym (manner_stays a.log_group b.log_group a.term.now b.term.now did.6 did.7) ∙ same.1),
    )

-- ---- searches for the least versions

-- no search but the last was broken off
abbrev AreWholeButLast : List Found → Type 0
AreWholeButLast all = AreUnbroken all ⊎ ((before : List Found) × AreUnbroken before × (all ≡ before ++ found.Broken ∷ []))

first-whole : (one next : Found) (more : List Found) → AreWholeButLast (one ∷ next ∷ more) → one ≢ found.Broken
first-whole one next more (inl whole) = All-head (λ (f : Found). f ≢ found.Broken) one (next ∷ more) whole
first-whole one next more (inr ([], whole, is)) = absurd (cc is)
first-whole one next more (inr (f ∷ before, whole, is)) = λ e. All-head (λ (f : Found). f ≢ found.Broken) f before whole (cc (is, e))

rest-whole : (one next : Found) (more : List Found) → AreWholeButLast (one ∷ next ∷ more) → AreWholeButLast (next ∷ more)
rest-whole one next more (inl whole) = inl (All-tail (λ (f : Found). f ≢ found.Broken) one (next ∷ more) whole)
rest-whole one next more (inr ([], whole, is)) = absurd (cc is)
rest-whole one next more (inr (f ∷ before, whole, is)) = inr (before, All-tail (λ (f : Found). f ≢ found.Broken) f before whole, cc is)

-- `st` is a runner's state, and what it does it does in this manner, as long as it is fine
module _ {R : Type 0} (ran : PlanView → List Handed → R → R → Type 0) (st : R → State) (Fine : R → Type 0) (tells : Type 0) (k : Bool) (m : Manner)
    (does : (plan : PlanView) (handed : List Handed) (a b : R) → Fine a → ran plan handed a b → DoesAll tells k m plan handed (st a) (st b) × Fine b) where
  ends : R → Bool
  ends a = is_at_end (st a)

  -- a trial, and those behind it where it isn't broken
  trials-stop : (plan : PlanView) (p : ℕ) (uses : List ℕ) (tried : List Tried) (trials : List Trial) (a b : R) → Fine a → is_at_end (st a) ≡ false → AllZip (IsTrialAt uses) tried trials → AllPairs (λ earlier later. earlier.outcome ≢ outcome.Broken) tried
      → AreTrials ran (λ a. is_at_end (st a)) plan p trials a b → Stops tells k m plan (handed_in trials) (st a) (st b) × Fine b × (All (λ (t : Trial). t.came ≢ trial.Broken) trials → is_at_end (st b) ≡ false)
  trials-stop plan p uses [] [] a b fine goes zip whole same = ((ap st same, tt), subst Fine (sym same) fine, λ _. ap is_at_end (ap st same) ∙ goes)
  trials-stop plan p uses [] (t ∷ trials) a b fine goes zip whole h = absurd zip
  trials-stop plan p uses (x ∷ tried) [] a b fine goes zip whole h = absurd zip
  trials-stop plan p uses (x ∷ []) (t ∷ []) a b fine goes zip whole h =
      let did = does plan t.handed a h.0 fine h.1 in
      let here = trial-stops tells k m plan (trial_steps plan p h.2.version) t.handed t.came (st a) (st h.0) goes h.2.comes did.0 in
      let at = subst (λ (x : R). Stops tells k m plan t.handed (st a) (st x) × Fine x × (t.came ≢ trial.Broken → is_at_end (st x) ≡ false)) (sym h.3) (here.0, did.1, here.1) in
      (subst (λ (l : List Handed). Stops tells k m plan l (st a) (st b)) (sym (append-nil t.handed)) at.0, at.1, λ all. at.2 (All-head (λ (t : Trial). t.came ≢ trial.Broken) t [] all))
  trials-stop plan p uses (x ∷ []) (t ∷ u ∷ trials) a b fine goes zip whole h = absurd zip.1
  trials-stop plan p uses (x ∷ y ∷ tried) (t ∷ []) a b fine goes zip whole h = absurd zip.1
  trials-stop plan p uses (x ∷ y ∷ tried) (t ∷ u ∷ trials) a b fine goes zip whole h =
      let did = does plan t.handed a h.0 fine h.1 in
      let here = trial-stops tells k m plan (trial_steps plan p h.2.version) t.handed t.came (st a) (st h.0) goes h.2.comes did.0 in
      let on = here.1 (λ e. whole 0 1 x (omega arith) (omega arith) (zip.0.outcome ∙ ap outcome_of e)) in
      let rest = trials-stop plan p uses (y ∷ tried) (u ∷ trials) h.0 b did.1 on zip.1 (λ i j d lt within. whole (suc i) (suc j) d (omega (arith, lt)) (omega (arith, within))) h.3 in
      (stops-joined tells k m plan t.handed (handed_in (u ∷ trials)) (st a) (st h.0) (st b) here.0 rest.0 (inr on), rest.1, λ all. rest.2 (All-tail (λ (t : Trial). t.came ≢ trial.Broken) t (u ∷ trials) all))

  search-stops : (plan : PlanView) (p : ℕ) (trials : List Trial) (one : Found) (a b : R) → Fine a → is_at_end (st a) ≡ false → IsSearchOf plan p trials one → AreTrials ran (λ a. is_at_end (st a)) plan p trials a b
      → Stops tells k m plan (handed_in trials) (st a) (st b) × Fine b × (one ≢ found.Broken → is_at_end (st b) ≡ false)
  search-stops plan p trials one a b fine goes s h =
      let stopped = go one s in
      (stopped.0, stopped.1, λ whole. stopped.2 (unbroken_search plan p trials one whole s))
    where
      by-halving : {answer : LeastPlace} → IsHalving (uses_of plan p) trials answer → Stops tells k m plan (handed_in trials) (st a) (st b) × Fine b × (All (λ (t : Trial). t.came ≢ trial.Broken) trials → is_at_end (st b) ≡ false)
      by-halving {answer} half = trials-stop plan p (uses_of plan p) half.tried trials a b fine goes half.same half.search.whole h

      go : (one : Found) → IsSearchOf plan p trials one → Stops tells k m plan (handed_in trials) (st a) (st b) × Fine b × (All (λ (t : Trial). t.came ≢ trial.Broken) trials → is_at_end (st b) ≡ false)
      go found.Untried s = trials-stop plan p (uses_of plan p) [] trials a b fine goes (subst (λ (ts : List Trial). AllZip (IsTrialAt (uses_of plan p)) [] ts) (sym s.says.1) tt) (λ i j d lt within. absurd (omega (arith, within))) h
      go (found.Least version failed) s = by-halving s.says.1
      go (found.Nowhere version failed) s = by-halving s.says.0
      go found.Broken s = by-halving s.says

  searches-stop : (plan : PlanView) (p : ℕ) (searches : List (List Trial)) (all : List Found) (a b : R) → Fine a → is_at_end (st a) ≡ false → AreWholeButLast all → AreSearches plan p searches all → AreTried ran (λ a. is_at_end (st a)) plan p searches a b
      → Stops tells k m plan (handed_in_all searches) (st a) (st b) × (AreUnbroken all → is_at_end (st b) ≡ false)
  searches-stop plan p [] all a b fine goes last say same = ((ap st same, tt), λ _. ap is_at_end (ap st same) ∙ goes)
  searches-stop plan p (trials ∷ searches) [] a b fine goes last say h = absurd say
  searches-stop plan p (trials ∷ []) (one ∷ []) a b fine goes last say h =
      let here = search-stops plan p trials one a h.0 fine goes say.0 h.1 in
      let at = subst (λ (x : R). Stops tells k m plan (handed_in trials) (st a) (st x) × (one ≢ found.Broken → is_at_end (st x) ≡ false)) (sym h.2) (here.0, here.2) in
      (subst (λ (l : List Handed). Stops tells k m plan l (st a) (st b)) (sym (append-nil (handed_in trials))) at.0, λ all. at.1 (All-head (λ (f : Found). f ≢ found.Broken) one [] all))
  searches-stop plan p (trials ∷ []) (one ∷ next ∷ more) a b fine goes last say h = absurd say.1
  searches-stop plan p (trials ∷ s ∷ searches) (one ∷ []) a b fine goes last say h = absurd say.1
  searches-stop plan p (trials ∷ s ∷ searches) (one ∷ next ∷ more) a b fine goes last say h =
      let here = search-stops plan p trials one a h.0 fine goes say.0 h.1 in
      let on = here.2 (first-whole one next more last) in
      let rest = searches-stop plan (p + 1) (s ∷ searches) (next ∷ more) h.0 b here.1 on (rest-whole one next more last) say.1 h.2 in
      (stops-joined tells k m plan (handed_in trials) (handed_in_all (s ∷ searches)) (st a) (st h.0) (st b) here.0 rest.0 (inr on), λ all. rest.1 (All-tail (λ (f : Found). f ≢ found.Broken) one (next ∷ more) all))

  -- searches end where their call does, and then they come to no other conclusion
  pub searched_stops : (cx : ContextRecord) (plan : PlanView) (all : List Found) (a b : R) (s : IsSearched ran (λ a. is_at_end (st a)) plan all a b) → Fine a → is_at_end (st a) ≡ false
      → Stops tells k m plan (handed_in_all s.searches) (st a) (st b) × (is_at_end (st b) ≡ true → IsBrokenOff (version_conclusion cx plan all))
  searched_stops cx plan all a b s fine goes = elim s.end [
    | inl whole ↦ let stopped = searches-stop plan 0 s.searches all a b fine goes (inl whole.0) s.say s.tried in (stopped.0, λ on. on-off (is_at_end (st b)) on (stopped.1 whole.0))
    | inr cut ↦ let stopped = searches-stop plan 0 s.searches all a b fine goes (inr cut) s.say s.tried in
        (stopped.0, λ _. subst IsBrokenOff (sym (version_broken cx plan all (broken_one all (subst (λ (l : List Found). Contains l found.Broken) (sym cut.2) (Contains-push cut.0 found.Broken))))) tt)
  ]

  -- ---- searches for conflicts

  one-built : (plan : PlanView) (place : ℕ) (run : Made) (a b : R) → is_at_end (st a) ≡ false → DoesAll tells k m plan (step_at place run ∷ []) (st a) (st b) → Tells (is_at_end (st b)) run.outcome → run.outcome ≢ built.Broken → is_at_end (st b) ≡ false
  one-built plan place run a b goes did tells_it whole = go run.outcome refl tells_it
    where
      go : (o : Built) → run.outcome ≡ o → Tells (is_at_end (st b)) o → is_at_end (st b) ≡ false
      go built.Passed is t = ap is_at_end did.2 ∙ passed-on tells k m plan (step_at place run) (st a) did.0 (ap step_outcome is) did.1 ∙ goes
      go built.Failed is t = t
      go built.Broken is t = absurd (whole is)

  built-stop : (plan : PlanView) (place : ℕ) (runs : List Made) (a b : R) → Fine a → is_at_end (st a) ≡ false → AreUnbrokenRuns runs ⊎ AreBrokenLast runs → AreHanded ran (λ a. is_at_end (st a)) plan place runs a b
      → Stops tells k m plan (steps_from place runs) (st a) (st b) × (AreUnbrokenRuns runs → is_at_end (st b) ≡ false)
  built-stop plan place [] a b fine goes last same = ((ap st same, tt), λ _. ap is_at_end (ap st same) ∙ goes)
  built-stop plan place (run ∷ []) a b fine goes last h =
      let did = does plan (step_at place run ∷ []) a h.0 fine h.1 in
      subst (λ (x : R). Stops tells k m plan (steps_from place (run ∷ [])) (st a) (st x) × (AreUnbrokenRuns (run ∷ []) → is_at_end (st x) ≡ false)) (sym h.3)
      ((did.0, (inl refl, tt)), λ all. one-built plan place run a h.0 goes did.0 h.2 (All-head (λ (r : Made). r.outcome ≢ built.Broken) run [] all))
  built-stop plan place (run ∷ next ∷ runs) a b fine goes last h =
      let did = does plan (step_at place run ∷ []) a h.0 fine h.1 in
      let on = one-built plan place run a h.0 goes did.0 h.2 (whole last) in
      let rest = built-stop plan (place + 1) (next ∷ runs) h.0 b did.1 on (later last) h.3 in
      (stops-joined tells k m plan (step_at place run ∷ []) (steps_from (place + 1) (next ∷ runs)) (st a) (st h.0) (st b) (did.0, (inl refl, tt)) rest.0 (inr on), λ all. rest.1 (All-tail (λ (r : Made). r.outcome ≢ built.Broken) run (next ∷ runs) all))
    where
      whole : AreUnbrokenRuns (run ∷ next ∷ runs) ⊎ AreBrokenLast (run ∷ next ∷ runs) → run.outcome ≢ built.Broken
      whole (inl all) = All-head (λ (r : Made). r.outcome ≢ built.Broken) run (next ∷ runs) all
      whole (inr ([], end, is, rest, broken)) = absurd (cc is)
      whole (inr (r ∷ front, end, is, all, broken)) = λ e. All-head (λ (r : Made). r.outcome ≢ built.Broken) r front all (cc (is, e))

      later : AreUnbrokenRuns (run ∷ next ∷ runs) ⊎ AreBrokenLast (run ∷ next ∷ runs) → AreUnbrokenRuns (next ∷ runs) ⊎ AreBrokenLast (next ∷ runs)
      later (inl all) = inl (All-tail (λ (r : Made). r.outcome ≢ built.Broken) run (next ∷ runs) all)
      later (inr ([], end, is, rest, broken)) = absurd (cc is)
      later (inr (r ∷ front, end, is, all, broken)) = inr (front, end, cc is, All-tail (λ (r : Made). r.outcome ≢ built.Broken) r front all, broken)

  pub hunt_stops : (cx : ContextRecord) (most : Option ℕ) (spots : List Spot) (came : Result (List Hunted) CulpritsFault) (verbose : Bool) (old new : PlanView) (a b : R) (h : RanHunts ran (λ a. is_at_end (st a)) cx most spots came old new a b) → Fine a → is_at_end (st a) ≡ false
      → Stops tells k m new (steps_from (length old.entries) h.built) (st a) (st b) × (is_at_end (st b) ≡ true → IsBrokenOff (hunt_conclusion verbose new came))
  hunt_stops cx most spots came verbose old new a b h fine goes = go came h.hunts.end
    where
      stop : AreUnbrokenRuns h.built ⊎ AreBrokenLast h.built → Stops tells k m new (steps_from (length old.entries) h.built) (st a) (st b) × (AreUnbrokenRuns h.built → is_at_end (st b) ≡ false)
      stop last = built-stop new (length old.entries) h.built a b fine goes last h.handed

      whole : {P : Type 0} → AreUnbrokenRuns h.built → Stops tells k m new (steps_from (length old.entries) h.built) (st a) (st b) × (is_at_end (st b) ≡ true → P)
      whole {P} all = let stopped = stop (inl all) in (stopped.0, λ on. on-off (is_at_end (st b)) on (stopped.1 all))

      go : (came : Result (List Hunted) CulpritsFault) → EndsSo came h.hunts.left h.hunts.hunted h.built new → Stops tells k m new (steps_from (length old.entries) h.built) (st a) (st b) × (is_at_end (st b) ≡ true → IsBrokenOff (hunt_conclusion verbose new came))
      go (Ok all) end = whole end.2
      go (Err cause.Ended) end = ((stop (inr end)).0, λ _. tt)
      go (Err cause.TooManyRuns) end = whole end.0
      go (Err cause.Memory) end = whole end
