-- How searches end that were broken off.
use Rattle.std.proofs.Common.{◌≡◌, ◌∙◌, ◌+◌, ◌++◌, ◌∷◌, ◌⊎◌, [], ℕ, Bool, Err, List, Ok, Option, Result, ap, append-nil, append_assoc, false, inl, inr, length, map, refl, subst, sym, true}
use Rattle.std.specs.List.{AllZip}
use Rattle.hack_bisect.specs.Searches.{Trial as Tried}
use Rattle.hack_bisect.specs.declared.tries.TrialOutcome.{TrialOutcome}
use Rattle.hack_bisect.specs.declared.tries.TrialOutcome.TheVariants as outcome
use Rattle.hack_load.specs.Contexts.{ContextRecord}
use Rattle.hack_msrv.specs.Searches.{AreSearches, AreTried, IsSearchOf, IsSearched, IsTrialAt, handed_in_all, outcome_of, uses_of}
use Rattle.hack_msrv.specs.Trials.{AreTrials, ComesTo, Trial, failed_step, handed_in, trial_steps}
use Rattle.hack_msrv.specs.declared.found.Found.{Found}
use Rattle.hack_msrv.specs.declared.found.Found.TheVariants.{Broken}
use Rattle.hack_msrv.specs.declared.trial.Came.{Came}
use Rattle.hack_msrv.specs.declared.trial.Came.TheVariants as came
use Rattle.hack_plan.specs.View.{PlanView}
use Rattle.hack_session.specs.Histories.{passed_step}
use Rattle.hack_session.specs.Schedules.{is_place}
use Rattle.hack_session.specs.declared.step.Handed.{Handed}
use Rattle.hack_conflicts.specs.declared.tried.BuildOutcome.{BuildOutcome as Built}
use Rattle.hack_conflicts.specs.declared.tried.BuildOutcome.TheVariants as built
use Rattle.hack_culprits.specs.Built.{AreBrokenLast, AreHanded, Made, Tells, step_at, step_outcome, steps_from}
use Rattle.hack_culprits.specs.declared.fault.CulpritsFault.{CulpritsFault}
use Rattle.hack_culprits.specs.declared.fault.CulpritsFault.TheVariants as cause
use Rattle.hack_hunt.specs.Hunts.{EndsSo, RanHunts, Spot}
use Rattle.hack_hunt.specs.declared.hunt.Hunted.{Hunted}
use Rattle.hack_session.specs.declared.step.Step.TheVariants.{Run}
use Rattle.hack_run.specs.Conclusions.{AreBrokenOff, IsBrokenOff, hunt_conclusion, version_conclusion}
use Rattle.hack_run.proofs.ConclusionLemmas.{none_broken, version_found}

nil-push : {X : Type 0} (before : List X) (x : X) → [] ≡ before ++ x ∷ [] → ⊥
nil-push [] x is = cc
nil-push (y ∷ before) x is = cc

abbrev rest : {X : Type 0} → List X → List X
rest [] = []
rest (x ∷ xs) = xs

came-broken : (c : Came) → outcome.Broken ≡ outcome_of c → c ≡ came.Broken
came-broken came.Passed is = absurd (cc is)
came-broken (came.Failed place) is = absurd (cc is)
came-broken came.Broken is = refl

-- steps behind others
behind : (front handed : List Handed) (ended : Bool) → AreBrokenOff handed ended → AreBrokenOff (front ++ handed) ended
behind front handed ended r = (front ++ r.0, r.1, ap (λ (l : List Handed). front ++ l) r.2 ∙ sym (append_assoc front r.0 (failed_step r.1 ∷ [])), r.3)

module _ {R : Type 0} (ran : PlanView → List Handed → R → R → Type 0) (ended : R → Bool) where
  -- the last trial was broken
  one-trial : (plan : PlanView) (p : ℕ) (t : Trial) (trials : List Trial) (tried : List Tried) (uses : List ℕ) (a b : R) → outcome.Broken ≡ outcome_of t.came → tried ≡ [] → AllZip (IsTrialAt uses) tried trials → AreTrials ran ended plan p (t ∷ trials) a b
      → AreBrokenOff (handed_in (t ∷ trials)) (ended b)
  one-trial plan p t [] tried uses a b is none zip tries =
      let comes = subst (λ (c : Came). ComesTo (ended tries.0) (trial_steps plan p tries.2.version) t.handed c) (came-broken t.came is) tries.2.comes in
      (map passed_step comes.1.front, comes.0, append-nil t.handed ∙ comes.1.told, subst (λ (x : R). (is_place comes.0 ≡ false) ⊎ (ended x ≡ true)) (sym tries.3) comes.2)
  one-trial plan p t (u ∷ trials) [] uses a b is none zip tries = absurd zip
  one-trial plan p t (u ∷ trials) (x ∷ tried) uses a b is none zip tries = absurd (cc none)

  last-trial : (plan : PlanView) (p : ℕ) (uses : List ℕ) (before : List Tried) (place : ℕ) (tried : List Tried) (trials : List Trial) (a b : R) → tried ≡ before ++ record { place = place; outcome = outcome.Broken } ∷ [] → AllZip (IsTrialAt uses) tried trials
      → AreTrials ran ended plan p trials a b → AreBrokenOff (handed_in trials) (ended b)
  last-trial plan p uses before place [] trials a b is zip tries = absurd (nil-push before _ is)
  last-trial plan p uses before place (x ∷ tried) [] a b is zip tries = absurd zip
  last-trial plan p uses [] place (x ∷ tried) (t ∷ trials) a b is zip tries =
      one-trial plan p t trials tried uses a b (sym (ap first-outcome is) ∙ zip.0.outcome) (ap rest is) zip.1 tries
    where
      first-outcome : List Tried → TrialOutcome
      first-outcome [] = outcome.Broken
      first-outcome (y ∷ ys) = y.outcome
  last-trial plan p uses (z ∷ before) place (x ∷ tried) (t ∷ trials) a b is zip tries =
      behind t.handed (handed_in trials) (ended b) (last-trial plan p uses before place tried trials tries.0 b (ap rest is) zip.1 tries.3)

  -- the last search was broken off
  one-search : (plan : PlanView) (p : ℕ) (trials : List Trial) (more : List (List Trial)) (found : List Found) (a b : R) → IsSearchOf plan p trials Broken → found ≡ [] → AreSearches plan (p + 1) more found → AreTried ran ended plan p (trials ∷ more) a b
      → AreBrokenOff (handed_in_all (trials ∷ more)) (ended b)
  one-search plan p trials [] found a b s none say tried =
      let h = s.says in
      let last = last-trial plan p (uses_of plan p) h.search.answered.0 h.search.answered.1 h.tried trials a tried.0 h.search.answered.2 h.same tried.1 in
      subst (λ (l : List Handed). AreBrokenOff l (ended b)) (sym (append-nil (handed_in trials))) (subst (λ (x : R). AreBrokenOff (handed_in trials) (ended x)) (sym tried.2) last)
  one-search plan p trials (u ∷ more) [] a b s none say tried = absurd say
  one-search plan p trials (u ∷ more) (f ∷ found) a b s none say tried = absurd (cc none)

  last-search : (plan : PlanView) (p : ℕ) (before found : List Found) (searches : List (List Trial)) (a b : R) → found ≡ before ++ Broken ∷ [] → AreSearches plan p searches found → AreTried ran ended plan p searches a b → AreBrokenOff (handed_in_all searches) (ended b)
  last-search plan p before [] searches a b is say tried = absurd (nil-push before Broken is)
  last-search plan p before (f ∷ found) [] a b is say tried = absurd say
  last-search plan p [] (f ∷ found) (trials ∷ more) a b is say tried =
      one-search plan p trials more found a b (subst (IsSearchOf plan p trials) (ap first is) say.0) (ap rest is) say.1 tried
    where
      first : List Found → Found
      first [] = Broken
      first (g ∷ gs) = g
  last-search plan p (g ∷ before) (f ∷ found) (trials ∷ more) a b is say tried =
      behind (handed_in trials) (handed_in_all more) (ended b) (last-search plan (p + 1) before found more tried.0 b (ap rest is) say.1 tried.2)

  -- the searches were broken off where that is what they come to
  pub broken_last : (cx : ContextRecord) (plan : PlanView) (found : List Found) (a b : R) → (s : IsSearched ran ended plan found a b) → IsBrokenOff (version_conclusion cx plan found) → AreBrokenOff (handed_in_all s.searches) (ended b)
  broken_last cx plan found a b s is = elim s.end [
    | inl whole ↦ absurd (subst IsBrokenOff (version_found cx plan found (none_broken found whole.0)) is)
    | inr cut ↦ last-search plan 0 cut.0 found s.searches a b cut.2 s.say s.tried
  ]

-- ---- searches for conflicts

-- a search for conflicts was broken off only where the call is at its end
broken-cause : (verbose : Bool) (plan : PlanView) (came : Result (List Hunted) CulpritsFault) → IsBrokenOff (hunt_conclusion verbose plan came) → came ≡ Err cause.Ended
broken-cause verbose plan (Ok found) is = absurd is
broken-cause verbose plan (Err cause.Ended) is = refl
broken-cause verbose plan (Err cause.TooManyRuns) is = absurd is
broken-cause verbose plan (Err cause.Memory) is = absurd is

module _ {R : Type 0} (ran : PlanView → List Handed → R → R → Type 0) (ended : R → Bool) where
  -- the last run that was built is broken: the call is at its end with it
  last-built : (plan : PlanView) (place : ℕ) (front : List Made) (last : Made) (a b : R) → last.outcome ≡ built.Broken → AreHanded ran ended plan place (front ++ last ∷ []) a b
      → AreBrokenOff (steps_from place (front ++ last ∷ [])) (ended b)
  last-built plan place [] last a b broken h = (
    [],
    Run place,
    ap (λ (o : Built). record { step = Run place; outcome = step_outcome o } ∷ []) broken,
    inr (ap ended h.3 ∙ subst (λ (o : Built). Tells (ended h.0) o) broken h.2),
  )
  last-built plan place (m ∷ front) last a b broken h =
      behind (step_at place m ∷ []) (steps_from (place + 1) (front ++ last ∷ [])) (ended b) (last-built plan (place + 1) front last h.0 b broken h.3)

  pub hunt_broken : (cx : ContextRecord) (most : Option ℕ) (spots : List Spot) (came : Result (List Hunted) CulpritsFault) (verbose : Bool) (old new : PlanView) (a b : R) → (h : RanHunts ran ended cx most spots came old new a b)
      → IsBrokenOff (hunt_conclusion verbose new came) → AreBrokenOff (steps_from (length old.entries) h.built) (ended b)
  hunt_broken cx most spots came verbose old new a b h is =
      let why = broken-cause verbose new came is in
      let last : AreBrokenLast h.built = subst (λ (c : Result (List Hunted) CulpritsFault). EndsSo c h.hunts.left h.hunts.hunted h.built new) why h.hunts.end in
      subst (λ (made : List Made). AreBrokenOff (steps_from (length old.entries) made) (ended b)) (sym last.2)
      (last-built new (length old.entries) last.0 last.1 a b last.4 (subst (λ (made : List Made). AreHanded ran ended new (length old.entries) made a b) last.2 h.handed))
