-- What searches that weren't broken off, and whose reports were told, say.
use Rattle.std.proofs.Math.Bool.{or_comm}
use Rattle.std.proofs.Common.{◌≡◌, ◌∙◌, ◌+◌, ◌∷◌, [], ℕ, Bool, true, false, List, Result, Err, All, Contains, ap, inl, inr, subst, sym}
use Rattle.std.specs.Prelude.{◌||◌}
use Rattle.std.proofs.lemmas.List.Elements.{All-contains, All-head, All-tail, Contains-push}
use Rattle.hack_base.proofs.Members.{Contains-cons_cases, Contains-nil}
use Rattle.hack_conflicts.specs.declared.tried.BuildOutcome.{BuildOutcome}
use Rattle.hack_conflicts.specs.declared.tried.BuildOutcome.TheVariants.{Passed as RunPassed, Failed as RunFailed, Broken as RunBroken}
use Rattle.hack_culprits.specs.Built.{Explains, Made, step_at, step_outcome, steps_from}
use Rattle.hack_culprits.specs.declared.fault.CulpritsFault.{CulpritsFault}
use Rattle.hack_culprits.specs.declared.fault.CulpritsFault.TheVariants.{Ended}
use Rattle.hack_hunt.specs.Hunts.{EndsSo, Spot}
use Rattle.hack_hunt.specs.declared.hunt.Hunted.{Hunted}
use Rattle.hack_msrv.specs.Searches.{AreSearches, handed_in_all}
use Rattle.hack_msrv.specs.Trials.{Trial}
use Rattle.hack_msrv.specs.declared.found.Found.{Found}
use Rattle.hack_msrv.specs.declared.found.Found.TheVariants.{Broken}
use Rattle.hack_msrv.proofs.SearchLemmas.{broken_fails}
use Rattle.hack_plan.specs.View.{PlanView}
use Rattle.hack_session.specs.Histories.{HasPassed}
use Rattle.hack_session.specs.declared.step.Outcome.TheVariants as step

-- where each step passed, no search was broken off
pub not_broken : (plan : PlanView) (searches : List (List Trial)) (found : List Found) → AreSearches plan 0 searches found → Contains found Broken → All HasPassed (handed_in_all searches) → ⊥
not_broken plan searches found such broken passed =
    let f = broken_fails plan 0 searches found such broken in
    let p = All-contains HasPassed (handed_in_all searches) f.0 passed f.1 in
    cc (p, f.2)

-- a warning is noted where the notices or the reports after them warn, or one was noted before
pub warned_later : (notes warned last warns now : Bool) → last ≡ (notes || warned) → now ≡ (last || warns) → now ≡ (notes || (warns || warned))
warned_later true warned last warns now is then = then ∙ ap (λ b. b || warns) is
warned_later false warned last warns now is then = then ∙ ap (λ b. b || warns) is ∙ or_comm warned warns

-- ---- searches for conflicts

-- a step that passed is of no broken run
unbroken : (outcome : BuildOutcome) → outcome ≡ RunBroken → step_outcome outcome ≡ step.Passed → ⊥
unbroken RunPassed broken passed = cc
unbroken RunFailed broken passed = cc
unbroken RunBroken broken passed = cc

broken-built : (place : ℕ) (built : List Made) (m : Made) → Contains built m → m.outcome ≡ RunBroken → All HasPassed (steps_from place built) → ⊥
broken-built place [] m has broken all = absurd (Contains-nil m has)
broken-built place (x ∷ built) m has broken all =
    elim (Contains-cons_cases x built m has) [
      | inl same ↦ unbroken x.outcome (ap (λ (m : Made). m.outcome) same ∙ broken) (All-head HasPassed (step_at place x) (steps_from (place + 1) built) all)
      | inr more ↦ broken-built (place + 1) built m more broken (All-tail HasPassed (step_at place x) (steps_from (place + 1) built) all)
    ]

-- where each step passed, no search was broken off
pub not_cut : (place : ℕ) (came : Result (List Hunted) CulpritsFault) (left : List Spot) (hunted : List Hunted) (built : List Made) (plan : PlanView) → EndsSo came left hunted built plan → came ≡ Err Ended → All HasPassed (steps_from place built) → ⊥
not_cut place came left hunted built plan end is all =
    let broken : Explains Ended built plan = subst (λ (c : Result (List Hunted) CulpritsFault). EndsSo c left hunted built plan) is end in
    broken-built place built broken.1 (subst (λ (l : List Made). Contains l broken.1) (sym broken.2) (Contains-push broken.0 broken.1)) broken.4 all
