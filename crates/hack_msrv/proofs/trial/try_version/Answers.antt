use Rattle.std.proofs.Common.{◌≡◌, List, ◌++◌, map, sym, subst, ap, ◌∙◌}
use Rattle.hack_plan.specs.declared.parts.Preparation.{Preparation}
use Rattle.hack_session.specs.Histories.{passed_step}
use Rattle.hack_session.specs.declared.step.Handed.{Handed}
use Rattle.hack_session.specs.declared.step.Step.TheVariants.{Prepare, Run}
use Rattle.hack_msrv.specs.Trials.{ComesTo, places_of, trial_steps}
use Rattle.hack_msrv.proofs.TrialLemmas.{comes-behind}
use Rattle.hack_msrv.proofs.trial.try_version.Goals as goal

pub returns : goal.returns
returns g c =
    let plan = c.args.plan.now in
    let v = c.args.version.now in
    let ended = g.R.Judge.ended c.run_all.new.runner in
    let before = c.if-not-prepare_all.ensures in
    let runs = c.run_all.ensures in
    let passed : before.0 ≡ map passed_step (map Prepare v.preparations.items) = before.2 ∙ ap (λ (l : List Preparation). map passed_step (map Prepare l)) c.as_slice.ensures.value in (
      before.0 ++ runs.0,
      g.met.R.Runner.ran_more plan before.0 runs.0 c.args.runner.now c.prepare_all.new.runner c.run_all.new.runner before.1 runs.1,
      subst (λ (l : List Handed). ComesTo ended (trial_steps plan c.args.member v) (l ++ runs.0) c.run_all.result) (sym passed)
          (comes-behind ended (map Prepare v.preparations.items) (map Run (places_of plan c.args.member v)) runs.0 c.run_all.result runs.2),
    )
