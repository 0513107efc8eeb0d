use Rattle.std.proofs.Common.{◌≡◌, List, map, take}
use Rattle.hack_session.specs.Histories.{passed_step}
use Rattle.hack_session.specs.declared.step.Handed.{Handed}
use Rattle.hack_session.specs.declared.step.Step.TheVariants.{Prepare}
use Rattle.hack_msrv.proofs.trial.prepare_all.Given as goal

-- the preparations so far passed
abbrev pub invariant-loop-preparation : goal.invariant-loop-preparation
invariant-loop-preparation g l =
    (handed : List Handed) × g.R.Runner.ran l.plan handed l.fn.runner l.runner × (handed ≡ map passed_step (map Prepare (take l.preparation-index l.preparations)))
