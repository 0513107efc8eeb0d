use Rattle.hack_msrv.proofs.TrialLemmas.{stops-prepared}
use Rattle.hack_msrv.proofs.trial.prepare_all.Goals as goal

pub returns-in-Failed : goal.returns-in-Failed
returns-in-Failed g c =
    let before = c.loop-preparation.invariant in
    stops-prepared g.R.Runner.ran g.met.R.Runner.ran_more c.args.plan.now c.args.preparations.now c.loop-preparation.preparation-index _ c.loop-preparation-test.true before.0 before.2
    c.args.runner.now c.loop-preparation.runner c.step.new.self before.1 (rw c.in-Failed.is at c.step.ensures)
