use Rattle.hack_session.proofs.DriveLemmas.{handed_on, driven_more}
use Rattle.hack_session.proofs.runner.drive.Goals as goal

pub loop-step-preserved : goal.loop-step-preserved
loop-step-preserved g c =
    let d = driven_more g.R.Runner.ran c.args.session c.loop-step.session c.done.new.self (record { step = c.in-Some.step; outcome = c.step-outcome.result }) c.args.runner.now c.loop-step.runner c.step-outcome.new.self c.plan.result.now
    g.met.R.Runner.ran_more
    (handed_on c.loop-step.session c.done.new.self c.in-Some.step c.step-outcome.result c.in-Some.ensures.next c.done.ensures)
    c.plan.ensures
    (record { same = c.loop-step.invariant.0; more = c.loop-step.invariant.1.0; handed = c.loop-step.invariant.1.1; ran_them = c.loop-step.invariant.1.2 })
    c.step-outcome.ensures in
    (d.same, (d.more, d.handed, d.ran_them))
