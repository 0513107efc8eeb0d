use Rattle.std.proofs.Common.{◌≡◌, ◌-◌, ◌++◌, List, length}
use Rattle.hack_session.specs.declared.step.Handed.{Handed}
use Rattle.hack_session.specs.Histories.{IsSameCourse}
use Rattle.hack_session.proofs.runner.drive.Given as goal

abbrev pub invariant-loop-step : goal.invariant-loop-step
invariant-loop-step g l =
    IsSameCourse l.session l.fn.session
    × ((more : List Handed) × (l.session.handed ≡ l.fn.session.handed ++ more) × g.R.Runner.ran l.fn.session.plan more l.fn.runner l.runner)

abbrev pub decreases-loop-step : goal.decreases-loop-step
decreases-loop-step g l = length l.session.schedule - length l.session.handed
