use Rattle.std.proofs.Common.{◌≡◌, ◌-◌, length}
use Rattle.hack_session.specs.Cursors.{steps_left}
use Rattle.hack_session.proofs.schedule.Cursor.next.Given as goal

abbrev pub invariant-loop-version : goal.invariant-loop-version
invariant-loop-version l = steps_left l.piece l.plan l.self ≡ steps_left l.piece l.plan l.fn.self

abbrev pub decreases-loop-version : goal.decreases-loop-version
decreases-loop-version l = length l.plan.versions - l.self.version
