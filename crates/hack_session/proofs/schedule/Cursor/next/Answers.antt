use Rattle.std.proofs.Common.{◌≡◌, ◌∙◌, Some, length, slice_get, sym}
use Rattle.hack_session.specs.Schedules.{in_piece}
use Rattle.hack_session.proofs.CursorLemmas.{left_next, left_taken}
use Rattle.hack_session.proofs.ScheduleLemmas.{found, tiled_at}
use Rattle.hack_session.proofs.schedule.Cursor.next.Goals as goal

at : (c : goal.In-Some) → slice_get c.args.plan.now.versions c.loop-version.self.version ≡ Some c.in-Some.version.now
at c = found c.args.plan.now.versions c.versions.result.now c.loop-version.self.version c.in-Some.version.now c.versions.ensures.value c.in-Some.ensures.lookup.3.0 (c.in-Some.ensures.lookup.3.1 c.in-Some.version.now)

pub step_at-requires-clause-order : goal.step_at-requires-clause-order
step_at-requires-clause-order c = (tiled_at 0 c.args.plan.now.versions (length c.args.plan.now.entries) c.loop-version.self.version c.in-Some.version.now c.versions.ensures.tiled (at c)).0

pub step_at-requires-clause-within : goal.step_at-requires-clause-within
step_at-requires-clause-within c = (tiled_at 0 c.args.plan.now.versions (length c.args.plan.now.entries) c.loop-version.self.version c.in-Some.version.now c.versions.ensures.tiled (at c)).1

pub returns-in-Some-step_at-clause-taken : goal.returns-in-Some-step_at-clause-taken
returns-in-Some-step_at-clause-taken c =
    sym c.loop-version.invariant
    ∙ left_taken (in_piece c.args.piece (length c.args.plan.now.entries)) c.args.plan.now.versions c.loop-version.self.version c.loop-version.self.taken c.in-Some.version.now c.in-Some-step_at.step
    (found c.args.plan.now.versions c.versions.result.now c.loop-version.self.version c.in-Some.version.now c.versions.ensures.value c.in-Some.ensures.lookup.3.0 (c.in-Some.ensures.lookup.3.1 c.in-Some.version.now))
    (sym c.in-Some-step_at.ensures.value)

pub loop-version-preserved : goal.loop-version-preserved
loop-version-preserved c =
    sym (left_next (in_piece c.args.piece (length c.args.plan.now.entries)) c.args.plan.now.versions c.loop-version.self.version c.loop-version.self.taken c.in-Some.version.now
    (found c.args.plan.now.versions c.versions.result.now c.loop-version.self.version c.in-Some.version.now c.versions.ensures.value c.in-Some.ensures.lookup.3.0 (c.in-Some.ensures.lookup.3.1 c.in-Some.version.now))
    c.in_default-step_at.ensures.value)
    ∙ c.loop-version.invariant
